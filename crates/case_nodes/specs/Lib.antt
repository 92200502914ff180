-- What is left of a case once its files are ruled.

-- its step list is good
pub mod Good
-- a Result's answer as the refusal table's
pub use Rattle.rewriting.specs.Answers
