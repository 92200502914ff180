-- What is left of a case once its property is ruled.

-- its property is good
pub mod Passes
