-- What is proved of the canonical form.
-- it is well formed, ground and in range if the term is
pub mod Keeps
-- it is canonical
pub mod Canonical
-- equal terms have the same
pub mod Complete
-- the group that the equations make
pub mod Group
-- what exponents stand for in it
pub mod Values
-- a term equals its canonical form
pub mod Sound
-- it decides equality, and canonical terms stay
pub mod Decides
-- it weighs no more than the term, by any weight
pub mod Weight
-- it has no more symbols and bytes
pub mod Size
