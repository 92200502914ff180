-- What is proved of the parts of a term.
-- sums and inverses ascend
pub mod Ascending
-- the parts of a written product are its factors
pub mod Laws
