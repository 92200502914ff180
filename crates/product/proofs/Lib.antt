-- What the proofs of this crate's functions cite.

-- exponents: on which side a factor stands
pub mod RisePaths
-- one factor
pub mod PutPaths
-- the entries of a table
pub mod LayPaths
-- the product of some terms, and a term in place
pub mod ProductPaths
-- a base and the factors of its exponent
pub mod PowerPaths
-- exp in place
pub mod ExponentPaths
