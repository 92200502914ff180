-- What is proved of messages, over the definitions of specs/. Theorems says it of the canonical form and equality, and Promise gives the crates
-- above what they are promised.

-- the rows of subterm rules are fit, and table, equations and words agree
pub mod Table
-- sums and inverses of exponents ascend; the parts of a written product
pub mod Parts
-- canonical terms and their parts
pub mod Canonical
-- the canonical form
pub mod Canon
-- ── what is proved ──
-- canonical form and equality, over the definitions
pub mod Theorems
-- the promise to the crates above
pub mod Promise
-- ── for the code ──
-- factors gathered from left to right
pub mod Gather
-- what is made at each function
pub mod Made
