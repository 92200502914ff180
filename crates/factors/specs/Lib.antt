-- The factors of some terms in a table.

-- whole numbers in 32 bits
pub mod Whole
-- how many entries a product has, and its exponents in all; its laws: never more than the terms have symbols
pub mod Mass
-- a table's entries as factors with exponents; its laws: entering a factor
pub mod Rows
-- terms that stand in a slice one behind the other
pub mod Laid
-- what the walk does at a term, and that it gathers the term's factors
pub mod Way
-- what the functions of this crate are asked, and what they promise
pub mod Asked
