-- Messages: when they are equal, and their canonical form. What a reader must believe stands under definitions and in Promise; proofs/Theorems
-- says what is proved of it, and Promise, here and in proofs/, is all that the crates graph, property and writer may use.

-- ── definitions ──
-- the built-in functions by their names
pub mod Functions
-- figure 2's ten equations, the two behind them, and equality: their least congruence
pub mod Equations
-- products: factors with exponents, their order, and how they are written
pub mod Product
-- canonical terms, in document 01's words
pub mod Canonical
-- values in place of variables; ground terms
pub mod Substitution
-- ── the device ──
-- laws of whole numbers
pub mod Whole
-- terms of the same bytes are one
pub mod Encoding
-- the equations as a table, and what is asked of its rows
pub mod Rules
-- the rows of subterm rules
pub mod Table
-- a term as a product
pub mod Parts
-- the canonical form
pub mod Canon
-- ── what is promised ──
-- to the crates above
pub mod Promise
-- ── for the code ──
-- the canonical form of a filled-in term
pub mod Filled
-- factors gathered from left to right
pub mod Gather
