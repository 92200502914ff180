-- The earliest sources, by theorems.

-- places in order, and the first of a list that ascends
pub mod Order
-- there is one such list of edges; it is accepted; it is the same by every statement that makes the same facts equal
pub mod Laws
-- the writer draws it
pub mod Drawn
