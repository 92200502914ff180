-- The causes, by theorems.

-- the rows as the passes find them, by a test that decides the statement
pub mod Laws
