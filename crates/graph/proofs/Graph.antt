-- Dependency graphs, by theorems.

-- what is within the limits reads back from its bytes, and what reads is within them and stands there
pub mod Exact
