-- The writer over facts, by theorems.

-- The writer finds a source for each premise just where the machine's test passes.
pub mod Laws
