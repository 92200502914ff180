-- The ruling of a graph file, by theorems.

-- the ruling is what the rows say, and passes just the dependency graphs
pub mod Laws
