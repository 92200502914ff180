-- The rewriting by a statement of equality, by theorems.

-- the machine, whose test decides the statement, runs just where the nodes are a run
pub mod Laws
