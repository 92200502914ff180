-- The nodes of step lists and graphs: how they are read, their values, their facts.

-- nodes, their bytes, their reading for 3 and 6; exact in both directions
pub mod Nodes
-- the facts of a node, the name that it makes, the trace; when two facts are the same; their laws
pub mod Facts
-- the values of a node, causes 7 and 8: what fits, the tests that decide it, their passes
pub mod Values
-- crate rewriting at the facts of a protocol: runs, accepted graphs, and its theorems
pub mod Runs
-- the ruling of a list of nodes: 3 and 6, then 7, 8 and 9
pub mod Causes
-- a step list that is well formed: 2, 3, 6, 7 and 8 are absent from it
pub mod WellFormed
-- ── for the code ──
-- the table of nodes that their reading fills
pub mod Table
-- the names that nodes make
pub mod Names
