-- The actions of nodes in numbers: the trace as the judge reads it.

-- ── what is promised ──
-- the tables: where each node's actions begin, the symbol of each action, the class of each argument; the trace that is read off them
pub mod Tables
-- the nodes with an action
pub mod Active
-- for crate property: terms as messages of the judge, equal by their canonical bytes
pub mod Terms
-- the truth of a property over the trace of nodes: for all protocols, nodes and formulas; where they are fit and right it is document 01's
pub mod Truth
-- ── for the code ──
-- the actions of all nodes, an entry each
pub mod Entries
-- the first number of each argument: a public name's, or a mark
pub mod Numbers
-- chains of places by mark, and the classes that they give
pub mod Chains
-- the class of each argument
pub mod Classes
