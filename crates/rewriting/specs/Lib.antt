-- The theory of runs, dependency graphs and refusals. It knows no bytes and no messages.

-- ── definitions ──
-- the facts, as one record
pub mod Facts
-- nodes, places, edges, and what an accepted graph is
pub mod Graph
-- the machine, and what a run is
pub mod Machine
-- the same by a statement of equality: what a node takes from the state and leaves
pub mod Rewriting
-- the writer's edges: for each premise the earliest source
pub mod Earliest
-- the refusal table as data: rows, what they say of an answer, passes
pub mod Table
-- what code answers in the table's words
pub mod Answers
-- causes 9 to 14, in the table's words, and the rows of a graph and of a drawing
pub mod Causes
-- ── the devices ──
-- the facts of a list of nodes, each with its place
pub mod Places
-- the writer over facts
pub mod Writer
-- the passes over a graph
pub mod Checker
-- ── what is proved ──
-- the pass over the names finds what row 9 says
pub mod Names
-- the passes over a graph find what rows 10 to 13 say
pub mod Refusals
-- an accepted graph has as many edges as premises
pub mod Size
