-- Dependency graphs: how a graph file is read, and what an accepted one is.

-- a graph, its bytes, its reading for 3 and 6
pub mod Graph
-- the ruling of a graph file: 3 and 6, then 7 to 13; what an accepted one is
pub mod Causes
-- ── for the code ──
-- the table of edges that their reading fills
pub mod Table
-- a graph file that is read into the tables
pub mod Reading
-- a pass over edges or nodes by number
pub mod Scan
-- the ends of edges, by number
pub mod Ends
-- the two facts of an edge
pub mod Joins
-- how often each fact is an end
pub mod Uses
-- the map of the work area
pub mod Area
-- 12 and 13 by these counts
pub mod Passes
-- what the code answers of a graph file
pub mod Ruling
