-- What is proved of the definitions of specs/, where it no longer holds once an edit of must-fail/ turns a definition.

-- a graph file is read exactly, in both directions
pub mod Graph
-- the ruling of a graph file is what the rows say, and passes just the dependency graphs
pub mod Causes
-- what the code answers of a whole graph file
pub mod Files
