-- What is proved of the definitions of specs/, where it no longer holds once an edit of must-fail/ turns a definition.

-- the machine's test in counts
pub mod Machine
-- the machine runs just where the nodes are a run
pub mod Rewriting
-- the earliest sources: there is one such list, it is accepted, and the writer draws it
pub mod Earliest
-- the rows by a statement that the test decides
pub mod Causes
-- the writer finds a source just where the machine's test passes
pub mod Writer
-- the nodes of an accepted graph are a run
pub mod Runs
-- a run is drawn, and what is drawn is accepted
pub mod Draws
-- a graph is accepted just where no row applies
pub mod Acceptance
-- the whole list of nodes: what the writer draws and refuses, in the table's words
pub mod Whole
-- small cases, computed
pub mod Samples
