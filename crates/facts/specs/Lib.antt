-- The facts of nodes in bytes: what is written of a fact, and when two facts are the same.

-- the canonical bytes of a fact or of one argument, the bytes of a fact as it stands: what is asked, what is promised
pub mod Writing
-- the facts of a rule: how many a list has, their places and symbols
pub mod Rules
-- the calls over the facts of nodes: a fact by its node, list and number
pub mod Calls
-- a mark for each fact
pub mod Marks
-- a fact that is kept, to be compared with others
pub mod Kept
-- what callers owe
pub mod Owed
