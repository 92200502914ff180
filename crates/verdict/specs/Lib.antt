-- The verdict on a property over the trace of right nodes.

-- what the code asks and promises
pub mod Judged
