-- The cases of a test program's standard input.

-- how long the input is
pub mod Room
-- which case comes next
pub mod Case
