-- The exported calls: their outcomes, the memory they leave, and what is proved of them.

-- the answers' numbers and values, the lent memory, the C functions' packed answers
pub mod Answer
-- the pass of a bound, from the comparison that the code makes
pub mod Passing
-- rows whose numbers and items are small
pub mod Small
-- the files: limits, items, what reading them rules
pub mod Files
-- the work area after every answer that is no refusal 1
pub mod Late
-- the call canonical form
pub mod Canonical
-- the call check
pub mod Check
-- the call draw
pub mod Draw
-- the line of a ruling
pub mod Line
-- the demands, each under its sentence
pub mod Demands
