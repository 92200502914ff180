-- The judge in code: a property's bytes over a trace in numbers.

-- the tables of a trace, and the entries in order
pub mod Tables
-- bindings as numbers
pub mod Bindings
-- what stands at a place of a property file, as code tells it
pub mod Reading
-- one fold for both quantifiers
pub mod Folding
-- what judge and walk ask and promise
pub mod Judging
-- what callers owe
pub mod Owed
-- what the answer means of the messages that the tables number
pub mod Meaning
-- document 01's printed property, by computation
pub mod Example
