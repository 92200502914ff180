-- Protocol files.

-- the figures of a protocol file
pub mod Figures
-- a protocol file: abstract syntax, bytes, reading; its limits; exact in both directions; what code answers of it
pub mod Protocol
-- the places in a rule: its lists, their facts, their terms, its variables' sorts
pub mod Places
-- the index of a file: the tables that one pass over it fills
pub mod Index
-- document 01's printed file, by computation
pub mod Example
