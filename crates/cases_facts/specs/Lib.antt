-- What the program that compares facts keeps.

-- the facts of the nodes of a step list, in a table
pub mod Table
