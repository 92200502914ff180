-- Properties: their file, what they mean, and the judge as a definition.

-- the figures of a property file
pub mod Figures
-- formulas, and the limits of a property file
pub mod Formula
-- cause 5: scopes, sorts, guards; the test decides it
pub mod Fit
-- a property file: its bytes, its reading, exact in both directions
pub mod Layout
-- a formula is written in a file from a place up to a place
pub mod Reads
-- what a property means, over all messages and all times; the times
pub mod Meaning
pub mod Times
-- the judge: every guard compared with every action of every node
pub mod Judge
-- the truth of a property over document 01's messages: no parameter is left
pub mod Truth
-- the ruling of a property file: 3, then 5
pub mod Causes
-- document 01's printed property, by computation
pub mod Example
-- ── for the code ──
-- what code answers of a property file
pub mod Walk
