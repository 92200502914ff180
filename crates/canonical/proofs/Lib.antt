-- The lemmas of the code's proofs.

-- writes in prefix form
pub mod Writes
-- what stands at a place of the output
pub mod Parts
-- a leaf
pub mod Leaves
-- a rule's patterns against arguments
pub mod Matching
-- the subterm rules
pub mod Rules
-- a run of terms, one by one; a leaf in it
pub mod Making
-- a function in it
pub mod Functions
-- a run of terms filled in as they stand
pub mod Plain
-- a function of made arguments, by its tag
pub mod Closing
-- a lent part of the output
pub mod Lent
-- one message
pub mod Messages
