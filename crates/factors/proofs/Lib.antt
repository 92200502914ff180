-- What the proofs of this crate's functions cite.

-- making room, finding a place, entering
pub mod EnterPaths
-- walking terms
pub mod CollectPaths
