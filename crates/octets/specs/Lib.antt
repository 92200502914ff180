-- Lists of bytes: no meaning, only lists.

-- what stands at a place of a list
pub mod Head
-- a list with some of its elements replaced; its laws; the prefix form of a write
pub mod Splice
-- the order of byte strings, and its laws
pub mod Compare
-- a list of zeros
pub mod Zeros
-- how long a slice may be
pub mod Limits
