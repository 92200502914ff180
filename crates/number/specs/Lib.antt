-- Numbers in the files, and reading by place.

-- a number's groups of seven bits, and their laws
pub mod Groups
-- readers: what stands at a place and the place behind it, or a fault; their laws
pub mod Reading
-- a layout that is read exactly: what is good reads back from its bytes, and what reads is good and stands there
pub mod Layout
