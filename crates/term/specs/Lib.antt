-- Terms in prefix order.

-- the tag of each kind of leaf and of each function; how large terms are
pub mod Tags
pub mod Sizes
-- terms as trees, their bytes, their symbols, well formed, in range
pub mod Term
-- the arity of each tag
pub mod Arity
-- reading one term at a place
pub mod Reader
-- what code answers of terms at a place
pub mod Walk
