-- What is proved of gathering.
-- it gives the product and the power of the canonical form
pub mod Same
