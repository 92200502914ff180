-- What is proved of canonical terms.
-- canonical terms and their parts
pub mod Laws
