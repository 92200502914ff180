-- Products in place: mul, inv, one and exp with any arguments become their canonical product or power.

-- more laws of writing
pub mod Writing
-- the bytes of a product in the order in which they are written, and its laws: they are those of the term
pub mod Chain
-- the factors on one side of a table: those of positive exponent, or those of negative; its laws
pub mod Side
-- the power of a term to some others: as to one product, and to a factor
pub mod Powers
-- a product and a power are no longer than what stood there
pub mod Length
-- towers of exps: their base, their exponents, the power that they are
pub mod Tower
-- what `multiply` and `exponent` are asked, and what they promise
pub mod Asked
-- what the functions inside are asked, and what they promise
pub mod Inner
