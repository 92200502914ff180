-- The canonical form in code.

-- the built-in functions have document 01's arities
pub mod Builtins
-- the canonical form as it is made: of a product and of a tower of exps only the outermost function is worked out
pub mod Loose
-- how long a term can be
pub mod Size
-- what the functions are asked, and what they promise; the laws of that
pub mod Contract
-- the first symbol of a term at a place
pub mod First
-- what the inner functions are asked, and what they promise
pub mod Inner
-- a rule's patterns against arguments
pub mod Matching
