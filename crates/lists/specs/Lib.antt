-- List and Boolean vocabulary, said once for all crates. It knows no bytes and no files.

-- a value by a test, and what a definition by tests says of its value
pub mod Choice
-- Booleans, options and numbers, case by case
pub mod Tests
-- lists counted and searched by a test; elements by number, from 1; their laws
pub mod Lists
-- a condition of all elements, and of one of them; their laws
pub mod All
pub mod Any
-- a test of the numbers below a bound: whether it holds of all, and the least of which it holds
pub mod Below
-- the next place that has a number
pub mod Scan
-- what a contract asks and promises of the trees at a place
pub mod Asks
-- answers that decide a statement
pub mod Reflects
-- two lists related place by place
pub mod Pairs
-- lists one behind the other
pub mod Joined
