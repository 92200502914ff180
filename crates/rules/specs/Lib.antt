-- Rules: the conditions on a protocol's rules, and the rules by their number.

-- P1 to P5, the least rule that breaks one, the judgement of a protocol file
pub mod Fit
-- the rules by their number: built-in rules, apply-rules, the protocol's rules
pub mod Numbered
-- document 01's printed protocol, P1, P3, P4 and P5 broken, the built-in rules and P5, and some numbers, by computation
pub mod Example
