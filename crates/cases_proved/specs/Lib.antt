-- "The M cases form one proved table, its claim made over the definitions."

-- the table, and that each row holds
pub mod Table
-- a claim of each row, proved one by one
pub mod Each
-- its rows' proofs: the three cases of the line, over the outcome of checking
pub mod Lines
-- the five cases of messages, by the equations and the words of the canonical form, for names of any numbers
pub mod Messages
-- and as the bytes that canonical form writes
pub mod Forms
-- signatures and public keys, likewise by the equations and the words of the canonical form
pub mod Signatures
-- 80 01 is 128, 80 00 refused
pub mod Numbers
-- "Shut out": what a checker and a canonical form cannot be, from the cases
pub mod ShutOut
-- cases of drawing, and what a writer cannot be
pub mod Drawings
pub mod Writer
-- what demand 3 asks of its files is met: printed_property_fit, and printed_well, received_well and made_well of three step lists; and what it says
-- of them: printed_is_drawn, received_refused, made_refused
pub mod Third
-- the second table: what the definitions answer of files, as document 01 says
pub mod Pinned
