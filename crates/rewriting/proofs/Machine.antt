-- The machine, by theorems.

-- What the machine's test means in counts.
pub mod Laws
