-- What code answers in the table's words: a value, or a refusal.
use Rattle.std.specs.Prelude.{ℕ, Result, Ok, Err}
use Rattle.rewriting.specs.Table.{Ruling, passed, refused}
use Rattle.rewriting.specs.declared.Refusal.{Refusal}

abbrev pub refusal : ℕ → ℕ → Refusal
refusal n k = record { number = n; item = k }

abbrev pub answered : {A : Type 0} → Result A Refusal → Ruling A
answered (Ok x) = passed x
answered (Err r) = refused r.number r.item
