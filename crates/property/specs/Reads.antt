-- A formula is written in a file from a place up to a place: the reading without its limits, as a relation, for code that walks a formula.
use Rattle.std.specs.Prelude.{ℕ, suc, ◌≤◌, List, ◌≡◌, eqb}
use Rattle.number.specs.Reading.{got, read_number}
use Rattle.property.specs.Figures.{false_tag, equal_tag, action_tag, and_tag, or_tag, exists_tag, every_tag}
use Rattle.property.specs.Formula.{Atom, Formula, absurdity}
use Rattle.property.specs.Layout.{Head, head_at, atom_at, signed, asserts, paired, quantified}
-- what the reader got is written so; under a table of arities with more slots
pub mod Laws

pub data Reads (file ars : List ℕ) : ℕ → Formula → ℕ → Type 0 where
  r_false : {at k : ℕ} → read_number file at ≡ got false_tag k → Reads file ars at absurdity k
  r_atom :
      {at k i tag : ℕ} {a : Atom} {φ : Formula} → read_number file at ≡ got tag i → (equal_tag ≤ tag) × (tag ≤ suc action_tag) → atom_at file ars tag i ≡ got a k
      → signed (asserts tag) a ≡ φ → Reads file ars at φ k
  r_pair :
      {at k i m tag : ℕ} {x y φ : Formula} → read_number file at ≡ got tag i → (and_tag ≤ tag) × (tag ≤ or_tag) → Reads file ars i x m
      → Reads file ars m y k → paired (eqb tag and_tag) x y ≡ φ → Reads file ars at φ k
  r_quant :
      {at k i j tag : ℕ} {h : Head} {x φ : Formula} → read_number file at ≡ got tag i → (exists_tag ≤ tag) × (tag ≤ every_tag)
      → head_at file ars i ≡ got h j → Reads file ars j x k → quantified (eqb tag every_tag) h x ≡ φ → Reads file ars at φ k
