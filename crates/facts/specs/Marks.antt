-- A mark of a fact, made of its symbol and its canonical bytes. Facts that are the same have the same mark; no more is handed on.
use Prim.Native.Nat.{ℕ, suc, ◌+◌, ◌*◌, ◌%◌, ◌≤◌, ◌<◌}
use Rattle.std.specs.Prelude.{List, [], ◌∷◌, true, false, ◌≡◌, refl, length, drop, take}
use Rattle.std.proofs.Math.Path.{ap, sym}
use Rattle.std.proofs.Common.{ap₂, ◌∙◌, drop_of_length-le, drop-cons}
use native.Mathlib.Omega.{arith}
use Rattle.std.proofs.Math.ListN.{get_or}
use Rattle.std.proofs.lemmas.List.{length-map}
use Rattle.lists.specs.Reflects.{wrong}
use Rattle.protocol.specs.Protocol.{Fact, Protocol, Own}
use Rattle.protocol.specs.Protocol.Limits.{Within}
use Rattle.steps.specs.Facts.{same_fact}
use Rattle.steps.specs.Facts.Bytes.{canon_bytes, same_symbols, same_bytes}
use Rattle.steps.specs.Facts.Formed.{FactFormed, formed_decides}
use Rattle.facts.specs.declared.writing.Wanted.TheVariants as want
use Rattle.facts.specs.Writing.{wanted_bytes, fact_room, Put}
use Rattle.facts.specs.Calls.{TellsFacts}

abbrev pub mark_base : ℕ
mark_base = 257

-- the greatest prime below 2 ^ 16
abbrev pub mark_limit : ℕ
mark_limit = 65521

unfoldable pub mark_from : ℕ → List ℕ → ℕ
mark_from h [] = h
mark_from h (b ∷ bs) = mark_from ((h * mark_base + b) % mark_limit) bs

unfoldable pub mark_of : Fact → ℕ
mark_of f = mark_from f.symbol (canon_bytes f.terms)

-- ── facts whose marks differ are not the same ──
same_marks : (f g : Fact) → same_fact f g ≡ true → mark_of f ≡ mark_of g
unfolding mark_of
same_marks f g h = ap₂ mark_from (same_symbols f g h) (same_bytes f g h)

pub marks_differ : (p : Protocol) → Within p → (f g : Fact) → FactFormed p f → FactFormed p g → (mark_of f ≡ mark_of g → ⊥) → TellsFacts p f g false
marks_differ p fit f g a b n = wrong (λ s. n (same_marks f g ((formed_decides p fit f g a b).1 s)))

-- ── the loop: h is the mark of what was passed ──
module _ (from : ℕ) (file : List ℕ) where
  abbrev pub Marked : ℕ → ℕ → Type 0
  Marked h i = mark_from from file ≡ mark_from h (drop i file)

  pub marked_none : Marked from 0
  marked_none = refl

  pub marked_more : (h i : ℕ) → i < length file → Marked h i → Marked ((h * mark_base + get_or file i 0) % mark_limit) (i + 1)
  unfolding mark_from
  marked_more h i l e =
      let o : suc i ≡ i + 1 = omega arith in
      e ∙ ap (mark_from h) (drop-cons file i 0 l) ∙ ap (λ (j : ℕ). mark_from ((h * mark_base + get_or file i 0) % mark_limit) (drop j file)) o

  pub marked_all : (h i : ℕ) → length file ≤ i → Marked h i → h ≡ mark_from from file
  unfolding mark_from
  marked_all h i l e = sym (e ∙ ap (mark_from h) (drop_of_length-le file l))

-- ── a fact that was written ──
pub fact_marked :
    (f : Fact) (out out' : List ℕ) (e y r : ℕ) → Put out 0 out' e (wanted_bytes want.All f) → y ≡ f.symbol → r ≡ mark_from y (take e out') → r ≡ mark_of f
unfolding mark_of
fact_marked f out out' e y r p hy h = h ∙ ap₂ mark_from hy p.wrote.bytes

pub symbol_small : (p : Protocol) → Within p → (f : Fact) → FactFormed p f → (y : ℕ) → y ≡ f.symbol → y < mark_limit
symbol_small p fit f g y h = omega (arith, h, g.known, fit.few_symbols, length-map p.symbols (λ (o : Own). o.arity))

pub mark_small : (n : ℕ) → n % mark_limit < mark_limit
mark_small n = omega arith

-- ── marks are below their limit ──
pub from_below : (h : ℕ) → h < mark_limit → (bs : List ℕ) → mark_from h bs < mark_limit
unfolding mark_from
from_below h l [] = l
from_below h l (b ∷ bs) = from_below ((h * mark_base + b) % mark_limit) (mark_small (h * mark_base + b)) bs

pub mark_below : (p : Protocol) → Within p → (f : Fact) → FactFormed p f → mark_of f < mark_limit
unfolding mark_of
mark_below p fit f g = from_below f.symbol (symbol_small p fit f g f.symbol refl) (canon_bytes f.terms)

-- what was written lies within the output
pub put_inside : (out out' : List ℕ) (e : ℕ) (q : List ℕ) → Put out 0 out' e q → fact_room ≤ length out' → e ≤ length out'
put_inside out out' e q p room = omega (arith, p.wrote.ends, p.few)
