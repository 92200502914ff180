-- The laws of a prepared protocol: the sections' lengths, and what a fact symbol's entries are.
use Rattle.std.specs.Prelude.{ℕ, zero, suc, ◌+◌, ◌≤◌, ◌<◌, List, [], ◌∷◌, ◌≡◌, refl, length, get_or, take, drop}
use Rattle.std.proofs.Common.{ap, sym, ◌∙◌, arith, length-drop, get_or-drop, get_or-take, length-take-le}
use Rattle.std.proofs.lemmas.List.{length-map}
use Rattle.term.specs.Arity.{padded}
use Rattle.octets.specs.Head.{Bytes}
use Rattle.protocol.specs.Protocol.{Fact, Own, Protocol, fact_arities, fact_flags}
use Rattle.protocol.specs.Protocol.Exact.{facts_exact}
use Rattle.protocol.specs.Places.{Here}
use Rattle.protocol.specs.Figures.{symbol_count, most_facts}
use Rattle.prepared.specs.Sections.{slot_count, arities_at, linears_at, body_length}
use Rattle.prepared.specs.Prepared.{slots_of, arities_of, linears, Body, prepared_facts}

-- ── a list with 255 behind it ──
pub padded_in : (n : ℕ) (l : List ℕ) (j : ℕ) → length l ≤ n → j < length l → get_or (padded n l) j 0 ≡ get_or l j 0
padded_in zero l j h k = absurd (omega arith)
padded_in (suc n) [] j h k = absurd (omega arith)
padded_in (suc n) (a ∷ l) zero h k = refl
padded_in (suc n) (a ∷ l) (suc j) h k = padded_in n l j (omega arith) (omega arith)

-- ── the parts that are lent ──
module _ (p : List ℕ) (long : body_length ≤ length p) where
  pub slots_length : length (slots_of p) ≡ slot_count
  slots_length = length-take-le slot_count p (omega arith)

  pub arities_length : length (arities_of p) ≡ symbol_count
  arities_length = length-take-le symbol_count (drop arities_at p) (omega (arith, length-drop arities_at p))

-- ── what the entries of a fact symbol are ──
pub part_at : (p : List ℕ) (at n i : ℕ) → i < n → get_or (take n (drop at p)) i 0 ≡ get_or p (at + i) 0
part_at p at n i h = get_or-take n (drop at p) i 0 h ∙ get_or-drop at p i 0

module _ (p : List ℕ) (P : Protocol) (f : Body p P) (y : ℕ) (known : y < length (fact_arities P.symbols)) where
  few : length (fact_arities P.symbols) ≤ symbol_count
  few = omega (arith, length-map P.symbols (λ (o : Own). o.arity), f.within.few_symbols)

  pub arity_at : get_or p (arities_at + y) 0 ≡ get_or (fact_arities P.symbols) y 0
  arity_at =
      sym (part_at p arities_at symbol_count y (omega (arith, few)))
      ∙ ap (λ (l : List ℕ). get_or l y 0) f.tabled
      ∙ padded_in symbol_count (fact_arities P.symbols) y few known

  pub linear_at : get_or p (linears_at + y) 0 ≡ get_or (linears P.symbols) y 0
  linear_at =
      let n : length (linears P.symbols) ≡ length (fact_arities P.symbols) =
      length-map (fact_flags P.symbols) _ ∙ omega (arith, length-map P.symbols (λ (o : Own). o.flag), length-map P.symbols (λ (o : Own). o.arity)) in
      sym (part_at p linears_at symbol_count y (omega (arith, few)))
      ∙ ap (λ (l : List ℕ). get_or l y 0) f.flagged
      ∙ padded_in symbol_count (linears P.symbols) y (omega (arith, few)) (omega arith)

-- ── a list has eight facts at most ──
pub list_few : (p : List ℕ) → Bytes p → body_length ≤ length p → (place : ℕ) (fs : List Fact) → Here (prepared_facts p) fs place → length fs ≤ most_facts
list_few p bytes long place fs h =
    ((facts_exact p bytes (slots_of p) (arities_of p) (omega (arith, arities_length p long))).form fs place h.next h.reads).0.few
