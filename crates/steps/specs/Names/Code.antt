-- The name of a node, as the code reads it.
use Rattle.std.specs.Prelude.{ℕ, ◌+◌, ◌<◌, List, [], ◌∷◌, Bool, ◌≡◌, length, get_or}
use Rattle.std.specs.Prelude.{Option, Some, None}
use Rattle.std.proofs.lemmas.Option.{same_Some}
use Rattle.std.proofs.Common.{ap, sym, ◌∙◌, subst, arith, eq-eqb}
use Rattle.lists.specs.Choice.{pick}
use Rattle.octets.specs.Head.{Bytes}
use Rattle.number.specs.Reading.{got}
use Rattle.lists.specs.All.Laws.{same_inside}
use Rattle.term.specs.Term.{variable, Term, leaf}
use Rattle.term.specs.Reader.{symbol_at, term}
use Rattle.term.specs.declared.Fresh.{Fresh}
use Rattle.term.specs.declared.Public.{Public}
use Rattle.term.specs.declared.Symbol.{Symbol}
use Rattle.term.specs.declared.Symbol.TheVariants as sy
use Rattle.protocol.specs.Protocol.{Rule, Protocol}
use Rattle.rules.specs.Numbered.{rule_of, fixed}
use Rattle.rules.specs.Numbered.Found.{of_fixed}
use Rattle.steps.specs.declared.values.Name.{Name}
use Rattle.steps.specs.declared.values.Name.TheVariants as nm
use Rattle.prepared.specs.Prepared.{slots_of}
use Rattle.steps.specs.Nodes.{Node}
use Rattle.steps.specs.Table.{row_at, places_at, NodeIn}
use Rattle.steps.specs.Facts.{value_at, fresh_number}
use Rattle.steps.specs.Facts as facts
use Rattle.steps.specs.Values.Code.{NameIs, leaf_is, no_fresh}
use Rattle.steps.specs.Values.Parts.{no_term}
use Rattle.steps.specs.Names.{MadeIs}

-- a fresh name by its symbol
abbrev pub NumberIs : Option Symbol → Option Fresh → Type 0
NumberIs y (Some f) = (e : ℕ) × (y ≡ Some (sy.Leaf 2 f.0 e))
NumberIs y None = (n e : ℕ) → y ≡ Some (sy.Leaf 2 n e) → ⊥

module _ (y : Option Symbol) (x : Option Name) (h : NameIs y x) where
  pub of_fresh : {f : Fresh} → x ≡ Some (nm.FreshName f) → NumberIs y (Some f)
  of_fresh e = subst (NameIs y) e h

  pub of_public : {f : Public} → x ≡ Some (nm.PublicName f) → (n d : ℕ) → y ≡ Some (sy.Leaf 2 n d) → ⊥
  of_public {f} e n d q =
      let (c, g) = subst (NameIs y) e h in
      let z : ◌≡◌ {A = ℕ} 1 2 = cc in
      omega arith

  pub of_other : x ≡ None → (n d : ℕ) → y ≡ Some (sy.Leaf 2 n d) → ⊥
  of_other e n d q = (subst (NameIs y) e h n d).0 q

-- ── the name of a term, and of a node ──
module _ (file arities : List ℕ) (at : ℕ) (bytes : Bytes file) (t : Term) (e : ℕ) (there : term file arities at ≡ got t e) where
  pub number_of : (m : Option Fresh) → NumberIs (symbol_at file arities at) m → MadeIs (fresh_number t) m
  number_of (Some f) (d, h) = ap fresh_number (leaf_is file arities at bytes t e there 2 f.0 d h)
  number_of None h = no_fresh file arities at bytes t e there h

pub zero_sorts : (p : Protocol) (n : ℕ) → n ≡ 0 → (u : Rule) × (rule_of p n ≡ Some u) × (u.sorts ≡ 1 ∷ [])
unfolding fixed
zero_sorts p n h = (fixed n, of_fixed p n (omega arith), ap (λ (k : ℕ). (fixed k).sorts) h)

module _ {p s nodes : List ℕ} {j : ℕ} {P : Protocol} {x : Node} (h : NodeIn p s nodes j P x) where
  abbrev number : ℕ
  number = get_or nodes (row_at j) 0

  -- a node of rule 0 has one value
  zero_values : number ≡ 0 → length x.values ≡ 1
  zero_values z =
      let (u, a, b) = zero_sorts P x.rule (sym h.row.rule ∙ z) in
      let c : h.within.is ≡ u = same_Some h.within.is u (sym h.within.known ∙ a) in
      h.within.takes ∙ ap (λ (w : Rule). length w.sorts) c ∙ ap length b

  pub zero_name :
      Bytes s → number ≡ 0 → (m : Option Fresh) → NumberIs (symbol_at s (slots_of p) (get_or nodes (row_at j + 1) 0)) m → MadeIs (facts.made_name x) m
  zero_name bytes z m q =
      let l : 0 < length x.values = omega (arith, zero_values z) in
      let o : places_at j + 0 ≡ places_at j = omega arith in
      let v : get_or x.values 0 no_term ≡ value_at x.values 0 = same_inside x.values 0 no_term (leaf variable 0) l in
      let n : facts.made_name x ≡ fresh_number (get_or x.values 0 no_term) =
      ap (λ (b : Bool). pick b (fresh_number (value_at x.values 0)) None) (eq-eqb x.rule 0 (sym h.row.rule ∙ z)) ∙ ap fresh_number (sym v) in
      subst (λ (o : Option ℕ). MadeIs o m) (sym n)
      (number_of s (slots_of p) (get_or nodes (places_at j) 0) bytes (get_or x.values 0 no_term) (get_or nodes (places_at j + (0 + 1)) 0)
      (ap (λ (k : ℕ). term s (slots_of p) (get_or nodes k 0)) (sym o) ∙ h.row.places 0 l) m q)
