-- Leaves in facts, symbols of facts: what the tests by three numbers say of them.
use Rattle.std.specs.Prelude.{ℕ, ◌+◌, ◌≤◌, ◌<◌, List, Bool, true, ◌&&◌, not, ◌⊎◌, ◌≡◌, ltb}
use Rattle.std.proofs.Math.Bool.{and-eq-true_iff}
use Rattle.std.proofs.Common.{inl, inr, ap₂, subst, arith, ltb-true, ltb-false, lt-ltb, le-ltb}
use Rattle.lists.specs.Choice.{by_size}
use Rattle.number.specs.Groups.{number_limit}
use Rattle.lists.specs.Lists.{any_by}
use Rattle.lists.specs.All.{All}
use Rattle.term.specs.Term.{Kind, variable, tag_of, InRange, Occurs}
use Rattle.term.specs.Walk.{holds}
use Rattle.lists.specs.Any.{Ranged, Any, any_some, some_any, any_ranged, some_with, some_split}
use Rattle.term.specs.Walk.Holds.{holds_occurs, occurs_holds, occurs_range}
use Rattle.protocol.specs.Protocol.{Fact, leaf_in}
use Rattle.protocol.specs.Protocol.Walks.{symbol_in}
use Rattle.lists.specs.Tests.{not_split}
use Rattle.rules.specs.Fit.Meaning.{OccursIn, Among}

-- ── in facts, and in lists of facts ──
module _ (k : Kind) (lo hi : ℕ) where
  asked_occurs : (fs : List Fact) → any_by (leaf_in (tag_of k) lo hi) fs ≡ true → Ranged lo hi (λ n. OccursIn k n fs)
  asked_occurs =
      any_ranged (leaf_in (tag_of k) lo hi) (λ n f. Any (Occurs k n) f.terms)
      (λ f. any_ranged (λ t. holds t (tag_of k) lo hi) (Occurs k) (holds_occurs k lo hi) f.terms)

  occurs_asked : (n : ℕ) → lo ≤ n → n < hi → (fs : List Fact) → OccursIn k n fs → any_by (leaf_in (tag_of k) lo hi) fs ≡ true
  occurs_asked n low high fs s =
      some_any (leaf_in (tag_of k) lo hi) (λ f. Any (Occurs k n) f.terms)
      (λ f s. some_any (λ t. holds t (tag_of k) lo hi) (Occurs k n) (occurs_holds k lo hi n low high) s) s

  pub lists_asked : (xss : List (List Fact)) → any_by (any_by (leaf_in (tag_of k) lo hi)) xss ≡ true → Ranged lo hi (λ n. Any (OccursIn k n) xss)
  lists_asked = any_ranged (any_by (leaf_in (tag_of k) lo hi)) (OccursIn k) asked_occurs

-- every term in range, so that the limit of the numbers is no limit
pub asked_lists :
    (k : Kind) (lo n : ℕ) (xss : List (List Fact)) → All (All (λ f. All InRange f.terms)) xss → lo ≤ n → Any (OccursIn k n) xss
    → any_by (any_by (leaf_in (tag_of k) lo number_limit)) xss ≡ true
asked_lists k lo n xss ranges low s =
    let high : n < number_limit =
    some_with (OccursIn k n) (All (λ f. All InRange f.terms))
    (λ fs. some_with (λ f. Any (Occurs k n) f.terms) (λ f. All InRange f.terms)
    (λ f. some_with (Occurs k n) InRange (λ t o r. occurs_range k n t r o))) s ranges in
    some_any (any_by (leaf_in (tag_of k) lo number_limit)) (OccursIn k n) (occurs_asked k lo number_limit n low high) s

-- one variable
module _ (v : ℕ) (fs : List Fact) where
  pub variable_occurs : any_by (leaf_in 0 v (v + 1)) fs ≡ true → OccursIn variable v fs
  variable_occurs h =
      let r = asked_occurs variable v (v + 1) fs h in
      let e : r.number ≡ v = omega (arith, r.low, r.high) in
      subst (λ (n : ℕ). OccursIn variable n fs) e r.has

  pub occurs_variable : OccursIn variable v fs → any_by (leaf_in 0 v (v + 1)) fs ≡ true
  occurs_variable s = occurs_asked variable v (v + 1) v (omega arith) (omega arith) fs s

-- ── symbols ──
module _ (lo hi : ℕ) where
  symbol_to : (f : Fact) → symbol_in lo hi f ≡ true → (lo ≤ f.symbol) × (f.symbol < hi)
  symbol_to f h =
      let a = (and-eq-true_iff (not (ltb f.symbol lo)) (ltb f.symbol hi)).0 h in
      (ltb-false f.symbol lo (not_split (ltb f.symbol lo) a.0), ltb-true f.symbol hi a.1)

  symbol_from : (f : Fact) → lo ≤ f.symbol → f.symbol < hi → symbol_in lo hi f ≡ true
  symbol_from f h k = ap₂ (λ (a b : Bool). not a && b) (le-ltb f.symbol lo h) (lt-ltb f.symbol hi k)

  pub among_asked : (y : ℕ) (fs : List Fact) → lo ≤ y → y < hi → Among y fs → any_by (symbol_in lo hi) fs ≡ true
  among_asked y fs h k s = some_any (symbol_in lo hi) (λ f. f.symbol ≡ y) (λ f e. symbol_from f (omega arith) (omega arith)) s

-- two neighbours, and one
pub asked_two : (y : ℕ) (fs : List Fact) → any_by (symbol_in y (y + 2)) fs ≡ true → Among (y + 1) fs ⊎ Among y fs
asked_two y fs h =
    some_split (λ f. f.symbol ≡ y + 1) (λ f. f.symbol ≡ y)
    (any_some (symbol_in y (y + 2)) (λ f. (f.symbol ≡ y + 1) ⊎ (f.symbol ≡ y))
    (λ f h. let b = symbol_to y (y + 2) f h in
    by_size f.symbol (y + 1) (λ l. inr (omega (arith, b.0))) (λ l. inl (omega (arith, b.1)))) fs h)

pub asked_one : (y : ℕ) (fs : List Fact) → any_by (symbol_in y (y + 1)) fs ≡ true → Among y fs
asked_one y fs =
    any_some (symbol_in y (y + 1)) (λ f. f.symbol ≡ y)
    (λ f h. let b = symbol_to y (y + 1) f h in omega (arith, b.0, b.1)) fs
