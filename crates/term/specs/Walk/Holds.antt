-- The test for a leaf decides: it finds one exactly where a leaf of the kind, its number in the range, stands in the term.
use Rattle.std.specs.Prelude.{ℕ, ◌≤◌, ◌<◌, Bool, true, false, ◌||◌, ◌&&◌, not, ◌≡◌, refl, ltb, eqb}
use Rattle.std.proofs.Math.Bool.{and-eq-true_iff}
use Rattle.std.proofs.Common.{inl, inr, ⊎_elim, ap, ap₂, sym, subst, ltb-true, ltb-false, lt-ltb, le-ltb, eqb-true, eq-eqb}
use Rattle.lists.specs.Choice.{by_size, clash}
use Rattle.lists.specs.Tests.{not_split, or_cases, or_right}
use Rattle.lists.specs.Any.{Ranged, ranged_as}
use Rattle.number.specs.Groups.{number_limit}
use Rattle.term.specs.Term.{Kind, Term, leaf, app, Terms, nil, ◌&◌, tag_of, InRange, InRanges, Occurs, Occurss}
use Rattle.term.specs.Term.Laws.{tag_same}
use Rattle.term.specs.Walk.{holds, holdss}

module _ (k : Kind) (lo hi : ℕ) where
  mutual
    pub holds_occurs : (t : Term) → holds t (tag_of k) lo hi ≡ true → Ranged lo hi (λ n. Occurs k n t)
    holds_occurs (leaf j m) h =
        let a = (and-eq-true_iff (eqb (tag_of j) (tag_of k)) (not (ltb m lo) && ltb m hi)).0 h in
        let b = (and-eq-true_iff (not (ltb m lo)) (ltb m hi)).0 a.1 in
        record {
          number = m;
          low = ltb-false m lo (not_split (ltb m lo) b.0);
          high = ltb-true m hi b.1;
          has = ap (λ (i : Kind). leaf i m) (tag_same j k (eqb-true (tag_of j) (tag_of k) a.0));
        }
    holds_occurs (app f ts) h = holdss_occur ts h

    holdss_occur : (ts : Terms) → holdss ts (tag_of k) lo hi ≡ true → Ranged lo hi (λ n. Occurss k n ts)
    holdss_occur nil h = clash (cc)
    holdss_occur (t & ts) h =
        elim (or_cases (holds t (tag_of k) lo hi) (holdss ts (tag_of k) lo hi) h) [
          | inl e ↦ ranged_as (λ n. Occurs k n t) (λ n. Occurss k n (t & ts)) (λ n o. inl o) (holds_occurs t e)
          | inr e ↦ ranged_as (λ n. Occurss k n ts) (λ n. Occurss k n (t & ts)) (λ n o. inr o) (holdss_occur ts e)
        ]

  module _ (n : ℕ) (low : lo ≤ n) (high : n < hi) where
    mutual
      pub occurs_holds : (t : Term) → Occurs k n t → holds t (tag_of k) lo hi ≡ true
      occurs_holds (leaf j m) o =
          subst (λ (t : Term). holds t (tag_of k) lo hi ≡ true) (sym o)
          (ap₂ ◌&&◌ (eq-eqb (tag_of k) (tag_of k) refl) (ap₂ (λ (a b : Bool). not a && b) (le-ltb n lo low) (lt-ltb n hi high)))
      occurs_holds (app f ts) o = occurss_hold ts o

      occurss_hold : (ts : Terms) → Occurss k n ts → holdss ts (tag_of k) lo hi ≡ true
      occurss_hold nil o = absurd o
      occurss_hold (t & ts) o =
          ⊎_elim (λ a. ap (λ (b : Bool). b || holdss ts (tag_of k) lo hi) (occurs_holds t a))
          (λ a. or_right (holds t (tag_of k) lo hi) (holdss ts (tag_of k) lo hi) (occurss_hold ts a)) o

-- what stands in a term in range is in range
module _ (k : Kind) (n : ℕ) where
  mutual
    pub occurs_range : (t : Term) → InRange t → Occurs k n t → n < number_limit
    occurs_range (leaf j m) r o = subst InRange o r
    occurs_range (app f ts) r o = occurss_range ts r.1 o

    occurss_range : (ts : Terms) → InRanges ts → Occurss k n ts → n < number_limit
    occurss_range nil r o = absurd o
    occurss_range (t & ts) r o = ⊎_elim (λ a. occurs_range t r.0 a) (λ a. occurss_range ts r.1 a) o

-- where the test from lo on finds none, the numbers of the kind are below lo
pub occurs_below : (k : Kind) (t : Term) (n lo : ℕ) → InRange t → holds t (tag_of k) lo number_limit ≡ false → Occurs k n t → n < lo
occurs_below k t n lo r h o =
    by_size n lo (λ l. l) (λ l. let z = occurs_holds k lo number_limit n l (occurs_range k n t r o) t o in clash (cc))
