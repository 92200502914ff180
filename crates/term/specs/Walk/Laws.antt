-- Walking terms symbol by symbol: what is counted so far and what is still to come together are always the same. And what the
-- answers say of trees.
use Prim.Native.Nat.{ℕ, zero, suc, ◌+◌, ◌-◌, ◌≤◌, ◌<◌}
use Rattle.std.specs.Prelude.{Option, Some, None, List, [], ◌∷◌, ◌++◌, Bool, false, ◌||◌, ◌≡◌}
use Rattle.std.proofs.Math.Bool.{or_assoc, or-false}
use Rattle.std.proofs.Math.Path.{refl, ap, ap₂, sym}
use Rattle.std.proofs.Common.{◌∙◌, arith}
use Rattle.lists.specs.Choice.{clash}
use Rattle.octets.specs.Head.{Bytes}
use Rattle.number.specs.Reading.{Read, got, fault, and_then, many}
use Rattle.lists.specs.Lists.{any_by}
use Rattle.number.specs.Reading.Laws.{then_then}
use Rattle.number.specs.Reading.Many.{many_split}
use Rattle.term.specs.declared.Symbol.{Symbol}
use Rattle.term.specs.declared.Symbol.TheVariants as sy
use Rattle.term.specs.declared.Walk.{Walk}
use Rattle.term.specs.Term.{Kind, Term, leaf, app, symbols, symbolss, tag_of}
use Rattle.term.specs.Reader.{terms, kind_of, symbol_at, build, term}
use Rattle.term.specs.Reader.Laws.{Ahead, leaf_at, leaf_ahead, op_ahead, term_build}
use Rattle.term.specs.Reader.Exact.{tag_kind}
use Rattle.term.specs.Walk.{hits, holds, holdss, total, walk, walked, walks, ended, endeds}

symbolss_total : (ts : List Term) → symbolss (terms ts) ≡ total ts
symbolss_total [] = refl
symbolss_total (t ∷ ts) = ap (λ (n : ℕ). symbols t + n) (symbolss_total ts)

total_append : (ts us : List Term) → total (ts ++ us) ≡ total ts + total us
total_append [] us = omega arith
total_append (t ∷ ts) us = ap (λ (n : ℕ). symbols t + n) (total_append ts us) ∙ omega arith

module _ (kind lo hi : ℕ) where
  abbrev test : Term → Bool
  test t = holds t kind lo hi

  -- one symbol, as the code answers it
  abbrev pub step_of : Option Symbol → Option (ℕ × Bool × ℕ)
  step_of (Some (sy.Leaf t n e)) = Some (0, hits kind lo hi t n, e)
  step_of (Some (sy.Op t k e)) = Some (k, false, e)
  step_of None = None

  holdss_any : (ts : List Term) → holdss (terms ts) kind lo hi ≡ any_by test ts
  holdss_any [] = refl
  holdss_any (t ∷ ts) = ap (λ (b : Bool). test t || b) (holdss_any ts)

  any_append : (ts us : List Term) → any_by test (ts ++ us) ≡ (any_by test ts || any_by test us)
  any_append [] us = refl
  any_append (t ∷ ts) us = ap (λ (b : Bool). test t || b) (any_append ts us) ∙ sym (or_assoc (test t) (any_by test ts) (any_by test us))

  -- `count` symbols and `found` before, these terms behind
  abbrev pub tally : ℕ → Bool → Read (List Term) → Option Walk
  tally count found (got ts e) = Some (walk e (count + total ts) (found || any_by test ts))
  tally count found fault = None

  pub tally_begins : (r : Read (List Term)) → tally 0 false r ≡ walks kind lo hi r
  tally_begins (got ts e) = ap₂ (λ (n : ℕ) (b : Bool). Some (walk e n b)) (omega arith) refl
  tally_begins fault = refl

  leaf_turn :
      (count : ℕ) (found : Bool) (k : Kind) (t n : ℕ) → tag_of k ≡ t → (r : Read (List Term))
      → tally count found (and_then r (λ xs f. got (leaf k n ∷ xs) f)) ≡ tally (count + 1) (found || hits kind lo hi t n) r
  leaf_turn count found k t n h (got ts e) =
      ap₂ (λ (n : ℕ) (b : Bool). Some (walk e n b)) (omega arith)
      (ap (λ (x : ℕ). found || (hits kind lo hi x n || any_by test ts)) h ∙ sym (or_assoc found (hits kind lo hi t n) (any_by test ts)))
  leaf_turn count found k t n h fault = refl

  op_last :
      (count : ℕ) (found : Bool) (t : ℕ) (ts : List Term) (r : Read (List Term))
      → tally count found (and_then r (λ xs f. got (app t (terms ts) ∷ xs) f))
      ≡ tally (count + 1) (found || false) (and_then r (λ xs f. got (ts ++ xs) f))
  op_last count found t ts (got xs f) =
      ap₂ (λ (n : ℕ) (b : Bool). Some (walk f n b)) (omega (arith, symbolss_total ts, total_append ts xs))
      (ap₂ ◌||◌ (sym (or-false found)) (ap (λ (b : Bool). b || any_by test xs) (holdss_any ts) ∙ sym (any_append ts xs)))
  op_last count found t ts fault = refl

  op_turn :
      (count : ℕ) (found : Bool) (t : ℕ) (r : Read (List Term)) (g : ℕ → Read (List Term))
      → tally count found (and_then r (λ ts d. and_then (g d) (λ xs f. got (app t (terms ts) ∷ xs) f)))
      ≡ tally (count + 1) (found || false) (and_then r (λ ts d. and_then (g d) (λ xs f. got (ts ++ xs) f)))
  op_turn count found t (got ts d) g = op_last count found t ts (g d)
  op_turn count found t fault g = refl

  module _ (file arities : List ℕ) (bytes : Bytes file) where
    -- a symbol is in the file
    step_from : (at k e : ℕ) (b : Bool) (y : Option Symbol) → symbol_at file arities at ≡ y → step_of y ≡ Some (k, b, e) → Ahead file at e
    step_from at k e b (Some (sy.Leaf t n d)) h g =
        let a : d ≡ e = grind arith in
        let l = leaf_ahead file arities bytes at t n d h in
        record { after = omega arith; within = omega arith }
    step_from at k e b (Some (sy.Op t j d)) h g =
        let a : d ≡ e = grind arith in
        let l = op_ahead file arities bytes at t j d h in
        record { after = omega arith; within = omega arith }
    step_from at k e b None h g = clash (cc)

    pub step_ahead : (at k e : ℕ) (b : Bool) → step_of (symbol_at file arities at) ≡ Some (k, b, e) → Ahead file at e
    step_ahead at k e b h = step_from at k e b (symbol_at file arities at) refl h

    turned :
        (count pending at k e m : ℕ) (found b : Bool) (y : Option Symbol) → symbol_at file arities at ≡ y → m ≡ pending + k → step_of y ≡ Some (k, b, e)
        → tally count found (and_then (build (term file arities) y) (λ x d. and_then (many (term file arities) pending d) (λ xs f. got (x ∷ xs) f)))
        ≡ tally (count + 1) (found || b) (many (term file arities) m e)
    turned count pending at k e m found b (Some (sy.Leaf t n d)) y l h =
        let j : 0 ≡ k = grind arith in
        let z : pending ≡ m = omega arith in
        let w : d ≡ e = grind arith in
        let v : hits kind lo hi t n ≡ b = grind arith in
        leaf_turn count found (kind_of t) t n (tag_kind t (leaf_at file arities at t n d y).small) (many (term file arities) pending d)
        ∙ ap₂ (λ (x : Bool) (r : Read (List Term)). tally (count + 1) (found || x) r) v (ap₂ (many (term file arities)) z w)
    turned count pending at k e m found b (Some (sy.Op t j d)) y l h =
        let i : j ≡ k = grind arith in
        let z : m ≡ pending + j = omega arith in
        let w : d ≡ e = grind arith in
        let v : false ≡ b = grind arith in
        ap (tally count found) (then_then (many (term file arities) j d) _ _)
        ∙ op_turn count found t (many (term file arities) j d) (many (term file arities) pending)
        ∙ ap (tally (count + 1) (found || false)) (sym (many_split (term file arities) pending j m d z))
        ∙ ap₂ (λ (x : Bool) (r : Read (List Term)). tally (count + 1) (found || x) r) v (ap (many (term file arities) m) w)
    turned count pending at k e m found b None y l h = clash (cc)

    -- one symbol more
    pub walk_turn :
        (at pending count k e : ℕ) (found b : Bool) → 0 < pending → step_of (symbol_at file arities at) ≡ Some (k, b, e)
        → tally (count + 1) (found || b) (many (term file arities) (pending - 1 + k) e) ≡ tally count found (many (term file arities) pending at)
    unfolding many
    walk_turn at zero count k e found b l h = absurd (omega arith)
    walk_turn at (suc pending) count k e found b l h =
        sym (ap (λ (r : Read Term). tally count found (and_then r (λ x d. and_then (many (term file arities) pending d) (λ xs f. got (x ∷ xs) f))))
        (term_build file arities bytes at)
        ∙ turned count pending at k e (suc pending - 1 + k) found b (symbol_at file arities at) refl (omega arith) h)

    stopped : (y : Option Symbol) → step_of y ≡ None → build (term file arities) y ≡ fault
    stopped (Some (sy.Leaf t n d)) h = clash (cc)
    stopped (Some (sy.Op t j d)) h = clash (cc)
    stopped None h = refl

    -- no symbol here, no terms at all
    pub walk_fault :
        (at pending count : ℕ) (found : Bool) → 0 < pending → step_of (symbol_at file arities at) ≡ None
        → tally count found (many (term file arities) pending at) ≡ None
    unfolding many
    walk_fault at zero count found l h = absurd (omega arith)
    walk_fault at (suc pending) count found l h =
        ap (λ (r : Read Term). tally count found (and_then r (λ x d. and_then (many (term file arities) pending d) (λ xs f. got (x ∷ xs) f))))
        (term_build file arities bytes at ∙ stopped (symbol_at file arities at) h)

    pub walk_done : (at pending count : ℕ) (found : Bool) → pending ≤ 0 → tally count found (many (term file arities) pending at) ≡ Some (walk at count found)
    unfolding many
    walk_done at zero count found l = ap₂ (λ (n : ℕ) (b : Bool). Some (walk at n b)) (omega arith) (or-false found)
    walk_done at (suc pending) count found l = absurd (omega arith)

-- ── one term as one of several ──
module _ {R : Type 0} (one : Read Term → R) (several : Read (List Term) → R) (none : several fault ≡ one fault)
    (same : (t : Term) (e : ℕ) → several (got (t ∷ []) e) ≡ one (got t e)) where
  as_one : (r : Read Term) → several (and_then r (λ x e. and_then (got [] e) (λ xs f. got (x ∷ xs) f))) ≡ one r
  as_one (got t e) = same t e
  as_one fault = none

  pub one_term_lem : (p : ℕ → Read Term) (at : ℕ) → several (many p 1 at) ≡ one (p at)
  unfolding many
  one_term_lem p at = as_one (p at)

pub walks_one : (kind lo hi : ℕ) (p : ℕ → Read Term) (at : ℕ) → walks kind lo hi (many p 1 at) ≡ walked kind lo hi (p at)
walks_one kind lo hi = one_term_lem (walked kind lo hi) (walks kind lo hi) refl (λ t e. ap₂ (λ (n : ℕ) (b : Bool). Some (walk e n b)) (omega arith) (or-false (holds t kind lo hi)))

pub endeds_one : (p : ℕ → Read Term) (at : ℕ) → endeds (many p 1 at) ≡ ended (p at)
endeds_one = one_term_lem ended endeds refl (λ t e. ap (λ (n : ℕ). Some (e, n)) (omega arith))

-- ── the place and the symbols of a walk ──
abbrev pub part_of : Option Walk → Option (ℕ × ℕ)
part_of (Some w) = Some (w.end, w.size)
part_of None = None

pub walks_part : (kind lo hi : ℕ) (r : Read (List Term)) → part_of (walks kind lo hi r) ≡ endeds r
walks_part kind lo hi (got ts e) = refl
walks_part kind lo hi fault = refl
