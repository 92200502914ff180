-- The tests decide what fits: of a value that is well formed and in range, of a node's values one by one, of a rule's terms.
use Rattle.std.specs.Prelude.{ℕ, zero, suc, ◌<◌, List, [], ◌∷◌, Bool, true, false, not, ◌&&◌, ◌↔◌, ◌≡◌, refl, ltb}
use Rattle.std.specs.Prelude.{Some}
use Rattle.std.proofs.lemmas.Option.{none-some, same_Some}
use Rattle.std.proofs.Common.{ap, sym, ◌∙◌, arith, ltb-true, lt-ltb, ltb-false, le-ltb}
use Rattle.std.specs.Prelude.{slice_get}
use Rattle.lists.specs.Choice.{clash}
use Rattle.number.specs.Groups.{number_limit}
use Rattle.term.specs.Term.{variable, public, fresh, Term, leaf, app, encode, symbols, Formed}
use Rattle.term.specs.Arity.{arity}
use Rattle.term.specs.Reader.Exact.{Good}
use Rattle.term.specs.Walk.{holds}
use Rattle.lists.specs.Tests.{by_bool, not_split, and_split, and_both}
use Rattle.lists.specs.Lists.Laws.{all_fails, fails_all}
use Rattle.message.specs.Canonical.{Canonical}
use Rattle.message.specs.Substitution.Laws.{none_ground, ground_none}
use Rattle.message.specs.Rules.{FitArities}
use Rattle.message.specs.Canon.{canon}
use Rattle.message.proofs.Theorems.{canonical_canon, canonical_bytes}
use Rattle.protocol.specs.Protocol.{Rule}
use Rattle.steps.specs.Facts.Laws.{equal_bytes}
use Rattle.steps.specs.Values.{OfSort, most_filled_in, ValueFits, TermOf, filled_symbols, most_in_value}
use Rattle.steps.specs.Values.Tests.{is_fresh, is_public, of_sort, is_canonical, value_ok, values_ok, term_ok, fact_ok, rule_ok}

-- ── sorts ──
fresh_is : (v : Term) → is_fresh v ≡ true → (n : ℕ) × (v ≡ leaf fresh n)
fresh_is (leaf variable n) h = clash (cc)
fresh_is (leaf public n) h = clash (cc)
fresh_is (leaf fresh n) h = (n, refl)
fresh_is (app f ts) h = clash (cc)

public_is : (v : Term) → is_public v ≡ true → (n : ℕ) × (v ≡ leaf public n)
public_is (leaf variable n) h = clash (cc)
public_is (leaf public n) h = (n, refl)
public_is (leaf fresh n) h = clash (cc)
public_is (app f ts) h = clash (cc)

sort_is : (sort : ℕ) (v : Term) → of_sort sort v ≡ true → OfSort sort v
sort_is zero v h = tt
sort_is (suc zero) v h = fresh_is v h
sort_is (suc (suc zero)) v h = public_is v h
sort_is (suc (suc (suc k))) v h = clash (cc)

is_sort : (sort : ℕ) (v : Term) → OfSort sort v → of_sort sort v ≡ true
is_sort zero v h = refl
is_sort (suc zero) v (n, e) = ap is_fresh e
is_sort (suc (suc zero)) v (n, e) = ap is_public e
is_sort (suc (suc (suc k))) v h = absurd h

-- ── one value ──
module _ (arities : List ℕ) (fit : FitArities (arity arities)) where
  pub canonical_decides : (v : Term) → Formed (arity arities) v → (is_canonical v ≡ true) ↔ Canonical v
  canonical_decides v w =
      let e = equal_bytes (encode (canon v)) (encode v) in
      let c = canonical_bytes (arity arities) fit v w in
      ((λ h. c.1 (e.0 h)), (λ h. e.1 (c.0 h)))

  -- the same by the canonical form
  pub canon_decides : (v : Term) → Formed (arity arities) v → (is_canonical v ≡ true) ↔ (canon v ≡ v)
  canon_decides v w =
      let d = canonical_decides v w in
      let c = canonical_canon (arity arities) fit v w in
      ((λ h. c.0 (d.0 h)), (λ h. d.1 (c.1 h)))

  pub value_decides : (sort : ℕ) (v : Term) → Good arities v → (value_ok sort v ≡ true) ↔ ValueFits sort v
  value_decides sort v g = (
    (λ h.
        let (a, b) = and_split (not (holds v 0 0 number_limit)) (of_sort sort v && (ltb (symbols v) (suc most_in_value) && is_canonical v)) h in
        let (c, d) = and_split (of_sort sort v) (ltb (symbols v) (suc most_in_value) && is_canonical v) b in
        let (e, f) = and_split (ltb (symbols v) (suc most_in_value)) (is_canonical v) d in
        record {
          is_ground = none_ground v g.1 (not_split (holds v 0 0 number_limit) a);
          sorted = sort_is sort v c;
          canonical = (canonical_decides v g.0).0 f;
          short = omega (arith, ltb-true (symbols v) (suc most_in_value) e);
        }),
    (λ f.
        and_both (not (holds v 0 0 number_limit)) (of_sort sort v && (ltb (symbols v) (suc most_in_value) && is_canonical v)) (ap not (ground_none v f.is_ground))
        (and_both (of_sort sort v) (ltb (symbols v) (suc most_in_value) && is_canonical v) (is_sort sort v f.sorted)
        (and_both (ltb (symbols v) (suc most_in_value)) (is_canonical v) (lt-ltb (symbols v) (suc most_in_value) (omega (arith, f.short)))
        ((canonical_decides v g.0).1 f.canonical)))),
  )

-- ── one by one ──
pub record BadValue (ss : List ℕ) (vs : List Term) : Type 0 where
  pub index : ℕ
  pub sort : ℕ
  pub value : Term
  pub sorted : slice_get ss index ≡ Some sort
  pub valued : slice_get vs index ≡ Some value
  pub is_false : value_ok sort value ≡ false

pub values_fail : (ss : List ℕ) (vs : List Term) → values_ok ss vs ≡ false → BadValue ss vs
values_fail [] vs h = clash (cc)
values_fail (s ∷ ss) [] h = clash (cc)
values_fail (s ∷ ss) (v ∷ vs) h =
    by_bool (value_ok s v)
    (λ t.
    let r : values_ok ss vs ≡ false = sym (ap (λ (b : Bool). b && values_ok ss vs) t) ∙ h in
    let b = values_fail ss vs r in
    record { index = suc b.index; sort = b.sort; value = b.value; sorted = b.sorted; valued = b.valued; is_false = b.is_false })
    (λ f. record { index = 0; sort = s; value = v; sorted = refl; valued = refl; is_false = f })

pub fail_values : (ss : List ℕ) (vs : List Term) (i s : ℕ) (v : Term) → slice_get ss i ≡ Some s → slice_get vs i ≡ Some v → value_ok s v ≡ false → values_ok ss vs
    ≡ false
fail_values [] vs i s v a b f = absurd (none-some s a)
fail_values (r ∷ ss) [] i s v a b f = absurd (none-some v b)
fail_values (r ∷ ss) (w ∷ vs) zero s v a b f =
    let d : value_ok r w ≡ false = ap (λ (k : ℕ). value_ok k w) (same_Some r s a) ∙ ap (value_ok s) (same_Some w v b) ∙ f in
    ap (λ (q : Bool). q && values_ok ss vs) d
fail_values (r ∷ ss) (w ∷ vs) (suc i) s v a b f =
    let h = fail_values ss vs i s v a b f in
    by_bool (value_ok r w) (λ t. ap (λ (q : Bool). q && values_ok ss vs) t ∙ h) (λ n. ap (λ (q : Bool). q && values_ok ss vs) n)

-- ── a rule's terms ──
pub record BadTerm (vs : List Term) (u : Rule) : Type 0 where
  pub term : Term
  pub there : TermOf u term
  pub long : most_filled_in < filled_symbols vs term

pub terms_fail : (vs : List Term) (u : Rule) → rule_ok vs u ≡ false → BadTerm vs u
terms_fail vs u h =
    let (fs, a, b) = all_fails _ u.lists h in
    let (f, c, d) = all_fails (fact_ok vs) fs b in
    let (t, e, g) = all_fails (term_ok vs) f.terms d in
    record {
      term = t;
      there = record { facts = fs; fact = f; of_rule = a; of_facts = c; of_fact = e };
      long = omega (arith, ltb-false (filled_symbols vs t) (suc most_filled_in) g);
    }

pub fail_terms : (vs : List Term) (u : Rule) (t : Term) → TermOf u t → most_filled_in < filled_symbols vs t → rule_ok vs u ≡ false
fail_terms vs u t h l =
    fails_all _ u.lists h.facts h.of_rule
    (fails_all (fact_ok vs) h.facts h.fact h.of_facts
    (fails_all (term_ok vs) h.fact.terms t h.of_fact (le-ltb (filled_symbols vs t) (suc most_filled_in) (omega arith))))
