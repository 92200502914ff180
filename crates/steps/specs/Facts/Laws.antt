-- Two facts pass the test just where they have the same symbol and the same canonical bytes, and so, if they are well formed, equal messages.
use Rattle.std.specs.Prelude.{ℕ, true, ◌↔◌, ◌≡◌, get_or, eqb}
use mathlib.Core.List.{List, [], ◌∷◌, map}
use Rattle.std.specs.Prelude.{Option}
use Rattle.std.proofs.Math.Path.{refl}
use Rattle.std.proofs.Common.{ap, ap₂, sym, ◌∙◌}
use Rattle.lists.specs.Choice.{clash}
use Rattle.octets.specs.Compare.{compare_bytes, is_equal}
use Rattle.octets.specs.Compare.Laws.{compare_refl, compare_same}
use Rattle.std.specs.declared.cmp.Ordering.{Ordering}
use Rattle.std.specs.declared.cmp.Ordering.TheVariants.{Less, Equal, Greater}
use Rattle.lists.specs.All.{All}
use Rattle.term.specs.Term.{Term, encode, Formed}
use Rattle.lists.specs.Tests.{and_split, and_both, eqb_eq, eqb_self}
use Rattle.message.specs.Equations.{Same}
use Rattle.message.specs.Rules.{FitArities}
use Rattle.message.specs.Canon.{canon}
use Rattle.message.proofs.Theorems.{same_bytes}
use Rattle.protocol.specs.Protocol.{Fact, Protocol, fact_flags}
use Rattle.steps.specs.Facts.{Sames, SameFact, same_term, same_terms, same_fact, is_linear}

-- ── bytes ──
equal_order : (o : Ordering) → is_equal o ≡ true → o ≡ Equal
equal_order Less e = clash (cc)
equal_order Equal e = refl
equal_order Greater e = clash (cc)

pub equal_bytes : (a b : List ℕ) → (is_equal (compare_bytes a b) ≡ true) ↔ (a ≡ b)
equal_bytes a b = (
  λ h. compare_same a b (equal_order (compare_bytes a b) h),
  λ e. ap (λ (l : List ℕ). is_equal (compare_bytes a l)) (sym e) ∙ ap is_equal (compare_refl a),
)

-- ── by the canonical forms ──
abbrev forms : List Term → List (List ℕ)
forms ts = map (λ t. encode (canon t)) ts

-- ── terms: an equivalence on all of them ──
by_form : (t u : Term) → (same_term t u ≡ true) ↔ (encode (canon t) ≡ encode (canon u))
unfolding same_term
by_form t u = equal_bytes (encode (canon t)) (encode (canon u))

pub term_refl : (t : Term) → same_term t t ≡ true
term_refl t = (by_form t t).1 refl

pub term_sym : (t u : Term) → same_term t u ≡ true → same_term u t ≡ true
term_sym t u h = (by_form u t).1 (sym ((by_form t u).0 h))

pub term_trans : (t u v : Term) → same_term t u ≡ true → same_term u v ≡ true → same_term t v ≡ true
term_trans t u v h k = (by_form t v).1 ((by_form t u).0 h ∙ (by_form u v).0 k)

terms_forms : (ts us : List Term) → same_terms ts us ≡ true → forms ts ≡ forms us
unfolding same_terms same_term
terms_forms [] [] h = refl
terms_forms [] (u ∷ us) h = clash (cc)
terms_forms (t ∷ ts) [] h = clash (cc)
terms_forms (t ∷ ts) (u ∷ us) h =
    let (a, b) = and_split (same_term t u) (same_terms ts us) h in
    ap₂ ◌∷◌ ((equal_bytes (encode (canon t)) (encode (canon u))).0 a) (terms_forms ts us b)

forms_terms : (ts us : List Term) → forms ts ≡ forms us → same_terms ts us ≡ true
unfolding same_terms same_term
forms_terms [] [] h = refl
forms_terms [] (u ∷ us) h = clash (cc)
forms_terms (t ∷ ts) [] h = clash (cc)
forms_terms (t ∷ ts) (u ∷ us) h =
    let a : encode (canon t) ≡ encode (canon u) = cc in
    let b : forms ts ≡ forms us = cc in
    and_both (same_term t u) (same_terms ts us) ((equal_bytes (encode (canon t)) (encode (canon u))).1 a) (forms_terms ts us b)

record Alike (f g : Fact) : Type 0 where
  symbols : f.symbol ≡ g.symbol
  terms : forms f.terms ≡ forms g.terms

fact_alike : (f g : Fact) → same_fact f g ≡ true → Alike f g
unfolding same_fact
fact_alike f g h =
    let (a, b) = and_split (eqb f.symbol g.symbol) (same_terms f.terms g.terms) h in
    record { symbols = eqb_eq f.symbol g.symbol a; terms = terms_forms f.terms g.terms b }

alike_fact : (f g : Fact) → Alike f g → same_fact f g ≡ true
unfolding same_fact
alike_fact f g h =
    and_both (eqb f.symbol g.symbol) (same_terms f.terms g.terms)
    (ap (eqb f.symbol) (sym h.symbols) ∙ eqb_self f.symbol) (forms_terms f.terms g.terms h.terms)

-- ── the four laws ──
pub fact_refl : (f : Fact) → same_fact f f ≡ true
fact_refl f = alike_fact f f (record { symbols = refl; terms = refl })

pub fact_sym : (f g : Fact) → same_fact f g ≡ true → same_fact g f ≡ true
fact_sym f g h = let a = fact_alike f g h in alike_fact g f (record { symbols = sym a.symbols; terms = sym a.terms })

pub fact_trans : (f g h : Fact) → same_fact f g ≡ true → same_fact g h ≡ true → same_fact f h ≡ true
fact_trans f g h a b =
    let c = fact_alike f g a in
    let d = fact_alike g h b in
    alike_fact f h (record { symbols = c.symbols ∙ d.symbols; terms = c.terms ∙ d.terms })

pub fact_linear : (p : Protocol) (f g : Fact) → same_fact f g ≡ true → is_linear p f ≡ is_linear p g
fact_linear p f g h = ap (λ (y : ℕ). eqb (get_or (fact_flags p.symbols) y 0) 0) (fact_alike f g h).symbols

-- ── of well-formed facts: equal messages, argument by argument ──
module _ (ar : ℕ → Option ℕ) (fit : FitArities ar) where
  pub term_decides : (t u : Term) → Formed ar t → Formed ar u → (same_term t u ≡ true) ↔ Same ar t u
  term_decides t u w v =
      let b = same_bytes ar fit t u w v in
      let e = by_form t u in
      ((λ h. b.1 (e.0 h)), (λ d. e.1 (b.0 d)))

  to_sames : (ts us : List Term) → All (Formed ar) ts → All (Formed ar) us → same_terms ts us ≡ true → Sames ar ts us
  unfolding same_terms
  to_sames [] [] w v h = tt
  to_sames [] (u ∷ us) w v h = clash (cc)
  to_sames (t ∷ ts) [] w v h = clash (cc)
  to_sames (t ∷ ts) (u ∷ us) w v h =
      let (a, b) = and_split (same_term t u) (same_terms ts us) h in
      ((term_decides t u w.0 v.0).0 a, to_sames ts us w.1 v.1 b)

  of_sames : (ts us : List Term) → All (Formed ar) ts → All (Formed ar) us → Sames ar ts us → same_terms ts us ≡ true
  unfolding same_terms
  of_sames [] [] w v h = refl
  of_sames [] (u ∷ us) w v h = absurd h
  of_sames (t ∷ ts) [] w v h = absurd h
  of_sames (t ∷ ts) (u ∷ us) w v h =
      and_both (same_term t u) (same_terms ts us) ((term_decides t u w.0 v.0).1 h.0) (of_sames ts us w.1 v.1 h.1)

  -- the test is true exactly when the symbols are equal and the arguments are equal messages one by one
  pub fact_decides : (f g : Fact) → All (Formed ar) f.terms → All (Formed ar) g.terms → (same_fact f g ≡ true) ↔ SameFact ar f g
  unfolding same_fact
  fact_decides f g w v = (
    (λ h.
        let (a, b) = and_split (eqb f.symbol g.symbol) (same_terms f.terms g.terms) h in
        record { symbols = eqb_eq f.symbol g.symbol a; terms = to_sames f.terms g.terms w v b }),
    (λ d.
        and_both (eqb f.symbol g.symbol) (same_terms f.terms g.terms)
        (ap (eqb f.symbol) (sym d.symbols) ∙ eqb_self f.symbol) (of_sames f.terms g.terms w v d.terms)),
  )
