-- The tests by bytes, as code compares them: an argument's canonical bytes; of a fact those of all its arguments, one behind the other.
use Rattle.std.specs.Prelude.{ℕ, List, [], ◌∷◌, ◌++◌, Bool, true, false, ◌&&◌, ◌≡◌, refl, length, get_or, eqb}
use Rattle.std.proofs.Common.{ap, ap₂, sym, ◌∙◌, arith}
use Rattle.lists.specs.All.{All}
use Rattle.lists.specs.Tests.{and_split, and_both, true_false, eqb_eq}
use Rattle.octets.specs.Compare.{compare_bytes, is_equal}
use Rattle.number.specs.Layout.{flat}
use Rattle.term.specs.Term.{Term, encode, Formed}
use Rattle.term.specs.Term.Laws.{encode_prefix}
use Rattle.term.specs.Arity.{arity, tag_arities}
use Rattle.term.specs.Arity.Laws.{no_leaf}
use Rattle.message.specs.Rules.{FitArities}
use Rattle.message.specs.Canon.{canon}
use Rattle.message.proofs.Theorems.{canon_is_formed, declared}
use Rattle.protocol.specs.Protocol.{Fact, Protocol, fact_arities}
use Rattle.steps.specs.Facts.{same_term, same_terms, same_fact}
use Rattle.steps.specs.Facts.Laws.{equal_bytes}
use Rattle.steps.specs.Facts.Formed.{FactFormed}

-- the bytes of the canonical forms, one behind the other
abbrev pub canon_bytes : List Term → List ℕ
canon_bytes ts = flat (λ t. encode (canon t)) ts

pub term_by_bytes : (t u : Term) → is_equal (compare_bytes (encode (canon t)) (encode (canon u))) ≡ same_term t u
unfolding same_term
term_by_bytes t u = refl

-- ── of facts that are the same ──
join_bytes : (ts us : List Term) → same_terms ts us ≡ true → canon_bytes ts ≡ canon_bytes us
unfolding same_terms same_term
join_bytes [] [] h = refl
join_bytes [] (u ∷ us) h = true_false false h refl
join_bytes (t ∷ ts) [] h = true_false false h refl
join_bytes (t ∷ ts) (u ∷ us) h =
    let (a, b) = and_split (same_term t u) (same_terms ts us) h in
    ap₂ ◌++◌ ((equal_bytes (encode (canon t)) (encode (canon u))).0 a) (join_bytes ts us b)

module _ (f g : Fact) (h : same_fact f g ≡ true) where
  pub same_symbols : f.symbol ≡ g.symbol
  unfolding same_fact
  same_symbols = eqb_eq f.symbol g.symbol (and_split (eqb f.symbol g.symbol) (same_terms f.terms g.terms) h).0

  pub same_bytes : canon_bytes f.terms ≡ canon_bytes g.terms
  unfolding same_fact
  same_bytes = join_bytes f.terms g.terms (and_split (eqb f.symbol g.symbol) (same_terms f.terms g.terms) h).1

-- ── of well-formed facts: the bytes of all arguments are equal just where those of each argument are ──
split_bytes :
    (arities : List ℕ) → FitArities (arity arities) → (ts us : List Term) → length ts ≡ length us → All (Formed (arity arities)) ts
    → All (Formed (arity arities)) us → canon_bytes ts ≡ canon_bytes us → same_terms ts us ≡ true
unfolding same_terms same_term
split_bytes arities g [] [] n v w h = refl
split_bytes arities g [] (u ∷ us) n v w h = absurd (omega arith)
split_bytes arities g (t ∷ ts) [] n v w h = absurd (omega arith)
split_bytes arities g (t ∷ ts) (u ∷ us) n v w h =
    let (a, b) = encode_prefix (arity arities) (λ f k e. no_leaf arities f k e) (canon t) (canon u) _ _
    (canon_is_formed (arity arities) g t v.0) (canon_is_formed (arity arities) g u w.0) h in
    and_both (same_term t u) (same_terms ts us) ((equal_bytes (encode (canon t)) (encode (canon u))).1 (ap encode a))
    (split_bytes arities g ts us (omega arith) v.1 w.1 b)

same_test : (a b : Bool) → (a ≡ true → b ≡ true) → (b ≡ true → a ≡ true) → a ≡ b
same_test true b h k = sym (h refl)
same_test false true h k = k refl
same_test false false h k = refl

-- b and c are judged where a holds alone
and_test : (a b c : Bool) → (a ≡ true → b ≡ c) → (a && b) ≡ (a && c)
and_test true b c h = h refl
and_test false b c h = refl

module _ (p : Protocol) (f g : Fact) (a : FactFormed p f) (b : FactFormed p g) where
  terms_by_bytes : f.symbol ≡ g.symbol → is_equal (compare_bytes (canon_bytes f.terms) (canon_bytes g.terms)) ≡ same_terms f.terms g.terms
  terms_by_bytes e =
      let n : length f.terms ≡ length g.terms = a.takes ∙ ap (λ (y : ℕ). get_or (fact_arities p.symbols) y 0) e ∙ sym b.takes in
      same_test (is_equal (compare_bytes (canon_bytes f.terms) (canon_bytes g.terms))) (same_terms f.terms g.terms)
      (λ h. split_bytes (tag_arities p.functions) (declared p.functions) f.terms g.terms n a.each b.each
      ((equal_bytes (canon_bytes f.terms) (canon_bytes g.terms)).0 h))
      (λ h. (equal_bytes (canon_bytes f.terms) (canon_bytes g.terms)).1 (join_bytes f.terms g.terms h))

  pub fact_by_bytes : (eqb f.symbol g.symbol && is_equal (compare_bytes (canon_bytes f.terms) (canon_bytes g.terms))) ≡ same_fact f g
  unfolding same_fact
  fact_by_bytes = and_test (eqb f.symbol g.symbol) _ (same_terms f.terms g.terms) (λ e. terms_by_bytes (eqb_eq f.symbol g.symbol e))
