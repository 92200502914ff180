-- What the code compares is the test of facts, and that of arguments and names.
use Rattle.std.specs.Prelude.{ℕ, List, [], ◌∷◌, Bool, true, ◌&&◌, ◌≡◌, refl, length, get_or, eqb}
use Rattle.std.proofs.Common.{append-nil, ap, ap₂, sym, ◌∙◌, arith}
use Rattle.lists.specs.All.{All}
use Rattle.lists.specs.Tests.{and_split, and_both, eqb_eq}
use Rattle.octets.specs.Compare.{compare_bytes, is_equal}
use Rattle.number.specs.Layout.{flat}
use Rattle.term.specs.Term.{public, Term, leaf, encode, Formed}
use Rattle.term.specs.Term.Laws.{encode_prefix}
use Rattle.term.specs.Arity.{arity, tag_arities}
use Rattle.term.specs.Arity.Laws.{no_leaf}
use Rattle.message.specs.Canon.{canon}
use Rattle.protocol.specs.Protocol.{Fact, Protocol, fact_arities}
use Rattle.steps.specs.Nodes.{Node}
use Rattle.steps.specs.Facts.{same_term, same_fact}
use Rattle.steps.specs.Facts.Formed.{FactFormed}
use Rattle.steps.specs.Facts.Laws.{equal_bytes}
use Rattle.steps.specs.Facts.Bytes.{canon_bytes, term_by_bytes, fact_by_bytes}
use Rattle.steps.specs.Values.Parts.{no_term}
use Rattle.facts.specs.declared.writing.Wanted.TheVariants as want
use Rattle.facts.specs.declared.nodes.FactId.{FactId}
use Rattle.facts.specs.declared.compare.Both.{Both}
use Rattle.facts.specs.Writing.{plain_bytes, wanted_bytes}
use Rattle.facts.specs.Calls.{fact_at, argument_at, Compared}

-- ── facts ──
pub same_by_bytes :
    (P : Protocol) (f g : Fact) → FactFormed P f → FactFormed P g → (r : Both) → Compared want.All f want.All g r
    → (r.symbols && r.bytes) ≡ same_fact f g
same_by_bytes P f g a b r h = ap₂ ◌&&◌ h.symbols h.bytes ∙ fact_by_bytes P f g a b

-- equal as they stand: bytes are read in one way only, so the arguments are equal, and with them their canonical forms
terms_by_bytes :
    (arities : List ℕ) (ts us : List Term) → length ts ≡ length us → All (Formed (arity arities)) ts → All (Formed (arity arities)) us
    → flat encode ts ≡ flat encode us → ts ≡ us
terms_by_bytes arities [] [] n v w h = refl
terms_by_bytes arities [] (u ∷ us) n v w h = absurd (omega arith)
terms_by_bytes arities (t ∷ ts) [] n v w h = absurd (omega arith)
terms_by_bytes arities (t ∷ ts) (u ∷ us) n v w h =
    let (a, b) = encode_prefix (arity arities) (λ f k e. no_leaf arities f k e) t u _ _ v.0 w.0 h in
    ap₂ ◌∷◌ a (terms_by_bytes arities ts us (omega arith) v.1 w.1 b)

pub same_by_plain :
    (P : Protocol) (f g : Fact) → FactFormed P f → FactFormed P g → (r : Both) → Compared want.Plain f want.Plain g r
    → (r.symbols && r.bytes) ≡ true → true ≡ same_fact f g
same_by_plain P f g a b r h both =
    let (s, t) = and_split r.symbols r.bytes both in
    let e : eqb f.symbol g.symbol ≡ true = sym h.symbols ∙ s in
    let n : length f.terms ≡ length g.terms =
    a.takes ∙ ap (λ (y : ℕ). get_or (fact_arities P.symbols) y 0) (eqb_eq f.symbol g.symbol e) ∙ sym b.takes in
    let q = terms_by_bytes (tag_arities P.functions) f.terms g.terms n a.each b.each
    ((equal_bytes (plain_bytes f) (plain_bytes g)).0 (sym h.bytes ∙ t)) in
    sym (and_both _ _ e ((equal_bytes (canon_bytes f.terms) (canon_bytes g.terms)).1 (ap canon_bytes q))) ∙ fact_by_bytes P f g a b

-- ── arguments ──
one_bytes : (f : Fact) (j : ℕ) → wanted_bytes (want.One j) f ≡ encode (canon (get_or f.terms j no_term))
one_bytes f j = append-nil (encode (canon (get_or f.terms j no_term)))

module _ (P : Protocol) (a : FactId) (i : ℕ) (x : Node) where
  pub arguments_test :
      (b : FactId) (j : ℕ) (y : Node) (r : Both)
      → Compared (want.One i) (fact_at P a.list a.number x) (want.One j) (fact_at P b.list b.number y) r
      → r.bytes ≡ same_term (argument_at P a.list a.number i x) (argument_at P b.list b.number j y)
  arguments_test b j y r h =
      h.bytes
      ∙ ap₂ (λ (l m : List ℕ). is_equal (compare_bytes l m)) (one_bytes (fact_at P a.list a.number x) i) (one_bytes (fact_at P b.list b.number y) j)
      ∙ term_by_bytes (argument_at P a.list a.number i x) (argument_at P b.list b.number j y)

  -- a name is its own canonical form
  pub public_test :
      (n : ℕ) (r : Bool) → r ≡ is_equal (compare_bytes (wanted_bytes (want.One i) (fact_at P a.list a.number x)) (encode (leaf public n)))
      → r ≡ same_term (argument_at P a.list a.number i x) (leaf public n)
  public_test n r h =
      h
      ∙ ap (λ (l : List ℕ). is_equal (compare_bytes l (encode (leaf public n)))) (one_bytes (fact_at P a.list a.number x) i)
      ∙ term_by_bytes (argument_at P a.list a.number i x) (leaf public n)
