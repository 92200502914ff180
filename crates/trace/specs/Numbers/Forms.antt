-- The number of a canonical form, by the name that its bytes begin with; the form of an argument that was written.
use Rattle.std.specs.Prelude.{ℕ, ◌+◌, ◌^◌, ◌<◌, List, [], ◌++◌, ◌≡◌, refl, take}
use Rattle.std.proofs.Common.{append-nil, ⊎_elim, ap, sym, ◌∙◌, arith}
use Rattle.std.specs.Prelude.{Option, Some, None}
use Rattle.std.proofs.Math.Path.{subst}
use Rattle.lists.specs.Choice.{clash}
use Rattle.lists.specs.All.{All}
use Rattle.lists.specs.All.Laws.{all_inside, all_at, all_map, map_all}
use Rattle.number.specs.Groups.{number_limit}
use Rattle.term.specs.Term.{variable, public, fresh, Term, leaf, app, Terms, nil, ◌&◌, encode, Formed, InRange, InRanges, Occurs, Occurss}
use Rattle.term.specs.Arity.{arity, tag_arities}
use Rattle.term.specs.Reader.{symbol_at}
use Rattle.term.specs.Reader.Exact.{Good, symbol_of_leaf, symbol_of_app}
use Rattle.term.specs.declared.Symbol.TheVariants as sy
use Rattle.message.specs.Substitution.{sub}
use Rattle.message.specs.Canon.{canon}
use Rattle.message.proofs.Theorems.{canon_is_formed, canon_is_in_range, declared}
use Rattle.canonical.specs.Loose.Laws.{sub_range}
use Rattle.protocol.specs.Protocol.{Fact, Rule, Protocol, no_fact, list_of, fact_arities}
use Rattle.protocol.specs.Protocol.Limits.{Within}
use Rattle.protocol.specs.Protocol.Limits.Parts.{TermWithin, FactWithin}
use Rattle.rules.specs.Numbered.Limits.{rule_within}
use Rattle.prepared.specs.Prepared.{slots_of}
use Rattle.steps.specs.Nodes.{Node, NodeWithin}
use Rattle.steps.specs.Facts.{value_at, filled_fact, filled_list, facts_of}
use Rattle.steps.specs.Facts.Formed.{list_within}
use Rattle.steps.specs.Values.Parts.{no_term}
use Rattle.steps.specs.Values.Code.{NameIs}
use Rattle.term.specs.declared.Public.{Public}
use Rattle.steps.specs.declared.values.Name.{Name}
use Rattle.steps.specs.declared.values.Name.TheVariants as nm
use Rattle.facts.specs.declared.writing.Wanted.TheVariants as want
use Rattle.facts.specs.declared.nodes.FactId.{FactId}
use Rattle.facts.specs.Writing.{Put, wanted_bytes}
use Rattle.facts.specs.Calls.{fact_at, argument_at, OneOf}
use Rattle.facts.specs.Calls.Meaning.{fact_formed}
use Rattle.facts.specs.Marks.{mark_from}
use Rattle.trace.specs.Tables.{base}
use Rattle.trace.specs.Numbers.{public_number, number_by, form_number, FormIn}

module _ {form p : List ℕ} where
  begins : (t : Term) → FormIn form p t → form ≡ encode t ++ []
  begins t f = f.bytes ∙ sym (append-nil (encode t))

  public_there : (t : Term) → FormIn form p t → (n e : ℕ) → symbol_at form (slots_of p) 0 ≡ Some (sy.Leaf 1 n e) → t ≡ leaf public n
  public_there (leaf variable m) f n e h =
      let g = symbol_of_leaf form (slots_of p) variable m 0 [] f.range (begins (leaf variable m) f) in
      let z : ◌≡◌ {A = ℕ} 0 1 = cc in
      absurd (omega arith)
  public_there (leaf public m) f n e h =
      let g = symbol_of_leaf form (slots_of p) public m 0 [] f.range (begins (leaf public m) f) in
      let z : m ≡ n = cc in
      ap (leaf public) z
  public_there (leaf fresh m) f n e h =
      let g = symbol_of_leaf form (slots_of p) fresh m 0 [] f.range (begins (leaf fresh m) f) in
      let z : ◌≡◌ {A = ℕ} 2 1 = cc in
      absurd (omega arith)
  public_there (app k ts) f n e h =
      let g = symbol_of_app form (slots_of p) k ts 0 [] f.formed.0 f.range.0 (begins (app k ts) f) in
      clash (cc)

  no_public : (t : Term) → FormIn form p t → ((n e : ℕ) → symbol_at form (slots_of p) 0 ≡ Some (sy.Leaf 1 n e) → ⊥) → public_number t ≡ None
  no_public (leaf variable m) f h = refl
  no_public (leaf public m) f h =
      absurd (h m _ (symbol_of_leaf form (slots_of p) public m 0 [] f.range (begins (leaf public m) f)))
  no_public (leaf fresh m) f h = refl
  no_public (app k ts) f h = refl

  -- by the name that code finds
  module _ {t : Term} (f : FormIn form p t) (x : Option Name) (is : NameIs (symbol_at form (slots_of p) 0) x) where
    is_public : {y : Public} → x ≡ Some (nm.PublicName y) → t ≡ leaf public y.0
    is_public {y} e = let (d, h) = subst (NameIs (symbol_at form (slots_of p) 0)) e is in public_there t f y.0 d h

    pub public_small : {y : Public} → x ≡ Some (nm.PublicName y) → base + y.0 < 2 ^ 32
    unfolding number_limit
    public_small {y} e = let r : InRange (leaf public y.0) = subst InRange (is_public e) f.range in omega (arith, r)

    pub public_number_lem : {y : Public} → x ≡ Some (nm.PublicName y) → (r : ℕ) → r ≡ base + y.0 → r ≡ form_number t
    public_number_lem e r h = h ∙ sym (ap form_number (is_public e))

    -- another name, or none
    other_name : ((y : Public) → x ≡ Some (nm.PublicName y) → ⊥) → (n e : ℕ) → symbol_at form (slots_of p) 0 ≡ Some (sy.Leaf 1 n e) → ⊥
    other_name h n e g = go x is h
      where
        go : (o : Option Name) → NameIs (symbol_at form (slots_of p) 0) o → ((y : Public) → o ≡ Some (nm.PublicName y) → ⊥) → ⊥
        go (Some (nm.FreshName y)) (d, k) h = let z : ◌≡◌ {A = ℕ} 2 1 = cc in omega arith
        go (Some (nm.PublicName y)) k h = h y refl
        go None k h = (k n e).1 g

    pub no_number : ((y : Public) → x ≡ Some (nm.PublicName y) → ⊥) → (r : ℕ) → r ≡ mark_from 0 form → r ≡ form_number t
    no_number n r h =
        h ∙ ap (mark_from 0) f.bytes ∙ sym (ap (λ (o : Option ℕ). number_by o (mark_from 0 (encode t))) (no_public t f (other_name n)))

-- ── for crate steps: the terms of a node's facts are in range ──
module _ (v : ℕ) where
  mutual
    occurs_range : (t : Term) → InRange t → Occurs variable v t → v < number_limit
    occurs_range (leaf k m) r o = let z : m ≡ v = cc in omega (arith, r)
    occurs_range (app f ts) r o = occurss_range ts r.1 o

    occurss_range : (ts : Terms) → InRanges ts → Occurss variable v ts → v < number_limit
    occurss_range nil r o = absurd o
    occurss_range (t & ts) r o = ⊎_elim (λ q. occurs_range t r.0 q) (λ q. occurss_range ts r.1 q) o

module _ (p : Protocol) (fit : Within p) where
  facts_range : (x : Node) → NodeWithin p x → (list : ℕ) → All (λ f. All InRange f.terms) (facts_of p list x)
  facts_range x b list =
      subst (λ (o : Option Rule). All (λ f. All InRange f.terms) (filled_list list x.values o)) (sym b.known)
      (map_all (FactWithin (tag_arities p.functions) (fact_arities p.symbols)) (λ f. All InRange f.terms) (filled_fact x.values)
      (λ f w. map_all (TermWithin (tag_arities p.functions)) InRange (sub (value_at x.values))
      (λ t w. sub_range _ t w.range (λ v o. value v (occurs_range v t w.range o))) f.terms w.each)
      (list_of list b.is) (list_within p b.is (rule_within p fit x.rule b.is b.known) list))
    where
      value : (v : ℕ) → v < number_limit → InRange (value_at x.values v)
      value v l =
          all_at InRange (leaf variable v) l x.values (all_map (Good (tag_arities p.functions)) InRange (λ t g. g.1) x.values b.each) v

-- ── an argument that was written ──
module _ {p s nodes : List ℕ} {a : FactId} {j : ℕ} {P : Protocol} {x : Node} (f : OneOf p s nodes a j P x) where
  abbrev t : Term
  t = argument_at P a.list a.number j x

  argument_formed : Formed (arity (tag_arities P.functions)) t
  argument_formed = all_inside (Formed (arity (tag_arities P.functions))) no_term (fact_at P a.list a.number x).terms (fact_formed f).each j f.has

  argument_range : InRange t
  argument_range =
      all_inside InRange no_term (fact_at P a.list a.number x).terms
      (all_inside (λ (g : Fact). All InRange g.terms) no_fact (facts_of P a.list x)
      (facts_range P f.node.prepared.body.within x f.node.within a.list) a.number f.listed) j f.has

  pub form_in :
      (out out' : List ℕ) (e : ℕ) → Put out 0 out' e (wanted_bytes (want.One j) (fact_at P a.list a.number x)) → FormIn (take e out') p (canon t)
  form_in out out' e w = record {
    bytes = w.wrote.bytes ∙ append-nil (encode (canon t));
    formed =
        subst (λ (l : List ℕ). Formed (arity l) (canon t)) (sym f.node.prepared.body.slotted)
        (canon_is_formed (arity (tag_arities P.functions)) (declared P.functions) t argument_formed);
    range = canon_is_in_range (arity (tag_arities P.functions)) (declared P.functions) t argument_range;
    long = f.node.prepared.long;
  }
