-- The facts of a node within the limits: well formed, as many arguments as the symbol takes; and without variables if the values are.
use Rattle.std.specs.Prelude.{ℕ, zero, suc, ◌<◌, ◌≤◌, List, [], ◌∷◌, Bool, true, false, ◌↔◌, ◌≡◌, refl, length, get_or}
use Rattle.std.specs.Prelude.{Option, Some}
use Rattle.std.proofs.lemmas.Option.{same_Some}
use Rattle.std.proofs.Common.{ap, sym, ◌∙◌, subst, arith}
use Rattle.std.specs.Prelude.{slice_get}
use Rattle.std.proofs.lemmas.List.{length-map}
use Rattle.number.specs.Groups.{number_limit}
use Rattle.lists.specs.Lists.{any_by}
use Rattle.lists.specs.All.{All}
use Rattle.lists.specs.Reflects.{Reflects, reflects_exactly, alike}
use Rattle.term.specs.Term.{variable, Term, leaf, Formed}
use Rattle.term.specs.Arity.{arity, tag_arities}
use Rattle.term.specs.Reader.Exact.{Good}
use Rattle.term.specs.Walk.{holds}
use Rattle.lists.specs.Tests.{not_split}
use Rattle.message.specs.Substitution.{sub, Ground}
use Rattle.term.specs.Walk.Holds.{occurs_below}
use Rattle.message.specs.Substitution.Laws.{sub_formed, sub_ground}
use Rattle.message.proofs.Theorems.{declared}
use Rattle.protocol.specs.Protocol.{Fact, Rule, Protocol, list_of, fact_arities, leaf_in}
use Rattle.rules.specs.Numbered.Limits.{rule_within}
use Rattle.protocol.specs.Protocol.Limits.{RuleWithin, Within}
use Rattle.protocol.specs.Protocol.Limits.Parts.{TermWithin, FactWithin, FactsWithin}
use Rattle.lists.specs.All.Laws.{all_map, all_both, all_at, map_all, none_all}
use Rattle.steps.specs.Nodes.{Node, NodeWithin}
use Rattle.steps.specs.Facts.{value_at, filled_fact, filled_list, facts_of, SameFact, same_fact}
use Rattle.steps.specs.Facts.Laws.{fact_decides}
use Rattle.steps.specs.Values.{ValueFits, NodeRight}

-- a symbol that is there, as many arguments as it takes, each well formed
pub record FactFormed (p : Protocol) (f : Fact) : Type 0 where
  pub known : f.symbol < length (fact_arities p.symbols)
  pub takes : length f.terms ≡ get_or (fact_arities p.symbols) f.symbol 0
  pub each : All (Formed (arity (tag_arities p.functions))) f.terms

value_ground : (vs : List Term) → All Ground vs → (v : ℕ) → v < length vs → Ground (value_at vs v)
value_ground vs g v l = go vs g v (leaf variable v) l
  where
    go : (vs : List Term) → All Ground vs → (i : ℕ) (d : Term) → i < length vs → Ground (get_or vs i d)
    go [] g i d l = absurd (omega arith)
    go (t ∷ ts) g zero d l = g.0
    go (t ∷ ts) g (suc i) d l = go ts g.1 i d (omega arith)

-- ── the values of a node of which 7 is absent ──
each_sorted :
    (P : Term → Type 0) (ss : List ℕ) (vs : List Term) → length vs ≡ length ss
    → ((i sort : ℕ) (v : Term) → slice_get ss i ≡ Some sort → slice_get vs i ≡ Some v → P v) → All P vs
each_sorted P ss [] n h = tt
each_sorted P [] (v ∷ vs) n h = absurd (omega arith)
each_sorted P (s ∷ ss) (v ∷ vs) n h = (h 0 s v refl refl, each_sorted P ss vs (omega arith) (λ i t u a c. h (suc i) t u a c))

module _ (p : Protocol) (x : Node) (b : NodeWithin p x) (r : NodeRight p x) where
  pub same_rule : r.is ≡ b.is
  same_rule = same_Some r.is b.is (sym r.known ∙ b.known)

  -- what holds of a value that fits holds of all its values
  pub node_fits : (P : Term → Type 0) → ((sort : ℕ) (v : Term) → ValueFits sort v → P v) → All P x.values
  node_fits P h =
      each_sorted P b.is.sorts x.values b.takes
      (λ i sort v e d. h sort v (r.fits i sort v (record { sorted = ap (λ (u : Rule). slice_get u.sorts i) same_rule ∙ e; valued = d })))

  pub node_ground : All Ground x.values
  node_ground = node_fits Ground (λ sort v f. f.is_ground)

-- ── values are well formed, and so are the terms that they fill ──
module _ (p : Protocol) where
  abbrev ar : ℕ → Option ℕ
  ar = arity (tag_arities p.functions)

  abbrev Fitting : Fact → Type 0
  Fitting = FactWithin (tag_arities p.functions) (fact_arities p.symbols)

  pub value_formed : (vs : List Term) → All (Good (tag_arities p.functions)) vs → (v : ℕ) → Formed ar (value_at vs v)
  value_formed vs w v = all_at (Formed ar) (leaf variable v) tt vs (all_map _ (Formed ar) (λ t g. g.0) vs w) v

  fact_formed : (vs : List Term) → All (Good (tag_arities p.functions)) vs → (f : Fact) → Fitting f → FactFormed p (filled_fact vs f)
  fact_formed vs w f g = record {
    known = g.known;
    takes = length-map f.terms (sub (value_at vs)) ∙ g.takes;
    each =
        map_all (TermWithin (tag_arities p.functions)) (Formed ar) (sub (value_at vs))
        (λ t b. sub_formed ar (value_at vs) t b.formed (λ v o. value_formed vs w v)) f.terms g.each;
  }

  pub list_within : (u : Rule) → RuleWithin (tag_arities p.functions) (fact_arities p.symbols) u → (list : ℕ) → All Fitting (list_of list u)
  list_within u r list =
      all_at (All Fitting) [] tt u.lists (all_map (FactsWithin (tag_arities p.functions) (fact_arities p.symbols)) (All Fitting) (λ fs b. b.each)
      u.lists
      r.laid.each) list

module _ (p : Protocol) (fit : Within p) where
  pub facts_formed : (x : Node) → NodeWithin p x → (list : ℕ) → All (FactFormed p) (facts_of p list x)
  facts_formed x b list =
      subst (λ (o : Option Rule). All (FactFormed p) (filled_list list x.values o)) (sym b.known)
      (map_all (Fitting p) (FactFormed p) (filled_fact x.values) (fact_formed p x.values b.each) (list_of list b.is)
      (list_within p b.is (rule_within p fit x.rule b.is b.known) list))

  -- of two such facts the test decides whether they are the same
  pub formed_decides : (f g : Fact) → FactFormed p f → FactFormed p g → (same_fact f g ≡ true) ↔ SameFact (arity (tag_arities p.functions)) f g
  formed_decides f g a b = fact_decides (arity (tag_arities p.functions)) (declared p.functions) f g a.each b.each

  -- an answer that says by the equations whether they are the same is the test's
  pub by_equations :
      (f g : Fact) → FactFormed p f → FactFormed p g → (r : Bool) → Reflects (SameFact (arity (tag_arities p.functions)) f g) r → r ≡ same_fact f g
  by_equations f g a b r h = alike (λ s. s) (λ s. s) h (reflects_exactly (same_fact f g) (formed_decides f g a b))

  -- without variables, if the values are
  pub facts_ground : (x : Node) → NodeWithin p x → All Ground x.values → (list : ℕ) → All (λ f. All Ground f.terms) (facts_of p list x)
  facts_ground x b g list =
      subst (λ (o : Option Rule). All (λ f. All Ground f.terms) (filled_list list x.values o)) (sym b.known)
      (map_all (λ f. Fitting p f × (leaf_in 0 (length b.is.sorts) number_limit f ≡ false)) (λ f. All Ground f.terms) (filled_fact x.values)
      (λ f h. fact_ground x.values (length b.is.sorts) g (omega (arith, b.takes)) f h.0 h.1) (list_of list b.is)
      (all_both (Fitting p) (λ f. leaf_in 0 (length b.is.sorts) number_limit f ≡ false) (list_of list b.is) (list_within p b.is fits list)
      (all_at (All (λ f. leaf_in 0 (length b.is.sorts) number_limit f ≡ false)) [] tt b.is.lists
      (all_map (λ fs. any_by (leaf_in 0 (length b.is.sorts) number_limit) fs ≡ false) (All (λ f. leaf_in 0 (length b.is.sorts) number_limit f ≡ false))
      (λ fs h. none_all (leaf_in 0 (length b.is.sorts) number_limit) fs h)
      b.is.lists (none_all (any_by (leaf_in 0 (length b.is.sorts) number_limit)) b.is.lists (not_split _ fits.bound))) list)))
    where
      fits : RuleWithin (tag_arities p.functions) (fact_arities p.symbols) b.is
      fits = rule_within p fit x.rule b.is b.known

      fact_ground : (vs : List Term) (n : ℕ) → All Ground vs → n ≤ length vs → (f : Fact) → Fitting p f → leaf_in 0 n number_limit f ≡ false → All Ground
          (filled_fact vs f).terms
      fact_ground vs n g l f h k =
          map_all (λ t. TermWithin (tag_arities p.functions) t × (holds t 0 n number_limit ≡ false)) Ground (sub (value_at vs))
          (λ t b. sub_ground (value_at vs) t (λ v o. value_ground vs g v (omega (arith, occurs_below variable t v n b.0.range b.1 o)))) f.terms
          (all_both (TermWithin (tag_arities p.functions)) (λ t. holds t 0 n number_limit ≡ false) f.terms h.each
          (none_all (λ t. holds t 0 n number_limit) f.terms k))
