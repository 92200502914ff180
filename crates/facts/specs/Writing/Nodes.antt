-- The facts of a node of which 7 and 8 are absent are such as the code can write.
use Rattle.std.specs.Prelude.{ℕ, ◌+◌, ◌≤◌, List, [], ◌∷◌, false, ◌≡◌, refl, length, get_or, take, drop}
use mathlib.Core.List.Memᴰ
use Rattle.std.proofs.Common.{ap, sym, ◌∙◌, subst, arith, length-drop, length-take-le}
use Rattle.octets.specs.Limits.{longest}
use Rattle.term.specs.Sizes.{most_symbols}
use Rattle.octets.specs.Head.{Bytes}
use Rattle.number.specs.Groups.{number_limit}
use Rattle.number.specs.Reading.{got}
use Rattle.lists.specs.Lists.{any_by, ◌∈◌}
use Rattle.lists.specs.All.{All}
use Rattle.term.specs.Term.{symbols}
use Rattle.term.specs.Arity.{tag_arities}
use Rattle.term.specs.Reader.{term}
use Rattle.term.specs.Reader.Exact.{Good}
use Rattle.lists.specs.Tests.{not_split}
use Rattle.message.specs.Canonical.{Canonical}
use Rattle.message.specs.Substitution.{sub}
use Rattle.message.specs.Canon.{canon}
use Rattle.canonical.specs.Builtins.{Builtins, declared}
use Rattle.canonical.specs.Contract.Laws.{own_canonical}
use Rattle.protocol.specs.Protocol.{Fact, Rule, Own, Protocol, list_of, no_fact, fact_arities, fact, leaf_in}
use Rattle.protocol.specs.Protocol.Limits.{RuleWithin, OwnWithin, Within}
use Rattle.protocol.specs.Protocol.Limits.Parts.{FactWithin}
use Rattle.protocol.specs.Places.{Here}
use Rattle.prepared.specs.Prepared.{slots_of, arities_of}
use Rattle.prepared.specs.Prepared.Laws.{part_at}
use Rattle.rules.specs.Numbered.Limits.{rule_within}
use Rattle.lists.specs.All.Laws.{all_map, all_both, all_at, map_all, none_all}
use Rattle.steps.specs.Nodes.{Node, NodeWithin}
use Rattle.steps.specs.Facts.{value_at}
use Rattle.steps.specs.Facts.Formed.{same_rule, node_fits, list_within}
use Rattle.facts.specs.Writing.{FactJob, fact_room}
use Rattle.facts.specs.Writing.Places.{Placed}
use Rattle.facts.specs.Writing.Asked.{fillable_job}
use Rattle.steps.specs.Values.{NodeRight}
use Rattle.steps.specs.Values.Parts.{no_term}
use Rattle.steps.specs.Table.{place_count, places_at, NodeIn}

each_member : {A : Type 0} (P : A → Type 0) (xs : List A) → ((x : A) → x ∈ xs → P x) → All P xs
each_member P [] h = tt
each_member P (x ∷ xs) h = (h x (Memᴰ.head refl), each_member P xs (λ y m. h y (Memᴰ.tail m)))

-- "each arity (0 to 8)"
pub arities_few : (os : List Own) → All OwnWithin os → (y : ℕ) → get_or (fact_arities os) y 0 ≤ 8
arities_few os w y =
    all_at (λ (a : ℕ). a ≤ 8) 0 (omega arith) (fact_arities os)
    (omega arith, (omega arith, (omega arith, (omega arith, map_all OwnWithin (λ (a : ℕ). a ≤ 8) (λ o. o.arity) (λ o q. omega (arith, q.small)) os w)))) y

module _ (P : Protocol) (fit : Within P) (x : Node) (b : NodeWithin P x) (r : NodeRight P x) where
  lawful : RuleWithin (tag_arities P.functions) (fact_arities P.symbols) b.is
  lawful = rule_within P fit x.rule b.is b.known

  -- they are their own canonical forms
  node_own : All (λ t. canon t ≡ t) x.values
  node_own =
      all_map (λ t. Good (tag_arities P.functions) t × Canonical t) (λ t. canon t ≡ t)
      (λ t g. (own_canonical (tag_arities P.functions) (declared P.functions) t g.0.0).1 g.1) x.values
      (all_both (Good (tag_arities P.functions)) Canonical x.values b.each (node_fits P x b r Canonical (λ sort v f. f.canonical)))

  abbrev Small : Fact → Type 0
  Small f = All (λ t. symbols (sub (value_at x.values) t) ≤ most_symbols) f.terms

  abbrev Bound : Fact → Type 0
  Bound f = leaf_in 0 (length b.is.sorts) number_limit f ≡ false

  node_small : All (All Small) b.is.lists
  node_small =
      each_member (All Small) b.is.lists (λ fs m. each_member Small fs (λ f k.
      each_member (λ t. symbols (sub (value_at x.values) t) ≤ most_symbols) f.terms (λ t l.
      r.small t (record { facts = fs; fact = f; of_rule = subst (λ (u : Rule). fs ∈ u.lists) (sym (same_rule P x b r)) m; of_facts = k; of_fact = l }))))

  node_bound : All (All Bound) b.is.lists
  node_bound =
      all_map (λ fs. any_by (leaf_in 0 (length b.is.sorts) number_limit) fs ≡ false) (All Bound)
      (λ fs h. none_all (leaf_in 0 (length b.is.sorts) number_limit) fs h) b.is.lists
      (none_all (any_by (leaf_in 0 (length b.is.sorts) number_limit)) b.is.lists (not_split _ lawful.bound))

  node_few : (list : ℕ) → All (λ f. length f.terms ≤ 8) (list_of list b.is)
  node_few list =
      all_map (FactWithin (tag_arities P.functions) (fact_arities P.symbols)) (λ f. length f.terms ≤ 8)
      (λ f q. omega (arith, q.takes, arities_few P.symbols fit.symbols f.symbol)) (list_of list b.is) (list_within P b.is lawful list)

-- ── of a node in the table ──
-- the places of its values, and the place behind the last
abbrev pub places_of : List ℕ → ℕ → List ℕ
places_of nodes j = take place_count (drop (places_at j) nodes)

module _ {p s nodes : List ℕ} {j : ℕ} {P : Protocol} {x : Node} (h : NodeIn p s nodes j P x) where
  node_placed : Placed s (slots_of p) (places_of nodes j) x.values
  node_placed = record {
    each = λ v l.
        ap (term s (slots_of p)) (part_at nodes (places_at j) place_count v (omega (arith, h.row.few))) ∙ h.row.places v l
        ∙ ap (got (get_or x.values v no_term)) (sym (part_at nodes (places_at j) place_count (v + 1) (omega (arith, h.row.few))));
    many =
        let n : length (places_of nodes j) ≡ place_count =
        length-take-le place_count (drop (places_at j) nodes) (omega (arith, length-drop (places_at j) nodes, h.few, h.long)) in
        omega (arith, n, h.row.few);
  }

  -- fact i of a list of its rule, which stands at a place of p, can be written with its values
  pub node_job :
      Bytes p → Bytes s → NodeRight P x → (place list i n o : ℕ)
      → Here (fact p (slots_of p) (arities_of p)) (get_or (list_of list h.within.is) i no_fact) place → o + fact_room ≤ n → n ≤ longest
      → FactJob p s (places_of nodes j) place n o x.values (get_or (list_of list h.within.is) i no_fact)
  node_job bp bs right place list i n o here room short =
      let b = h.within in
      let fit = h.prepared.body.within in
      let f : Fact = get_or (list_of list b.is) i no_fact in
      fillable_job p s (places_of nodes j) place x.values f
      (record { bytes = bs; short = h.short; placed = node_placed; own = node_own P fit x b right })
      (record {
        bytes = bp;
        long = h.prepared.long;
        table = subst Builtins (sym h.prepared.body.slotted) (declared P.functions);
        here = here;
        bound =
            ap (λ (k : ℕ). leaf_in 0 k number_limit f) b.takes
            ∙ all_at (Bound P fit x b right) no_fact refl (list_of list b.is)
            (all_at (All (Bound P fit x b right)) [] tt b.is.lists (node_bound P fit x b right) list) i;
        few = all_at (λ f. length f.terms ≤ 8) no_fact (omega arith) (list_of list b.is) (node_few P fit x b right list) i;
        small =
            all_at (Small P fit x b right) no_fact tt (list_of list b.is)
            (all_at (All (Small P fit x b right)) [] tt b.is.lists (node_small P fit x b right) list) i;
      }) n o room short
