-- How many facts a node has in a list, and which fact symbols are linear.
use Rattle.std.specs.Prelude.{ℕ, suc, ◌+◌, ◌≤◌, List, [], map, true, false, ◌↔◌, ◌≡◌, refl, length, get_or, eqb}
use Rattle.std.specs.Prelude.{Option, Some}
use Rattle.std.proofs.Common.{ap, sym, ◌∙◌, subst, arith}
use Rattle.std.specs.Prelude.{slice_get}
use Rattle.std.proofs.lemmas.List.{length-map}
use Rattle.lists.specs.Tests.{eqb_eq}
use Rattle.lists.specs.Lists.Laws.{at_some}
use Rattle.lists.specs.All.Laws.{all_map, all_at, map_at}
use Rattle.term.specs.Term.{Term}
use Rattle.term.specs.Arity.{tag_arities}
use Rattle.protocol.specs.Figures.{first_own, most_facts}
use Rattle.protocol.specs.Protocol.{Rule, Own, Protocol, fact_of, list_of, fr_symbol, in_symbol, out_symbol, k_symbol, fact_arities, fact_flags}
use Rattle.protocol.specs.Protocol.Limits.{Within}
use Rattle.protocol.specs.Protocol.Limits.Parts.{FactsWithin}
use Rattle.rules.specs.Numbered.Limits.{rule_within}
use Rattle.steps.specs.Nodes.{Node, NodeWithin}
use Rattle.steps.specs.Facts.{filled_fact, filled_list, facts_of, is_linear}

-- "each a count (8) and facts": of built-in rules too
pub facts_few : (p : Protocol) → Within p → (x : Node) → NodeWithin p x → (list : ℕ) → length (facts_of p list x) ≤ most_facts
facts_few p fit x b list =
    subst (λ (o : Option Rule). length (filled_list list x.values o) ≤ most_facts) (sym b.known)
    (omega (arith, length-map (list_of list b.is) (filled_fact x.values), few))
  where
    few : length (list_of list b.is) ≤ most_facts
    few =
        all_at (λ fs. length fs ≤ most_facts) [] (omega arith) b.is.lists
        (all_map (FactsWithin (tag_arities p.functions) (fact_arities p.symbols)) (λ fs. length fs ≤ most_facts) (λ fs w. w.few) b.is.lists
        (rule_within p fit x.rule b.is b.known).laid.each) list

-- "Symbols 0 Fr, 1 In, 2 Out are linear, 3 K persistent"
module _ (p : Protocol) (ts : List Term) where
  pub fr_linear : is_linear p (fact_of fr_symbol ts) ≡ true
  fr_linear = refl

  pub in_linear : is_linear p (fact_of in_symbol ts) ≡ true
  in_linear = refl

  pub out_linear : is_linear p (fact_of out_symbol ts) ≡ true
  out_linear = refl

  pub k_persistent : is_linear p (fact_of k_symbol ts) ≡ false
  k_persistent = refl

-- "own ones start at 4", "each arity (0 to 8) and 0 linear or 1 persistent"
pub own_linear :
    (p : Protocol) (ts : List Term) (i : ℕ) (o : Own) → slice_get p.symbols i ≡ Some o → (is_linear p (fact_of (first_own + i) ts) ≡ true) ↔ (o.flag ≡ 0)
own_linear p ts i o h = (
  (λ t. sym flag ∙ eqb_eq (get_or (fact_flags p.symbols) (first_own + i) 0) 0 t),
  (λ e. ap (λ (n : ℕ). eqb n 0) (flag ∙ e)),
)
  where
    behind : (i : ℕ) → get_or (fact_flags p.symbols) (first_own + i) 0 ≡ get_or (map (λ (o : Own). o.flag) p.symbols) i 0
    behind i = rw (four i) refl
      where
        four : (i : ℕ) → first_own + i ≡ suc (suc (suc (suc i)))
        four i = omega arith

    flag : get_or (fact_flags p.symbols) (first_own + i) 0 ≡ o.flag
    flag =
        let (l, e) = at_some o p.symbols i o h in
        behind i ∙ map_at (λ (o : Own). o.flag) p.symbols i o 0 l ∙ ap (λ (o : Own). o.flag) e
