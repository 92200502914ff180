-- The facts of a node's rule as the code finds them: how many a list has, where each stands, its symbol.
use Rattle.std.specs.Prelude.{ℕ, ◌<◌, List, [], map, ◌≡◌, refl, length, get_or}
use Rattle.std.specs.Prelude.{Some}
use Rattle.std.proofs.Common.{ap, sym, ◌∙◌, arith}
use Rattle.std.proofs.lemmas.List.{length-map}
use Rattle.std.proofs.Math.ListN.{get_or-eq_default}
use Rattle.lists.specs.Choice.{by_size}
use Rattle.lists.specs.All.Laws.{map_at}
use Rattle.number.specs.Reading.{below}
use Rattle.octets.specs.Head.{Bytes}
use Rattle.protocol.specs.Figures.{list_count, fact_limit, most_facts}
use Rattle.protocol.specs.Protocol.{Fact, Rule, Protocol, list_of, no_fact, fact}
use Rattle.protocol.specs.Places.{Here, value_of}
use Rattle.protocol.specs.Places.Laws.{symbol_law}
use Rattle.rules.specs.Numbered.{rule_of}
use Rattle.prepared.specs.Prepared.{slots_of, arities_of, list_entry, fact_entry, fact_place_in}
use Rattle.prepared.specs.Prepared.Laws.{list_few}
use Rattle.steps.specs.Nodes.{Node}
use Rattle.steps.specs.Facts.{filled_fact, filled_list, facts_of}
use Rattle.steps.specs.Table.{row_at, NodeIn}
use Rattle.steps.specs.Table.Laws.{node_rule_of, of_list, of_fact, of_three}
use Rattle.steps.specs.Values.Parts.{facts_many, fact_there}

-- ── a node's facts are its rule's, filled in ──
module _ (P : Protocol) (x : Node) (u : Rule) (known : rule_of P x.rule ≡ Some u) (list : ℕ) where
  facts_are : facts_of P list x ≡ map (filled_fact x.values) (list_of list u)
  facts_are = ap (filled_list list x.values) known

  pub facts_counted : length (facts_of P list x) ≡ length (list_of list u)
  facts_counted = ap length facts_are ∙ length-map (list_of list u) (filled_fact x.values)

  pub fact_filled : (i : ℕ) → i < length (facts_of P list x) → get_or (facts_of P list x) i no_fact ≡ filled_fact x.values (get_or (list_of list u) i no_fact)
  fact_filled i l =
      ap (λ (fs : List Fact). get_or fs i no_fact) facts_are
      ∙ map_at (filled_fact x.values) (list_of list u) i no_fact no_fact (omega (arith, facts_counted))

-- ── where the code finds them ──
-- a list; a fact of it
abbrev pub list_start : List ℕ → List ℕ → ℕ → ℕ → ℕ
list_start p nodes j list = list_entry p (get_or nodes (row_at j) 0) list

abbrev pub fact_start : List ℕ → List ℕ → ℕ → ℕ → ℕ → ℕ
fact_start p nodes j list i = fact_place_in p (list_start p nodes j list) i

module _ {p s nodes : List ℕ} {j : ℕ} {P : Protocol} {x : Node} (h : NodeIn p s nodes j P x) (list : ℕ) where
  abbrev u : Rule
  u = h.within.is

  pub list_counted :
      list < list_count → (start r : ℕ) → start ≡ list_start p nodes j list → r ≡ value_of (below p fact_limit start) → r ≡ length (facts_of P list x)
  list_counted l start r hl hr =
      hr ∙ ap (λ (k : ℕ). value_of (below p fact_limit k)) hl ∙ facts_many p (slots_of p) (arities_of p) (list_start p nodes j list) (list_of list u)
      (of_list (node_rule_of h) list l)
      ∙ sym (facts_counted P x u h.within.known list)

  -- a list that has a fact is one of the three
  pub list_known : (i : ℕ) → i < length (facts_of P list x) → list < list_count
  list_known i l =
      by_size list (length u.lists) (λ m. omega (arith, m, of_three (node_rule_of h)))
      (λ m. absurd (omega (arith, l, facts_counted P x u h.within.known list, ap length (get_or-eq_default u.lists [] m))))

  module _ (i : ℕ) (l : i < length (facts_of P list x)) where
    pub fact_here : Here (fact p (slots_of p) (arities_of p)) (get_or (list_of list u) i no_fact) (fact_start p nodes j list i)
    fact_here =
        fact_there p (slots_of p) (arities_of p) (list_start p nodes j list) (list_of list u) (of_list (node_rule_of h) list (list_known i l)) i
        (fact_start p nodes j list i) (omega (arith, l, facts_counted P x u h.within.known list)) refl

    -- the table has that place
    pub fact_entered : fact_entry p (get_or nodes (row_at j) 0) list i ≡ fact_start p nodes j list i
    fact_entered = of_fact (node_rule_of h) list i (list_known i l) (omega (arith, l, facts_counted P x u h.within.known list))

    pub fact_few : Bytes p → i < most_facts
    fact_few bytes =
        omega (
          arith,
          l,
          facts_counted P x u h.within.known list,
          list_few p bytes (omega (arith, h.prepared.long)) (list_start p nodes j list) (list_of list u) (of_list (node_rule_of h) list (list_known i l)),
        )

    pub symbol_is :
        (place y : ℕ) → place ≡ fact_start p nodes j list i → y ≡ value_of (below p (length (arities_of p)) place)
        → y ≡ (get_or (facts_of P list x) i no_fact).symbol
    symbol_is place y hf hy =
        hy ∙ ap (λ (k : ℕ). value_of (below p (length (arities_of p)) k)) hf ∙ symbol_law p (slots_of p) (arities_of p) (fact_start p nodes j list i)
        (get_or (list_of list u) i no_fact) fact_here
        ∙ sym (ap (λ (f : Fact). f.symbol) (fact_filled P x u h.within.known list i l))
