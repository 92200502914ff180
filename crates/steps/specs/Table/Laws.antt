-- What a row says: its node's rule stands in the prepared protocol, its values at their places.
use Rattle.std.specs.Prelude.{ℕ, suc, ◌+◌, ◌*◌, ◌<◌, ◌≤◌, List, ◌≡◌, length, get_or}
use Rattle.std.specs.Prelude.{Some}
use Rattle.std.proofs.Common.{ap, sym, ◌∙◌, arith}
use Rattle.lists.specs.All.Laws.{all_inside}
use Rattle.octets.specs.Head.{Bytes}
use Rattle.octets.specs.Limits.{longest}
use Rattle.number.specs.Reading.{got, below}
use Rattle.number.specs.Reading.Numbers.{below_inside}
use Rattle.term.specs.Reader.{term}
use Rattle.protocol.specs.Figures.{variable_limit, list_count}
use Rattle.protocol.specs.Protocol.{Rule, Protocol, list_of}
use Rattle.protocol.specs.Places.{value_of, sort_of}
use Rattle.protocol.specs.Places.Laws.{rule_layout, sort_law, variables_law}
use Rattle.rules.specs.Numbered.{rule_of}
use Rattle.prepared.specs.Sections.{rule_count}
use Rattle.prepared.specs.Prepared.{slots_of, arities_of, place_at, RuleAt, list_entry, fact_entry, ListAt, fact_place_in, Prepared}
use Rattle.prepared.specs.Finding.{rule_listed, rule_at}
use Rattle.steps.specs.Nodes.{Node, no_node, most_nodes, NodeWithin, NodesWithin}
use Rattle.steps.specs.Values.Parts.{no_term, lists_many}
use Rattle.steps.specs.Table.{row_at, row_length, table_length, RowsFor, RowsOf, few_nodes, FewNodes, Row, NodeIn, NodesIn}

-- ── nodes within the limits, each with its row ──
pub nodes_in :
    {p s nodes : List ℕ} {n : ℕ} {P : Protocol} {xs : List Node} → Prepared p P → NodesWithin P xs → length xs ≡ n
    → ((j : ℕ) → j < n → Row p s nodes j (get_or xs j no_node)) → RowsFor nodes n → length s ≤ longest → NodesIn p s nodes n P xs
nodes_in prepared within count rows long short = record {
  prepared = prepared;
  count = count;
  few = omega (arith, within.few);
  within = within.each;
  rows = rows;
  long = long;
  short = short;
}

-- ── rows for the most nodes are enough for every list ──
pub all_rows : (s : List ℕ) → Bytes s → (at : ℕ) (nodes : List ℕ) → table_length ≤ length nodes → RowsOf s at nodes
all_rows s bytes at nodes h n e q = omega (arith, (below_inside s (suc most_nodes) at bytes n e q).small)

-- those for few nodes for a list of few
pub few_rows : (s : List ℕ) → FewNodes s → (nodes : List ℕ) → row_length * few_nodes ≤ length nodes → RowsOf s 0 nodes
few_rows s few nodes h n e q = omega (arith, few n e q)

-- ── one of the nodes ──
pub node_in :
    {p s nodes : List ℕ} {n : ℕ} {P : Protocol} {xs : List Node} → NodesIn p s nodes n P xs → (j : ℕ) → j < n
    → NodeIn p s nodes j P (get_or xs j no_node)
node_in {P = P} {xs} h j l = record {
  prepared = h.prepared;
  within = all_inside (NodeWithin P) no_node xs h.within j (omega (arith, h.count));
  row = h.rows j l;
  few = omega (arith, h.few);
  long = omega (arith, h.long);
  short = h.short;
}

-- ── a row stays where nothing before the next is written ──
pub row_kept :
    (p s nodes nodes' : List ℕ) (j k : ℕ) (x : Node) → j < k → ((i : ℕ) → i < row_at k → get_or nodes' i 0 ≡ get_or nodes i 0) → Row p s nodes j x
    → Row p s nodes' j x
row_kept p s nodes nodes' j k x l same r = record {
  few = r.few;
  rule = same (row_at j) (omega arith) ∙ r.rule;
  places = λ v h.
      ap (term s (slots_of p)) (same (35 * j + 1 + v) (omega (arith, r.few))) ∙ r.places v h
      ∙ ap (got (get_or x.values v no_term)) (sym (same (35 * j + 1 + (v + 1)) (omega (arith, r.few))));
  held = same (35 * j + 34) (omega arith) ∙ r.held;
  sizes = λ v h. same (35 * j + 18 + v) (omega (arith, r.few)) ∙ r.sizes v h;
}

-- ── the rule of a number in a prepared protocol ──
pub record RuleOf (p : List ℕ) (number : ℕ) (P : Protocol) (u : Rule) : Type 0 where
  pub prepared : Prepared p P
  pub is : rule_of P number ≡ Some u

module _ {p : List ℕ} {number : ℕ} {P : Protocol} {u : Rule} (h : RuleOf p number P u) where
  pub of_listed : number < rule_count
  of_listed = rule_listed P h.prepared.body.within number u h.is

  pub of_list : (list : ℕ) → list < list_count → ListAt p u list (list_entry p number list)
  of_list list l = h.prepared.lists number list u of_listed l h.is

  pub of_fact : (list i : ℕ) → list < list_count → i < length (list_of list u) → fact_entry p number list i ≡ fact_place_in p (list_entry p number list) i
  of_fact list i l m = h.prepared.facts number list i u of_listed l m h.is

  pub of_rule : RuleAt p u (place_at p number)
  of_rule = rule_at p P h.prepared.body number u h.is

  pub of_three : length u.lists ≡ list_count
  of_three = lists_many p (slots_of p) (arities_of p) (place_at p number) u of_rule

-- ── the node's rule ──
module _ {p s nodes : List ℕ} {j : ℕ} {P : Protocol} {x : Node} (h : NodeIn p s nodes j P x) where
  abbrev u : Rule
  u = h.within.is

  abbrev number : ℕ
  number = get_or nodes (row_at j) 0

  pub node_rule_of : RuleOf p number P u
  node_rule_of = record { prepared = h.prepared; is = ap (rule_of P) h.row.rule ∙ h.within.known }

  pub node_listed : number < rule_count
  node_listed = of_listed node_rule_of

  node_rule : RuleAt p u (place_at p number)
  node_rule = of_rule node_rule_of

  pub node_variables : (place : ℕ) → place ≡ place_at p number → value_of (below p variable_limit place) ≡ length x.values
  node_variables place e =
      ap (λ (i : ℕ). value_of (below p variable_limit i)) e
      ∙ variables_law p (slots_of p) (arities_of p) (place_at p number) u (rule_layout p (slots_of p) (arities_of p) (place_at p number) u node_rule)
      ∙ sym h.within.takes

  pub node_sort : (place : ℕ) → place ≡ place_at p number → (v : ℕ) → v < length x.values → value_of (sort_of p place v) ≡ get_or u.sorts v 0
  node_sort place e v l =
      ap (λ (i : ℕ). value_of (sort_of p i v)) e
      ∙ sort_law p (slots_of p) (arities_of p) (place_at p number) u (rule_layout p (slots_of p) (arities_of p) (place_at p number) u node_rule) v
      (omega (arith, h.within.takes))
