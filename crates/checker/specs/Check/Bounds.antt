-- The figures of checking's outcome are small, whatever the files: no number over 13, no item over 4,096, no more than 512 nodes and 4,096 edges.
use Rattle.std.specs.Prelude.{ℕ, suc, ◌≤◌, List, [], ◌∷◌, Bool, true, false, ◌≡◌, refl, length}
use Rattle.std.specs.Prelude.{Option, Some, None}
use Rattle.std.proofs.lemmas.Option.{none-some}
use Rattle.std.proofs.Common.{ap, sym, subst, arith}
use Rattle.lists.specs.Lists.{nth, bit, count_by}
use Rattle.lists.specs.Lists.Laws.{map_nth, nth_bound}
use Rattle.octets.specs.Head.{Bytes}
use Rattle.number.specs.Reading.{Read, got, fault}
use Rattle.number.specs.Reading.Numbers.{below_inside}
use Rattle.rewriting.specs.Table.{Ruling, passed, refused, Row, rows_after}
use Rattle.rewriting.specs.Table.Laws.{passed_inj, refused_passed}
use Rattle.rewriting.specs.Graph as theory
use Rattle.protocol.specs.Protocol.{Fact, Protocol, fact_arities}
use Rattle.protocol.specs.Protocol as protocols
use Rattle.protocol.specs.Protocol.Limits.{Within}
use Rattle.protocol.specs.Protocol.Exact.{protocol_form}
use Rattle.steps.specs.Nodes.{Node, most_nodes, Reading, read, broken, no_rule}
use Rattle.steps.specs.Nodes.Unknown.{RuleMissing}
use Rattle.steps.specs.Runs.{rewritten, rewrittens}
use Rattle.steps.specs.Causes.{graph_item, read_rows, read_ruling}
use Rattle.graph.specs.Graph.{Graph, most_edges}
use Rattle.graph.specs.Graph as graphs
use Rattle.graph.proofs.Graph.Exact.{graph_form, graph_rule_missing}
use Rattle.graph.specs.Causes.{graph_rows, graph_file_rows, graph_ruling, DependencyGraph}
use Rattle.graph.proofs.Causes.Laws.{graph_ruled}
use Rattle.property.specs.Formula.{Formula}
use Rattle.property.specs.Layout as layouts
use Rattle.property.specs.Causes as properties
use Rattle.property.specs.Causes.Laws.{Passing, property_ruled}
use Rattle.checker.specs.Files.{protocol_item, layout, layout_rows, fit_rows, protocol_ruling, protocol_rows}
use Rattle.checker.specs.Check.{Checked, property_under, property_under_rows, under_rows, files_rows, check_rows, check_outcome}
use Rattle.checker.specs.Small.{Small, small_join, small_after, small_fixed, refused_small}
use Rattle.checker.specs.Check.Laws.{Answers, check_ruled, passed_answers}

abbrev pub most_number : ℕ
most_number = 13

abbrev pub most_item : ℕ
most_item = most_edges

-- ── rows ──
abbrev Few : List Row → Type 0
Few = Small most_number most_item

-- ── the protocol ──
layout_reads : {A : Type 0} (item : ℕ) (r : Read A) (x : A) → layout item r ≡ passed x → (e : ℕ) × (r ≡ got x e)
layout_reads item (got y e) x h = (e, ap (λ z. got z e) (passed_inj y x h))
layout_reads item fault x h = absurd (refused_passed 3 item x h)

pub protocol_small : (file : List ℕ) → Bytes file → Few (protocol_rows file)
protocol_small file bytes =
    small_join most_number most_item (layout_rows protocol_item (protocols.protocol file)) (rows_after (layout protocol_item (protocols.protocol file)) fit_rows)
    (small_fixed most_number most_item 3 protocol_item (protocols.protocol file ≡ fault) (omega arith) (omega arith), tt)
    (small_after most_number most_item (layout protocol_item (protocols.protocol file)) fit_rows (λ p h.
    let (e, r) = layout_reads protocol_item (protocols.protocol file) p h in
    let few = (protocol_form file bytes p e r).within.few_rules in
    ((omega arith, λ k f. omega (arith, few, nth_bound p.rules k f.which f.stands)), tt)))

-- ── the property ──
property_small : (r : Read Formula) → Few (properties.property_rows r)
property_small r =
    small_join most_number most_item (properties.read_rows r) (rows_after (properties.read_ruling r) properties.fit_rows)
    (small_fixed most_number most_item 3 properties.property_item (r ≡ fault) (omega arith) (omega arith), tt)
    (small_after most_number most_item (properties.read_ruling r) properties.fit_rows
    (λ f h. (small_fixed most_number most_item 5 0 _ (omega arith) (omega arith), tt)))

-- ── the nodes of a graph or step list ──
module _ (p : Protocol) (xs : List Node) (few : length xs ≤ most_nodes) where
  pub node_small : (k : ℕ) (x : Node) → nth xs k ≡ Some x → k ≤ most_nodes
  node_small k x h = omega (arith, few, nth_bound xs k x h)

  pub seen_small : (k : ℕ) (y : theory.Node Fact) → nth (rewrittens p xs) k ≡ Some y → k ≤ most_nodes
  seen_small k y h = let (x, i, e) = map_nth (rewritten p) xs k y h in node_small k x i

-- the node that has no such rule is one of at most 512
pub missing_small : (p : Protocol) (file : List ℕ) → Bytes file → (k : ℕ) → RuleMissing p file 0 k → k ≤ most_nodes
missing_small p file bytes k m =
    let f = m.there in
    let c = below_inside file (suc most_nodes) 0 bytes m.count m.start m.counts in
    omega (arith, f.number, f.fewer, c.small)

-- ── the graph ──
module _ (p : Protocol) (file : List ℕ) (bytes : Bytes file) where
  unruled : (k : ℕ) → graphs.graph file p ≡ no_rule k → k ≤ most_item
  unruled k h = omega (arith, missing_small p file bytes k ((graph_rule_missing file p k).0 h))

  module _ (g : Graph) (few : length g.nodes ≤ most_nodes) (few_edges : length g.edges ≤ most_edges) where
    of_nodes : (k : ℕ) (x : Node) → nth g.nodes k ≡ Some x → k ≤ most_item
    of_nodes k x h = omega (arith, node_small p g.nodes few k x h)

    of_seen : (k : ℕ) (y : theory.Node Fact) → nth (rewrittens p g.nodes) k ≡ Some y → k ≤ most_item
    of_seen k y h = omega (arith, seen_small p g.nodes few k y h)

    edge_small : (k : ℕ) (e : theory.Edge) → nth g.edges k ≡ Some e → k ≤ most_item
    edge_small k e h = omega (arith, few_edges, nth_bound g.edges k e h)

    place_small :
        (part : theory.Node Fact → List Fact) (k i : ℕ) (f : Fact)
        → theory.fact_at part (rewrittens p g.nodes) (graphs.place_of k i) ≡ Some f → k ≤ most_item
    place_small part k i f h = go (nth (rewrittens p g.nodes) k) refl h
      where
        go : (o : Option (theory.Node Fact)) → nth (rewrittens p g.nodes) k ≡ o → theory.in_node part i o ≡ Some f → k ≤ most_item
        go (Some y) e q = of_seen k y e
        go None e q = absurd (none-some f q)

    passes_small : Few (graph_rows p g)
    passes_small = (
      (omega arith, λ k h. of_nodes k h.node h.stands),
      (
        (omega arith, λ k h. of_nodes k h.node h.stands),
        (
          (omega arith, λ k h. of_seen k h.node h.stands),
          (
            (omega arith, λ k h. edge_small k h.edge h.stands),
            (
              (omega arith, λ k h. edge_small k h.edge h.stands),
              (
                (omega arith, λ k h. place_small (λ x. x.premises) k h.index h.fact h.stands),
                ((omega arith, λ k h. place_small (λ x. x.conclusions) k h.index h.fact h.stands), tt),
              ),
            ),
          ),
        ),
      ),
    )

  graph_reads : (r : Reading Graph) (g : Graph) → read_ruling graph_item r ≡ passed g → (e : ℕ) × (r ≡ read g e)
  graph_reads (read x e) g h = (e, ap (λ z. read z e) (passed_inj x g h))
  graph_reads broken g h = absurd (refused_passed 3 graph_item g h)
  graph_reads (no_rule k) g h = absurd (refused_passed 6 k g h)

  graph_small : Few (graph_file_rows p file)
  graph_small =
      let r = graphs.graph file p in
      small_join most_number most_item (read_rows graph_item r) (rows_after (read_ruling graph_item r) (graph_rows p))
      (small_fixed most_number most_item 3 graph_item (r ≡ broken) (omega arith) (omega arith), ((omega arith, unruled), tt))
      (small_after most_number most_item (read_ruling graph_item r) (graph_rows p) (λ g h.
      let (e, i) = graph_reads r g h in
      let w = (graph_form file bytes p g e i).0 in
      passes_small g w.0.few w.1.0))

-- ── what is refused ──
pub property_bounded : (r : Read Formula) (n k : ℕ) → properties.property_ruling r ≡ refused n k → (n ≤ most_number) × (k ≤ most_item)
property_bounded r =
    refused_small most_number most_item (Passing r) (properties.property_rows r) (properties.property_ruling r) (property_small r) (property_ruled r)

pub graph_bounded :
    (p : Protocol) → Within p → (file : List ℕ) → Bytes file → (n k : ℕ) → graph_ruling p file ≡ refused n k → (n ≤ most_number) × (k ≤ most_item)
graph_bounded p fit file bytes =
    refused_small most_number most_item (DependencyGraph p file) (graph_file_rows p file) (graph_ruling p file) (graph_small p file bytes)
    (graph_ruled p fit file bytes)

-- ── the call ──
count_most : {A : Type 0} (t : A → Bool) (xs : List A) → count_by t xs ≤ length xs
count_most t [] = omega arith
count_most t (x ∷ xs) = let l = count_most t xs in let b = bit_most (t x) in omega arith
  where
    bit_most : (b : Bool) → bit b ≤ 1
    bit_most true = omega arith
    bit_most false = omega arith

-- "nodes, nodes with an action, edges"
pub record CountsSmall (c : Checked) : Type 0 where
  pub nodes : c.nodes ≤ most_nodes
  pub active : c.active ≤ c.nodes
  pub edges : c.edges ≤ most_edges

abbrev pub OutcomeSmall : Ruling Checked → Type 0
OutcomeSmall (passed c) = CountsSmall c
OutcomeSmall (refused n k) = (n ≤ most_number) × (k ≤ most_item)

module _ (protocol property graph : List ℕ) (bytes : Bytes protocol) (property_bytes : Bytes property) (graph_bytes : Bytes graph) where
  files_small : Few (files_rows protocol property graph)
  files_small =
      small_join most_number most_item (protocol_rows protocol) (rows_after (protocol_ruling protocol) (λ p. under_rows p property graph))
      (protocol_small protocol bytes)
      (small_after most_number most_item (protocol_ruling protocol) (λ p. under_rows p property graph) (λ p h.
      small_join most_number most_item (property_under_rows p property) (rows_after (property_under p property) (λ f. graph_file_rows p graph))
      (property_small (layouts.property property (fact_arities p.symbols)))
      (small_after most_number most_item (property_under p property) (λ f. graph_file_rows p graph) (λ f i. graph_small p graph graph_bytes))))

  rows_small : (work : ℕ) → Few (check_rows protocol property graph work)
  rows_small work = (
    small_fixed most_number most_item 1 0 _ (omega arith) (omega arith),
    (
      small_fixed most_number most_item 2 1 _ (omega arith) (omega arith),
      (
        small_fixed most_number most_item 2 2 _ (omega arith) (omega arith),
        (small_fixed most_number most_item 2 3 _ (omega arith) (omega arith), files_small),
      ),
    ),
  )

  counts_small : (c : Checked) → Answers protocol property graph c → CountsSmall c
  counts_small c a =
      let g = a.is_graph in
      let w = a.files.is_graph.within in
      subst CountsSmall (sym a.answer)
      record { nodes = w.0.few; active = count_most _ g.nodes; edges = w.1.0 }

  pub check_small : (work : ℕ) → OutcomeSmall (check_outcome protocol property graph work)
  check_small work = go (check_outcome protocol property graph work) refl
    where
      go : (r : Ruling Checked) → check_outcome protocol property graph work ≡ r → OutcomeSmall r
      go (passed c) e = counts_small c (passed_answers protocol property graph bytes property_bytes graph_bytes work c e)
      go (refused n k) e =
          refused_small most_number most_item (Answers protocol property graph) (check_rows protocol property graph work)
          (check_outcome protocol property graph work) (rows_small work) (check_ruled protocol property graph bytes property_bytes graph_bytes work) n k e
