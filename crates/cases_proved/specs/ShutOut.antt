-- "Shut out": what a checker and a canonical form that answer as defined cannot be, from the table's cases.
use Rattle.std.specs.Prelude.{ℕ, Bool, true, false, ◌||◌, ◌≢◌, ◌≡◌, refl, length, eqb}
use mathlib.Core.List.{List, [], ◌∷◌}
use Rattle.std.proofs.Common.{true≢false, ap, sym, ◌∙◌, arith}
use Rattle.lists.specs.Choice.{clash}
use Rattle.lists.specs.Lists.{keep_by, count_by}
use Rattle.octets.specs.Head.{Bytes}
use Rattle.octets.specs.Splice.{splice}
use Rattle.number.specs.Groups.{groups, groups_in}
use Rattle.term.specs.Term.{Term, leaf, fresh}
use Rattle.term.specs.Arity.{arity, tag_arities}
use Rattle.message.specs.Functions.{one, exp, inv, mul}
use Rattle.message.specs.Equations.{Same}
use Rattle.message.specs.Equations.Laws.{same_formed}
use Rattle.message.specs.Canon.{apply}
use Rattle.message.proofs.Theorems.{same_canon, declared}
use Rattle.rewriting.specs.Table.{Ruling, passed, refused}
use Rattle.rewriting.specs.Table.Laws.{refused_passed}
use Rattle.rewriting.specs.Graph.{Edge}
use Rattle.steps.specs.Nodes.{Node, node_of_lem}
use Rattle.graph.specs.Graph.{graph_of_lem, place_of, edge_of, encode_graph}
use Rattle.trace.specs.Active.{is_active}
use Rattle.checker.specs.Answer.{work_need}
use Rattle.checker.specs.Check.{Checked, check_outcome}
use Rattle.checker.specs.Check.Laws.{Answers, passed_answers}
use Rattle.checker.specs.Canonical.{canonical_outcome, canonical_output}
use Rattle.cases_proved.specs.Messages.{fn, Form, form_canon, inverse_one}
use Rattle.cases_proved.specs.Lines.{are_bytes, bytes_of, attack, run, Line}
use Rattle.cases_proved.specs.Lines.{printed_protocol, printed_property, printed_graph, without_last_edge, three_nodes}
use Rattle.cases_proved.specs.Lines.{facts_differ, not_earlier, received_twice, its_protocol, printed_bytes, printed_fit}
use Rattle.cases_proved.specs.Lines as lines
use Rattle.cases_proved.specs.Forms as forms
use Rattle.cases_proved.specs.Forms.{inverse_one_file}

-- ── a checker ──
-- "protocol, property and graph as any byte strings"
pub record Files : Type 0 where
  pub protocol : List ℕ
  pub property : List ℕ
  pub graph : List ℕ
  pub protocol_bytes : Bytes protocol
  pub property_bytes : Bytes property
  pub graph_bytes : Bytes graph

-- a graph with the printed protocol and property
abbrev with_graph : (graph : List ℕ) → are_bytes graph ≡ true → Files
with_graph graph b = record {
  protocol = printed_protocol;
  property = printed_property;
  graph = graph;
  protocol_bytes = printed_bytes;
  property_bytes = bytes_of printed_property refl;
  graph_bytes = bytes_of graph b;
}

-- answers of files with a work area of a length, as they are defined
module _
    (check : Files → ℕ → Ruling Checked)
    (defined : (s : Files) (work : ℕ) → check s work ≡ check_outcome s.protocol s.property s.graph work) where
  answers :
      (graph : List ℕ) (b : are_bytes graph ≡ true) (r : Ruling Checked) → Line printed_protocol printed_property graph r
      → check (with_graph graph b) work_need ≡ r
  answers graph b r h = defined (with_graph graph b) work_need ∙ h work_need (omega arith)

  -- some graph is accepted as an attack, some as a run, some refused
  pub some_attack : check (with_graph printed_graph refl) work_need ≡ attack 4 2 3
  some_attack = answers printed_graph refl (attack 4 2 3) lines.printed_line

  pub some_run : check (with_graph three_nodes refl) work_need ≡ run 3 1 2
  some_run = answers three_nodes refl (run 3 1 2) lines.run_line

  pub some_refused : check (with_graph without_last_edge refl) work_need ≡ refused 12 4
  some_refused = answers without_last_edge refl (refused 12 4) lines.edge_missing

  -- an edge fault behind node 1 is refused: with 12 above, and with 10, 11 and 13
  pub late_source : check (with_graph not_earlier refl) work_need ≡ refused 10 3
  late_source = answers not_earlier refl (refused 10 3) lines.source_late

  pub late_facts : check (with_graph facts_differ refl) work_need ≡ refused 11 3
  late_facts = answers facts_differ refl (refused 11 3) lines.facts_refused

  pub late_use : check (with_graph received_twice refl) work_need ≡ refused 13 2
  late_use = answers received_twice refl (refused 13 2) lines.used_twice

  -- "a checker that refuses all"
  pub refuses_all : ((s : Files) (work : ℕ) → (n : ℕ) × (k : ℕ) × (check s work ≡ refused n k)) → ⊥
  refuses_all h =
      let (n, k, e) = h (with_graph printed_graph refl) work_need in
      refused_passed n k _ (sym e ∙ some_attack)

  -- "a fixed `run`"; a fixed `attack`
  pub fixed_run : ((s : Files) (work : ℕ) (c : Checked) → check s work ≡ passed c → c.holds ≡ true) → ⊥
  fixed_run h = true≢false (sym (h (with_graph printed_graph refl) work_need _ some_attack))

  pub fixed_attack : ((s : Files) (work : ℕ) (c : Checked) → check s work ≡ passed c → c.holds ≡ false) → ⊥
  fixed_attack h = true≢false (h (with_graph three_nodes refl) work_need _ some_run)

  -- "edge tests only at node 1": two graphs with the same nodes, as many edges and the same ones at node 1 would be answered alike
  abbrev at_first : Edge → Bool
  at_first e = eqb e.source.node 1 || eqb e.target.node 1

  pub record FirstAlike (s t : Files) : Type 0 where
    pub protocols : s.protocol ≡ t.protocol
    pub properties : s.property ≡ t.property
    pub nodes : List Node
    pub edges : List Edge
    pub others : List Edge
    pub is : s.graph ≡ encode_graph (graph_of_lem nodes edges)
    pub other : t.graph ≡ encode_graph (graph_of_lem nodes others)
    pub as_many : length edges ≡ length others
    pub at_first_lem : keep_by at_first edges ≡ keep_by at_first others

  alike : FirstAlike (with_graph facts_differ refl) (with_graph printed_graph refl)
  unfolding groups groups_in
  alike =
      let a : List Term = leaf fresh 7 ∷ [] in
      let first : Edge = edge_of (place_of 1 1) (place_of 2 1) in
      let second : Edge = edge_of (place_of 2 1) (place_of 3 1) in
      record {
        protocols = refl;
        properties = refl;
        nodes = node_of_lem 0 a ∷ node_of_lem 31 a ∷ node_of_lem 1 a ∷ node_of_lem 2 a ∷ [];
        edges = first ∷ second ∷ edge_of (place_of 2 1) (place_of 4 1) ∷ [];
        others = first ∷ second ∷ edge_of (place_of 3 1) (place_of 4 1) ∷ [];
        is = refl;
        other = refl;
        as_many = refl;
        at_first_lem = refl;
      }

  pub first_node_only : ((s t : Files) (work : ℕ) → FirstAlike s t → check s work ≡ check t work) → ⊥
  first_node_only h =
      refused_passed 11 3 _ (sym late_facts
      ∙ h (with_graph facts_differ refl) (with_graph printed_graph refl) work_need alike ∙ some_attack)

  -- "invented node, action or edge counts": they are those of the graph that the files hold
  pub record Counted (s : Files) (c : Checked) : Type 0 where
    pub its : Answers s.protocol s.property s.graph c
    pub nodes : c.nodes ≡ length its.is_graph.nodes
    pub active : c.active ≡ count_by (is_active its.is_protocol) its.is_graph.nodes
    pub edges : c.edges ≡ length its.is_graph.edges

  pub counts : (s : Files) (work : ℕ) (c : Checked) → check s work ≡ passed c → Counted s c
  counts s work c e =
      let a = passed_answers s.protocol s.property s.graph s.protocol_bytes s.property_bytes s.graph_bytes work c
      (sym (defined s work) ∙ e) in
      record {
        its = a;
        nodes = ap (λ (d : Checked). d.nodes) a.answer;
        active = ap (λ (d : Checked). d.active) a.answer;
        edges = ap (λ (d : Checked). d.edges) a.answer;
      }

-- ── a canonical form ──
-- "Canonical form reads protocol and term, writes .. the output"
pub record Lent : Type 0 where
  pub protocol : List ℕ
  pub term : List ℕ
  pub output : List ℕ
  pub protocol_bytes : Bytes protocol
  pub term_bytes : Bytes term
  pub output_bytes : Bytes output

-- what the output holds afterwards, as it is defined
module _ (write : Lent → ℕ → List ℕ) (defined : (s : Lent) (work : ℕ) → write s work ≡ canonical_output s.protocol s.term s.output work) where
  -- inv(one), and room for it
  abbrev inverse_lent : Lent
  inverse_lent = record {
    protocol = printed_protocol;
    term = inverse_one_file;
    output = 0 ∷ 0 ∷ [];
    protocol_bytes = printed_bytes;
    term_bytes = bytes_of inverse_one_file refl;
    output_bytes = bytes_of (0 ∷ 0 ∷ []) refl;
  }

  -- "identity as canonical form": wherever it passes, it would write the term
  pub identity :
      ((s : Lent) (work n : ℕ) → canonical_outcome s.protocol s.term (length s.output) work ≡ passed n
      → write s work ≡ splice s.output 0 s.term) → ⊥
  unfolding splice
  identity h =
      let w = forms.inverse_one printed_protocol printed_bytes its_protocol printed_fit inverse_lent.output work_need (omega arith) (omega arith) in
      let e : write inverse_lent work_need ≡ 0x03 ∷ 0 ∷ [] = defined inverse_lent work_need ∙ w.left in
      let i : write inverse_lent work_need ≡ 0x0B ∷ 0x03 ∷ [] = h inverse_lent work_need 1 w.outcome in
      clash (cc (e, i))

-- ── messages, whatever free functions are declared ──
module _ (free : List ℕ) where
  -- "identity as canonical form": some term's canonical form, whatever it is, is not itself
  pub not_itself : (u : Term) → Form free (inv one) u → u ≢ inv one
  not_itself u f e =
      let q : inv one ≡ one = sym e ∙ sym (form_canon free (inv one) u f) ∙ form_canon free (inv one) one (inverse_one free) in
      clash (cc)

  -- "reading mul as the product in the DH group, so that exp spreads over it"
  pub no_spread : Same (arity (tag_arities free)) (exp (mul (fn 0) (fn 1)) (fn 2)) (mul (exp (fn 0) (fn 2)) (exp (fn 1) (fn 2))) → ⊥
  unfolding apply groups groups_in
  no_spread d =
      let w = same_formed d in
      let e : exp (mul (fn 0) (fn 1)) (fn 2) ≡ mul (exp (fn 0) (fn 2)) (exp (fn 1) (fn 2)) =
      (same_canon (arity (tag_arities free)) (declared free) (exp (mul (fn 0) (fn 1)) (fn 2)) (mul (exp (fn 0) (fn 2)) (exp (fn 1) (fn 2)))
      w.0 w.1).0 d in
      clash (cc)
