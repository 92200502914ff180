-- What demand 3 asks of its files is met: by the printed steps, which are a run, and by two lists that are none. To each of the three it is applied.
use Rattle.std.specs.Prelude.{ℕ, ◌+◌, ◌≤◌, List, [], ◌∷◌, map, false, ◌≡◌, refl, length, take, replicate}
use Rattle.std.proofs.Common.{ap, sym, ◌∙◌, subst, arith}
use Rattle.std.proofs.lemmas.List.{length-replicate}
use Rattle.lists.specs.All.{All}
use Rattle.lists.specs.Below.{all_below}
use Rattle.lists.specs.Reflects.{reflects_true}
use Rattle.octets.specs.Head.{Bytes}
use Rattle.number.specs.Groups.{groups, groups_in, number_limit}
use Rattle.number.specs.Reading.{read_in, read_number, below, many}
use Rattle.term.specs.Term.{leaf, fresh}
use Rattle.term.specs.Arity.{arity, tag_arities}
use Rattle.term.specs.Reader.{symbol_at, term, term_in}
use Rattle.message.specs.Canon.{apply}
use Rattle.rewriting.specs.Table.{Ruling, Ruled, passed, refused}
use Rattle.rewriting.specs.Table.Laws.{refused_passed, passed_inj, passed_good}
use Rattle.rules.specs.Numbered.{rule_of, numbered, fixed}
use Rattle.steps.specs.Nodes.{Node, node_of_lem, read, node, nodes_from, node_list, steps}
use Rattle.steps.specs.Nodes.Exact.{steps_form}
use Rattle.steps.specs.Values.{NodeRight, value_rows}
use Rattle.steps.specs.Causes.{value_ruling}
use Rattle.steps.specs.Causes.Laws.{values_ruled}
use Rattle.steps.specs.WellFormed.{steps_limit, WellFormed}
use Rattle.graph.specs.Graph.{graph_of_lem}
use Rattle.property.specs.Example as properties
use Rattle.property.specs.Fit.Laws.{fit_decides}
use Rattle.checker.specs.Answer.{work_need}
use Rattle.checker.specs.Check.{Checked, checked, check_outcome}
use Rattle.checker.specs.Check.Fit.{FitProperty}
use Rattle.checker.specs.Draw.{draw_output}
use Rattle.checker.specs.Draw.Written.{written_front}
use Rattle.checker.specs.Demands.{SuchRun, IsRuled}
use Rattle.checker.specs.Demands.Third.{StepsHold, IsDrawn, IsRefused, WholeList, demand_three}
use Rattle.cases_proved.specs.Lines.{bytes_of, printed_protocol, printed_property, printed_graph, printed_nodes, its_protocol}
use Rattle.cases_proved.specs.Lines.{attack, Line, printed_bytes, printed_fit, printed_line}
use Rattle.cases_proved.specs.Drawings.{Draws, Refuses, received_again, made_again, printed_drawn, not_in_state, name_twice}

-- ── "every fit property": the printed one, under the printed protocol ──
pub printed_property_fit : FitProperty its_protocol printed_property properties.secret
printed_property_fit = record {
  short = omega arith;
  reads = properties.reads;
  fits = reflects_true (fit_decides [] properties.secret) properties.fits;
}

-- ── "every well-formed step list": nodes that are read, and that 7 and 8 let through ──
by_passing :
    (file : List ℕ) → Bytes file → length file ≤ steps_limit → (xs : List Node) (end : ℕ) → steps its_protocol file ≡ read xs end
    → value_ruling its_protocol xs (passed xs) ≡ passed xs → WellFormed its_protocol file
by_passing file bytes short xs end reads passes =
    let within = (steps_form its_protocol file bytes xs end reads).0.each in
    let ruled = values_ruled its_protocol (All (NodeRight its_protocol)) xs within [] (passed xs) (λ right. (xs, right, refl)) in
    record {
      short = short;
      nodes = xs;
      end = end;
      reads = reads;
      right = passed_good (All (NodeRight its_protocol)) (value_rows its_protocol xs) xs
          (subst (Ruled (value_rows its_protocol xs) (All (NodeRight its_protocol))) passes ruled);
    }

-- nodes of these rules, with the fresh name 7 for the one variable of each
abbrev of_rules : List ℕ → List Node
of_rules rs = map (λ r. node_of_lem r (leaf fresh 7 ∷ [])) rs

abbrev Passing : List ℕ → List Node → Type 0
Passing file xs = (steps its_protocol file ≡ read xs (length file)) × (value_ruling its_protocol xs (passed xs) ≡ passed xs)

computed :
    Passing printed_nodes (of_rules (0 ∷ 31 ∷ 1 ∷ 2 ∷ [])) × Passing received_again (of_rules (0 ∷ 31 ∷ 1 ∷ 1 ∷ []))
    × Passing made_again (of_rules (0 ∷ 0 ∷ []))
unfolding steps node_list nodes_from node rule_of numbered fixed term term_in symbol_at arity tag_arities apply
    many below read_number read_in groups groups_in number_limit all_below
computed = ((refl, refl), (refl, refl), (refl, refl))

pub nodes_bytes : Bytes printed_nodes
nodes_bytes = bytes_of printed_nodes refl

pub received_bytes : Bytes received_again
received_bytes = bytes_of received_again refl

pub made_bytes : Bytes made_again
made_bytes = bytes_of made_again refl

pub printed_well : WellFormed its_protocol printed_nodes
printed_well = by_passing printed_nodes nodes_bytes (omega arith) _ _ computed.0.0 computed.0.1

pub received_well : WellFormed its_protocol received_again
received_well = by_passing received_again received_bytes (omega arith) _ _ computed.1.0 computed.1.1

pub made_well : WellFormed its_protocol made_again
made_well = by_passing made_again made_bytes (omega arith) _ _ computed.2.0 computed.2.1

-- ── demand 3 of a well-formed list, with the printed protocol and property ──
module _ (file : List ℕ) (bytes : Bytes file) (well : WellFormed its_protocol file) where
  abbrev pub Drawn : Type 0
  Drawn = IsDrawn printed_protocol printed_property file printed_bytes bytes its_protocol printed_fit properties.secret well

  abbrev pub Refused : Type 0
  Refused = IsRefused printed_protocol printed_property file printed_bytes bytes its_protocol printed_fit properties.secret well

  abbrev pub Holding : Type 0
  Holding = StepsHold printed_protocol printed_property file printed_bytes bytes its_protocol printed_fit properties.secret well

  pub whole : WholeList printed_protocol printed_property file printed_bytes bytes its_protocol printed_fit properties.secret well
  whole =
      demand_three.step_lists printed_protocol printed_property file printed_bytes (bytes_of printed_property refl) bytes its_protocol printed_fit
      properties.secret printed_property_fit well

  -- one graph is drawn
  same_graph : (d : Drawn) (graph : List ℕ) → Draws file graph → d.graph ≡ graph
  same_graph d graph draws =
      let output : List ℕ = replicate (length d.graph + length graph) 0 in
      let long = length-replicate {A = ℕ} (length d.graph + length graph) 0 in
      let (o, w, t) = d.enough output work_need (omega arith) (omega (arith, long)) in
      let (p, v) = draws output work_need (omega arith) (omega (arith, long)) in
      let n : length d.graph ≡ length graph = passed_inj (length d.graph) (length graph) (sym o ∙ p) in
      sym t ∙ ap (λ (k : ℕ). take k (draw_output printed_protocol file output work_need)) n ∙ ap (take (length graph)) v
      ∙ written_front output graph (omega (arith, long))

  -- what is refused is no run
  no_run : (n k : ℕ) → Refuses file n k → SuchRun its_protocol well.nodes → ⊥
  no_run n k refuses run =
      let d : Drawn = whole.run_drawn run in
      refused_passed n k (length d.graph)
      (sym (refuses (length d.graph) work_need (omega arith)) ∙ (d.enough d.graph work_need (omega arith) (omega arith)).0)

  -- and refused as it is
  same_refusal : (r : Refused) (n k : ℕ) → Refuses file n k → (r.number ≡ n) × (r.item ≡ k)
  same_refusal r n k refuses =
      refused_inj r.number r.item n k (sym (r.refused_long 0 work_need (omega arith)) ∙ refuses 0 work_need (omega arith))
    where
      refused_inj : (m j n k : ℕ) → Path (Ruling ℕ) (refused m j) (refused n k) → (m ≡ n) × (j ≡ k)
      refused_inj m j n k e = let h : m ≡ n = cc in let i : j ≡ k = cc in (h, i)

-- ── the printed steps: a run, drawn as the printed graph, which is accepted as an attack ──
pub printed_run : SuchRun its_protocol printed_well.nodes
printed_run =
    (whole printed_nodes nodes_bytes printed_well).drawn_run (length printed_graph) work_need (length printed_graph)
    (printed_drawn (replicate (length printed_graph) 0) work_need (omega arith) (omega arith)).0

pub printed_is_drawn : Drawn printed_nodes nodes_bytes printed_well
printed_is_drawn = (whole printed_nodes nodes_bytes printed_well).run_drawn printed_run

pub printed_is_graph : printed_is_drawn.graph ≡ printed_graph
printed_is_graph = same_graph printed_nodes nodes_bytes printed_well printed_is_drawn printed_graph printed_drawn

pub printed_accepted : Line printed_protocol printed_property printed_is_drawn.graph (attack 4 2 3)
printed_accepted work long =
    ap (λ (graph : List ℕ). check_outcome printed_protocol printed_property graph work) printed_is_graph ∙ printed_line work long

-- "as an attack exactly when the trace makes the property false": the trace makes it false
pub printed_is_false : ¬ Holding printed_nodes nodes_bytes printed_well
printed_is_false =
    let c : Checked = checked its_protocol properties.secret (graph_of_lem printed_well.nodes printed_is_drawn.edges) in
    let e : passed c ≡ attack 4 2 3 = sym (printed_is_drawn.accepted work_need (omega arith)) ∙ printed_accepted work_need (omega arith) in
    printed_is_drawn.attack.0 (ap (λ (d : Checked). d.holds) (passed_inj c _ e))

-- "if the graph is accepted, then its nodes in file order are a run ..": the printed graph is
pub printed_ruled :
    IsRuled printed_protocol printed_property printed_graph printed_bytes (bytes_of printed_property refl) (bytes_of printed_graph refl)
    record { holds = false; nodes = 4; active = 2; edges = 3 }
printed_ruled =
    demand_three.accepted_graphs printed_protocol printed_property printed_graph printed_bytes (bytes_of printed_property refl)
    (bytes_of printed_graph refl) work_need _ (printed_line work_need (omega arith))

-- ── two lists that are no run: the last node finds no Out, the second makes the first one's name ──
pub received_no_run : ¬ SuchRun its_protocol received_well.nodes
received_no_run = no_run received_again received_bytes received_well 14 4 not_in_state

pub received_refused : Refused received_again received_bytes received_well
received_refused = (whole received_again received_bytes received_well).no_run_refused received_no_run

pub received_fourteen : (received_refused.number ≡ 14) × (received_refused.item ≡ 4)
received_fourteen = same_refusal received_again received_bytes received_well received_refused 14 4 not_in_state

pub made_no_run : ¬ SuchRun its_protocol made_well.nodes
made_no_run = no_run made_again made_bytes made_well 9 2 name_twice

pub made_refused : Refused made_again made_bytes made_well
made_refused = (whole made_again made_bytes made_well).no_run_refused made_no_run

pub made_nine : (made_refused.number ≡ 9) × (made_refused.item ≡ 2)
made_nine = same_refusal made_again made_bytes made_well made_refused 9 2 name_twice
