-- The steps under a protocol, case by case: what is read, what 7, 8 and 9 rule of it, and then the edges.
use Rattle.std.specs.Prelude.{ℕ, List, [], Bool, ◌≡◌, refl, length}
use Rattle.std.specs.Prelude.{Option, Some, None}
use Rattle.std.proofs.Math.Path.{ap}
use Rattle.std.proofs.Common.{sym, ◌∙◌, eq-eqb}
use Rattle.lists.specs.Choice.{pick}
use Rattle.lists.specs.All.{All}
use Rattle.lists.specs.Lists.{first_bad}
use Rattle.octets.specs.Head.{Bytes}
use Rattle.rewriting.specs.Table.{Ruling, passed, refused, Finds, and_then, or_refuse}
use Rattle.rewriting.specs.Table.Laws.{refused_passed}
use Rattle.rewriting.specs.Graph.{Edge}
use Rattle.rewriting.specs.Names.{once_names}
use Rattle.rewriting.specs.Writer.{first_name_twice, draw_from}
use Rattle.protocol.specs.Protocol.{Protocol}
use Rattle.steps.specs.Nodes.{Node, NodeWithin, Reading, read, broken, no_rule, all_of, encode_nodes}
use Rattle.steps.specs.Nodes as nodes
use Rattle.steps.specs.Nodes.Exact.{steps_form}
use Rattle.steps.specs.Values.{NodeRight, WrongValue, TermLong}
use Rattle.steps.specs.Values.Tests.{node_values_ok, node_terms_ok}
use Rattle.steps.specs.Values.Passes.{value_pass, term_pass, absent_right}
use Rattle.steps.specs.Runs.{protocol_facts, rewrittens}
use Rattle.steps.specs.Causes.{steps_item, read_ruling, value_ruling, node_ruling, list_ruling}
use Rattle.steps.specs.Causes.Laws.{Passing}
use Rattle.steps.specs.Causes.Good.{GoodNodes}
use Rattle.steps.specs.WellFormed.{WellFormed}
use Rattle.graph.specs.Graph.{Graph, graph_of_lem}
use Rattle.graph.specs.Ruling.{refused_first}
use Rattle.checker.specs.Draw.{graph_of, nodes_under, steps_under}

-- a pass over rows that no item has finds nothing
none_found : (P : ℕ → Type 0) (o : Option ℕ) → Finds P o → ((k : ℕ) → P k → ⊥) → o ≡ None
none_found P None f h = refl
none_found P (Some k) f h = absurd (h k f.here)

refused_alike : {A B : Type 0} (a b n k : ℕ) → Path (Ruling A) (refused a b) (refused n k) → Path (Ruling B) (refused a b) (refused n k)
refused_alike a b n k h = cc

module _ (p : Protocol) (xs : List Node) where
  -- the graph with these edges, or the refusal
  abbrev pub with_edges : Ruling (List Edge) → Ruling Graph
  with_edges r = and_then r (λ es. passed (graph_of_lem xs es))

  -- 14 and the edges
  abbrev pub freely : Ruling (List Edge)
  freely = draw_from (protocol_facts p) 1 [] (rewrittens p xs)

  abbrev values : Option ℕ
  values = first_bad (λ k x. node_values_ok p x) 1 xs

  abbrev sizes : Option ℕ
  sizes = first_bad (λ k x. node_terms_ok p x) 1 xs

  abbrev names : Option ℕ
  names = first_name_twice (rewrittens p xs)

  -- ── 7, 8 and 9 refuse the nodes ──
  pub stopped : (n k : ℕ) → node_ruling p xs ≡ refused n k → nodes_under p xs ≡ refused n k
  stopped n k h =
      refused_first 7 values _ _ n k (refused_first 8 sizes _ _ n k (λ z.
      ap with_edges (refused_first 9 names _ freely n k (λ y. absurd (refused_passed n k xs (sym y))) z))) h

  -- ── right nodes ──
  module _ (within : All (NodeWithin p) xs) (right : All (NodeRight p) xs) where
    -- 7 and 8 let them through
    pub right_through : {A : Type 0} (r : Ruling A) → value_ruling p xs r ≡ r
    right_through r =
        let a = (absent_right p xs within).1 right in
        ap (λ (o : Option ℕ). or_refuse 7 o (or_refuse 8 sizes r)) (none_found (WrongValue p xs) values (value_pass p xs within).finds a.0)
        ∙ ap (λ (o : Option ℕ). or_refuse 8 o r) (none_found (TermLong p xs) sizes (term_pass p xs).finds a.1.0)

  -- and 9 too, where no name is made twice
  module _ (within : All (NodeWithin p) xs) (passing : Passing p xs) where
    none_twice : names ≡ None
    none_twice = once_names (rewrittens p xs) passing.names_once

    pub passing_through : nodes_under p xs ≡ with_edges freely
    passing_through =
        right_through within passing.right (graph_of p xs) ∙ ap (λ (o : Option ℕ). with_edges (or_refuse 9 o freely)) none_twice

-- ── the file ──
module _ (p : Protocol) (file : List ℕ) where
  -- what is read is ruled
  pub steps_read : (xs : List Node) (e : ℕ) → nodes.steps p file ≡ read xs e → steps_under p file ≡ nodes_under p xs
  unfolding steps_under
  steps_read xs e h = ap (λ (r : Reading (List Node)). and_then (read_ruling steps_item r) (nodes_under p)) h

  -- 3, 6, 7, 8 or 9
  pub steps_stopped : (n k : ℕ) → list_ruling p steps_item (nodes.steps p file) ≡ refused n k → steps_under p file ≡ refused n k
  unfolding steps_under
  steps_stopped n k h = go (nodes.steps p file) h
    where
      go :
          (r : Reading (List Node)) → list_ruling p steps_item r ≡ refused n k
          → and_then (read_ruling steps_item r) (nodes_under p) ≡ refused n k
      go (read xs e) h = stopped p xs n k h
      go broken h = refused_alike 3 steps_item n k h
      go (no_rule j) h = refused_alike 6 j n k h

  module _ (bytes : Bytes file) where
    -- a list that the ruling of its nodes calls good
    module _ (q table : List ℕ) (n : ℕ) (g : GoodNodes p q file 0 table n (length file)) where
      good_read : nodes.steps p file ≡ read g.items (length file)
      unfolding nodes.steps
      good_read =
          ap (all_of file) g.there ∙ ap (λ (t : Bool). pick t (read g.items (length file)) broken) (eq-eqb (length file) (length file) refl)

      pub good_bytes : file ≡ encode_nodes g.items
      good_bytes = (steps_form p file bytes g.items (length file) good_read).1

      pub steps_good : steps_under p file ≡ with_edges p g.items (freely p g.items)
      steps_good =
          steps_read g.items (length file) good_read
          ∙ passing_through p g.items (steps_form p file bytes g.items (length file) good_read).0.each g.passing

    -- a list that is well formed
    pub well_under : (w : WellFormed p file) → steps_under p file ≡ graph_of p w.nodes
    well_under w =
        steps_read w.nodes w.end w.reads
        ∙ right_through p w.nodes (steps_form p file bytes w.nodes w.end w.reads).0.each w.right (graph_of p w.nodes)
