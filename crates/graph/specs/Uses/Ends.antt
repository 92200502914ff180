-- The ends of a graph of which 10 is absent have counts, and the counts are those of its edges.
use Rattle.std.specs.Prelude.{ℕ, ◌*◌, ◌≤◌, ◌<◌, List, length}
use Rattle.std.specs.Prelude.{Option}
use Rattle.std.proofs.Common.{ap, arith}
use Rattle.rewriting.specs.Graph.{Place}
use Rattle.protocol.specs.Figures.{most_facts}
use Rattle.protocol.specs.Protocol.{Fact, Protocol}
use Rattle.steps.specs.Nodes.{Node}
use Rattle.steps.specs.Table.Laws.{node_in}
use Rattle.steps.specs.Causes.Good.{RightNodes}
use Rattle.graph.specs.Graph.{Graph}
use Rattle.graph.specs.Table.{source_field, target_field}
use Rattle.graph.specs.Joins.{EndedIn, Ended, edge_in, source_end, target_end}
use Rattle.graph.specs.Uses.{count_place, EndInside, EndsInside, Counted, CountsOf}
use Rattle.graph.specs.Uses.Laws.{counts_of}
use Rattle.graph.specs.Passes.{few}

end_inside :
    {p s nodes : List ℕ} {P : Protocol} {xs : List Node} {list : ℕ} {a : Place} {o : Option Fact} → RightNodes p s nodes (length xs) P xs
    → Ended P xs list a o → EndInside a
end_inside {list = list} right e =
    let h = node_in right.stand e.node e.is.has_node in
    record {
      from_one = (omega (arith, e.is.node_is), omega (arith, e.is.index_is));
      node_few = omega (arith, e.is.node_is, h.few);
      index_few = omega (arith, e.is.index_is, e.is.has_fact, few h list);
    }

-- the end is at one of the nodes, so a table for all of them has its count
end_counted :
    {p s nodes : List ℕ} {P : Protocol} {xs : List Node} {list : ℕ} {a : Place} {o : Option Fact} {size : ℕ} → RightNodes p s nodes (length xs) P xs
    → Ended P xs list a o → most_facts * length xs ≤ size → count_place a < size
end_counted right e l =
    omega (arith, e.is.node_is, e.is.has_node, (end_inside right e).from_one, (end_inside right e).index_few, l)

module _ {p s nodes : List ℕ} {n : ℕ} {edges : List ℕ} {m : ℕ} {P : Protocol} {g : Graph} (h : EndedIn p s nodes n edges m P g) where
  all_counted : {size : ℕ} → most_facts * n ≤ size → most_facts * length g.nodes ≤ size
  all_counted l = omega (arith, h.graph_in.nodes_in.stand.count, l)

  pub sources_inside : {size : ℕ} → most_facts * n ≤ size → EndsInside edges m source_field size
  sources_inside room = record {
    inside = λ j l. let e = edge_in h j l in end_inside e.nodes_in (source_end e);
    counted = λ j l. let e = edge_in h j l in end_counted e.nodes_in (source_end e) (all_counted room);
    listed = λ j l. omega (arith, (edge_in h j l).listed);
  }

  pub targets_inside : {size : ℕ} → most_facts * n ≤ size → EndsInside edges m target_field size
  targets_inside room = record {
    inside = λ j l. let e = edge_in h j l in end_inside e.nodes_in (target_end e);
    counted = λ j l. let e = edge_in h j l in end_counted e.nodes_in (target_end e) (all_counted room);
    listed = λ j l. omega (arith, (edge_in h j l).listed);
  }

  pub sources_counted : (uses : List ℕ) → Counted edges m source_field uses → CountsOf uses (λ e. e.source) g.edges
  sources_counted uses c =
      counts_of h.graph_in.edges_in (λ e. e.source) source_field (λ j l. ap (λ e. e.source) (h.graph_in.edges_in.each j l)) uses c

  pub targets_counted : (uses : List ℕ) → Counted edges m target_field uses → CountsOf uses (λ e. e.target) g.edges
  targets_counted uses c =
      counts_of h.graph_in.edges_in (λ e. e.target) target_field (λ j l. ap (λ e. e.target) (h.graph_in.edges_in.each j l)) uses c
