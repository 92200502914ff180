-- The rewriting of crate rewriting at the facts of a protocol: runs, accepted graphs, what is drawn and refused. The nodes are those of a
-- step list or graph; no parameter is left but the protocol.
use Rattle.std.specs.Prelude.{List, map}
use Rattle.protocol.specs.Figures.{premise_list, conclusion_list}
use Rattle.rewriting.specs.Facts.{Facts, Tested}
use Rattle.rewriting.specs.Graph as graph
use Rattle.protocol.specs.Protocol.{Fact, Protocol}
use Rattle.steps.specs.Nodes.{Node}
use Rattle.steps.specs.Facts.{facts_of, made_name, same_fact, is_linear}
use Rattle.steps.specs.Facts.Laws.{fact_refl, fact_sym, fact_trans, fact_linear}
-- the theorems of crate rewriting at these facts
pub mod Theorems
-- runs, accepted graphs, the earliest sources and the table's rows by the equations
pub mod Equations
-- of document 01's functions alone they are what the ten equations give
pub mod Older
-- the machine's counts by any test of facts that decides the equations
pub mod AnyTest

-- the facts of a protocol
abbrev pub protocol_facts : Protocol → Facts
protocol_facts p = record {
  Fact = Fact;
  same = same_fact;
  linear = is_linear p;
  same_refl = fact_refl;
  same_sym = fact_sym;
  same_trans = fact_trans;
  same_linear = fact_linear p;
}

module _ (p : Protocol) where
  -- a node as the rewriting sees it
  abbrev pub rewritten : Node → graph.Node Fact
  rewritten x = record { premises = facts_of p premise_list x; conclusions = facts_of p conclusion_list x; makes = made_name x }

  abbrev pub rewrittens : List Node → List (graph.Node Fact)
  rewrittens xs = map rewritten xs

  -- "An accepted graph has: ..", by the test of facts
  abbrev pub Accepted : List Node → List graph.Edge → Type 0
  Accepted xs edges = graph.Accepted (Tested (protocol_facts p)) (is_linear p) (rewrittens xs) edges

  -- "no name made twice"
  abbrev pub NamesOnce : List Node → Type 0
  NamesOnce xs = graph.NamesOnce (rewrittens xs)
