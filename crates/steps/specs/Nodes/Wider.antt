-- Nodes that keep to the limits with numbers below one limit keep to them with a larger one.
use Rattle.std.specs.Prelude.{ℕ, ◌≤◌, List}
use Rattle.std.proofs.Common.{arith}
use Rattle.lists.specs.All.Laws.{all_map}
use Rattle.term.specs.Term.Laws.{below_wider}
use Rattle.term.specs.Arity.{tag_arities}
use Rattle.term.specs.Reader.Exact.{GoodBelow}
use Rattle.protocol.specs.Protocol.{Protocol}
use Rattle.steps.specs.Nodes.{Node, NodeBelow, NodesBelow}

module _ (limit more : ℕ) (wider : limit ≤ more) (p : Protocol) where
  node_wider : (x : Node) → NodeBelow limit p x → NodeBelow more p x
  node_wider x h = record {
    is = h.is;
    known = h.known;
    range = omega (arith, h.range);
    takes = h.takes;
    each =
        let a = tag_arities p.functions in
        all_map (GoodBelow limit a) (GoodBelow more a) (λ v g. (g.0, below_wider limit more wider v g.1)) x.values h.each;
  }

  pub nodes_wider : (xs : List Node) → NodesBelow limit p xs → NodesBelow more p xs
  nodes_wider xs h = record { few = h.few; each = all_map (NodeBelow limit p) (NodeBelow more p) node_wider xs h.each }
