-- An accepted graph by another statement of equality, which holds of a conclusion and a premise of the nodes wherever the first does.
use Rattle.std.specs.Prelude.{◌≡◌, Bool, List}
use Rattle.std.specs.Prelude.{Some}
use Rattle.rewriting.specs.Graph.{Node, Place, Edge, premise_at, conclusion_at, Joins, Accepted}

-- Wherever a conclusion and a premise are the same by one statement, they are by another.
abbrev pub Implies : {Fact : Type 0} → List (Node Fact) → (Fact → Fact → Type 0) → (Fact → Fact → Type 0) → Type 0
Implies {Fact} nodes Same Other =
    (a b : Place) (f g : Fact) → conclusion_at nodes a ≡ Some f → premise_at nodes b ≡ Some g → Same f g → Other f g

module _ {Fact : Type 0} {Same Other : Fact → Fact → Type 0} {nodes : List (Node Fact)} (implies : Implies nodes Same Other) where
  unfoldable pub joins_as : (e : Edge) → Joins Same nodes e → Joins Other nodes e
  joins_as e j = record {
    from = j.from;
    to = j.to;
    has_source = j.has_source;
    has_target = j.has_target;
    earlier = j.earlier;
    facts_same = implies e.source e.target j.from j.to j.has_source j.has_target j.facts_same;
  }

  pub accepted_as : (linear : Fact → Bool) (edges : List Edge) → Accepted Same linear nodes edges → Accepted Other linear nodes edges
  accepted_as linear edges g = record {
    joins = λ e m. joins_as e (g.joins e m);
    one_into = g.one_into;
    one_out = g.one_out;
    names_once = g.names_once;
  }
