-- What the functions inside the call draw are asked, and what they promise.
use Rattle.std.specs.Prelude.{ℕ, List, ◌++◌, ◌≡◌, length}
use Rattle.number.specs.Layout.{listed}
use Rattle.rewriting.specs.Graph.{Edge}
use Rattle.rewriting.specs.Table.{Ruling, passed}
use Rattle.protocol.specs.Protocol.{Protocol}
use Rattle.steps.specs.Nodes.{Node, encode_nodes}
use Rattle.steps.specs.Causes.Good.{RightNodes}
use Rattle.graph.specs.Graph.{Graph, encode_edge, encode_graph}
use Rattle.checker.specs.Answer.{Written}
use Rattle.checker.specs.Answer.{written}
use Rattle.checker.specs.Answer.Judged as judged
use Rattle.checker.specs.Draw.{steps_under, draw_outcome, draw_output}
use Rattle.checker.specs.Draw.Steps.{with_edges, freely}

-- under a prepared protocol: the steps are refused, or their graph is written, or the output is short
abbrev pub Judges : Ruling Graph → List ℕ → List ℕ → Written → Type 0
Judges = judged.Judges encode_graph

-- the bytes of the steps, and edges behind them: written, or the output is short
abbrev pub behind_steps : List ℕ → List Edge → List ℕ
behind_steps steps es = steps ++ listed encode_edge es

abbrev pub Edged : List ℕ → List ℕ → List ℕ → Written → List Edge → Type 0
Edged steps output output' w es = judged.Judges (behind_steps steps) (passed es) output output' w

-- right nodes, the step list that they are, and that 14 alone is left to find
pub record Drawable (p steps nodes : List ℕ) (n : ℕ) (P : Protocol) (xs : List Node) : Type 0 where
  pub right : RightNodes p steps nodes n P xs
  pub bytes : steps ≡ encode_nodes xs
  pub under : steps_under P steps ≡ with_edges P xs (freely P xs)

-- the call, with any work area that is long enough
pub record Inside (protocol steps output output' : List ℕ) (r : Written) (work : ℕ) : Type 0 where
  pub answer : written r ≡ draw_outcome protocol steps (length output) work
  pub left : output' ≡ draw_output protocol steps output work
