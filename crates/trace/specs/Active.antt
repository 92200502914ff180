-- "nodes with an action"
use Rattle.std.specs.Prelude.{Bool, length, ltb}
use Rattle.protocol.specs.Figures.{action_list}
use Rattle.protocol.specs.Protocol.{Protocol}
use Rattle.steps.specs.Nodes.{Node}
use Rattle.steps.specs.Facts.{facts_of}
-- their count, node by node
pub mod Laws

abbrev pub is_active : Protocol → Node → Bool
is_active P x = ltb 0 (length (facts_of P action_list x))
