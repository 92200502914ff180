-- The truth of a property over the trace of nodes, for all protocols, nodes and formulas.
use Rattle.std.specs.Prelude.{List, [], map, Bool}
use Rattle.term.specs.Term.{Term}
use Rattle.protocol.specs.Figures.{action_list}
use Rattle.protocol.specs.Protocol as protocol
use Rattle.steps.specs.Nodes.{Node}
use Rattle.steps.specs.Facts.{facts_of}
use Rattle.property.specs.Formula.{Formula}
use Rattle.property.specs.Meaning.{Fact, Trace}
use Rattle.property.specs.Judge.{judge}
use Rattle.trace.specs.Terms.{terms}
-- of a fit protocol and right nodes it is the truth over all messages and whole numbers
pub mod Laws
-- of document 01's functions alone it is the truth over document 01's messages
pub mod Older

abbrev pub term_fact : protocol.Fact → Fact Term
term_fact f = record { symbol = f.symbol; messages = f.terms }

-- "The trace gives each node number, from 1, the actions of that node, perhaps none"
abbrev pub term_trace : protocol.Protocol → List Node → Trace Term
term_trace P xs = map (λ x. map term_fact (facts_of P action_list x)) xs

-- the judge's answer over these terms
unfoldable pub truth : protocol.Protocol → List Node → Formula → Bool
truth P xs φ = judge terms (term_trace P xs) [] φ
