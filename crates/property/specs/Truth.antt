-- The truth of a property over document 01's messages: those of crate message's promise, under the declared arities of the free functions, and
-- whole numbers as times.
use Rattle.std.specs.Prelude.{ℕ, List, [], map}
use Rattle.std.specs.Prelude.{Option}
use Rattle.lists.specs.All.{All}
use Rattle.lists.specs.All.Laws.{all_both}
use Rattle.lists.specs.Reflects.{reflects_exactly}
use Rattle.term.specs.Arity.{arity, tag_arities}
use Rattle.message.specs.Promise.{Message, SameMessage, public_name}
use Rattle.message.proofs.Promise.{messages}
use Rattle.protocol.specs.Figures.{action_list}
use Rattle.protocol.specs.Protocol.{Protocol}
use Rattle.protocol.specs.Protocol.Limits.{Within}
use Rattle.steps.specs.Nodes.{Node, NodeWithin}
use Rattle.steps.specs.Values.{NodeRight}
use Rattle.steps.specs.Facts.Messages.{MessageFact, each, IsNode, messages_of}
use Rattle.property.specs.Formula.{Formula}
use Rattle.property.specs.Meaning.{Messages, Fact, Trace, Holds}
use Rattle.property.specs.Times.{integers}
-- the judge decides it, over messages and over numbers; what makes no difference
pub mod Laws

module _ (free : List ℕ) where
  abbrev pub arities : ℕ → Option ℕ
  arities = arity (tag_arities free)

  -- "all messages": well-formed terms without variables, names of any number, equal by the equations
  abbrev pub real_messages : Messages
  real_messages = record {
    Msg = Message arities;
    Same = SameMessage arities;
    name = public_name arities;
    same = (messages free).same;
    decides = λ m n. reflects_exactly ((messages free).same m n) ((messages free).decides m n);
    itself = (messages free).is_reflexive;
    turned = λ {a} {b} s. (messages free).is_symmetric a b s;
    joined = λ {a} {b} {c} s t. (messages free).is_transitive a b c s t;
  }

  abbrev pub plain_fact : MessageFact arities → Fact (Message arities)
  plain_fact f = record { symbol = f.symbol; messages = f.messages }

  abbrev pub plain_trace : List (List (MessageFact arities)) → Trace (Message arities)
  plain_trace tr = map (map plain_fact) tr

  -- a closed property holds of a trace
  abbrev pub Truth : List (List (MessageFact arities)) → Formula → Type 0
  Truth tr f = Holds real_messages integers (plain_trace tr) [] f

-- the actions of the nodes of a list, in order
abbrev pub actions_of_nodes :
    (p : Protocol) (fit : Within p) (xs : List Node) → All (NodeWithin p) xs → All (NodeRight p) xs → List (List (MessageFact (arities p.functions)))
actions_of_nodes p fit xs within right =
    each (IsNode p fit) (messages_of p fit action_list) xs (all_both (NodeWithin p) (NodeRight p) xs within right)
