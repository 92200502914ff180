-- The judge decides the truth of a fit property, over messages and over numbers; naturals or integers, and equal messages, make no
-- difference to it.
use Rattle.std.specs.Prelude.{ℕ, zero, suc, List, [], ◌∷◌, map, ◌↔◌, ◌≡◌, refl}
use Rattle.std.specs.Prelude.{slice_get}
use Rattle.lists.specs.All.{All}
use Rattle.lists.specs.Reflects.{Reflects, reflects_back}
use Rattle.lists.specs.Pairs.{Pairs, nothing, more, pairs_map}
use Rattle.message.specs.Promise.{Message, SameMessage, SameMessages}
use Rattle.message.proofs.Promise.{messages}
use Rattle.protocol.specs.Protocol.{Protocol}
use Rattle.protocol.specs.Protocol.Limits.{Within}
use Rattle.steps.specs.Nodes.{Node, NodeWithin}
use Rattle.steps.specs.Values.{NodeRight}
use Rattle.steps.specs.Facts.Messages.{MessageFact, SameMessageFact, message_trace, or_none}
use Rattle.property.specs.Formula.{Formula}
use Rattle.property.specs.Fit.{IsFit}
use Rattle.property.specs.Fit.Laws.{fit_decides}
use Rattle.property.specs.Meaning.{Trace, actions_at, Holds}
use Rattle.property.specs.Meaning.Alike.{LikeFact, LikeTrace}
use Rattle.property.specs.Meaning.Invariant.{holds_alike}
use Rattle.property.specs.Times.{naturals, integers}
use Rattle.property.specs.Judge.{judge}
use Rattle.property.specs.Judge.Decides.{judge_decides, times_alike}
use Rattle.property.specs.Judge.Numbers.{numbers, Numbering, numbers_decide}
use Rattle.property.specs.Truth.{arities, real_messages, plain_fact, plain_trace, Truth, actions_of_nodes}

module _ (free : List ℕ) (tr : List (List (MessageFact (arities free)))) (f : Formula) (fits : IsFit [] f) where
  -- the judge decides it
  pub truth_decided : Reflects (Truth free tr f) (judge (real_messages free) (plain_trace free tr) [] f)
  truth_decided = judge_decides (real_messages free) (plain_trace free tr) f (reflects_back (fit_decides [] f) fits) integers

  -- "whole numbers": naturals or integers
  pub truth_naturals : Truth free tr f ↔ Holds (real_messages free) naturals (plain_trace free tr) [] f
  truth_naturals =
      let fit = reflects_back (fit_decides [] f) fits in (
        times_alike (real_messages free) (plain_trace free tr) f fit integers naturals,
        times_alike (real_messages free) (plain_trace free tr) f fit naturals integers,
      )

  -- any table of numbers, in which numbers are equal exactly where messages are the same and the public name n is base + n: the judge over the
  -- trace in these numbers decides it
  pub truth_by_numbers :
      (base : ℕ) (R : Message (arities free) → ℕ → Type 0) → Numbering (real_messages free) base R → (nt : Trace ℕ) → LikeTrace R (plain_trace free tr) nt
      → Reflects (Truth free tr f) (judge (numbers base) nt [] f)
  truth_by_numbers base R table nt like =
      numbers_decide (real_messages free) (messages free).public_apart base R table (plain_trace free tr) nt like f
      (reflects_back (fit_decides [] f) fits) integers

-- ── equal messages in the trace ──
module _ (free : List ℕ) where
  same_pairs : (ms ns : List (Message (arities free))) → SameMessages (arities free) ms ns → Pairs (SameMessage (arities free)) ms ns
  same_pairs [] [] s = nothing
  same_pairs [] (n ∷ ns) s = absurd s
  same_pairs (m ∷ ms) [] s = absurd s
  same_pairs (m ∷ ms) (n ∷ ns) s = more s.0 (same_pairs ms ns s.1)

  fact_alike :
      (f g : MessageFact (arities free)) → SameMessageFact (arities free) f g
      → LikeFact (SameMessage (arities free)) (plain_fact free f) (plain_fact free g)
  fact_alike f g s = record { symbol = s.symbols; messages = same_pairs f.messages g.messages s.messages }

  pub truth_alike :
      {tr tr' : List (List (MessageFact (arities free)))} → Pairs (Pairs (SameMessageFact (arities free))) tr tr' → (f : Formula)
      → Truth free tr f → Truth free tr' f
  truth_alike p f h =
      holds_alike (real_messages free) integers f
      (pairs_map (map (plain_fact free)) (map (plain_fact free)) (λ l m q. pairs_map (plain_fact free) (plain_fact free) fact_alike q) p) nothing h

-- ── the trace of a list of nodes ──
-- "The trace gives each node number, from 1, the actions of that node, perhaps none ..; other numbers have none."
pub nodes_trace :
    (p : Protocol) (fit : Within p) (xs : List Node) (within : All (NodeWithin p) xs) (right : All (NodeRight p) xs) (k : ℕ)
    → actions_at (plain_trace p.functions (actions_of_nodes p fit xs within right)) k
    ≡ map (plain_fact p.functions) (message_trace p fit xs within right k)
nodes_trace p fit xs within right zero = refl
nodes_trace p fit xs within right (suc k) = go (actions_of_nodes p fit xs within right) k
  where
    go :
        (l : List (List (MessageFact (arities p.functions)))) (i : ℕ)
        → or_none (slice_get (plain_trace p.functions l) i) ≡ map (plain_fact p.functions) (or_none (slice_get l i))
    go [] i = refl
    go (x ∷ l) zero = refl
    go (x ∷ l) (suc i) = go l i
