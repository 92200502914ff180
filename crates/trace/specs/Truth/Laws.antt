-- Of a fit protocol and right nodes the answer says whether the property holds of the trace, over all messages and whole numbers.
use Rattle.std.specs.Prelude.{ℕ, List, [], ◌∷◌, map, true, ◌↔◌, ◌≡◌, refl}
use Rattle.std.specs.Prelude.{Option}
use Rattle.std.proofs.Common.{subst, subst₂}
use Rattle.lists.specs.All.{All}
use Rattle.lists.specs.All.Laws.{all_both}
use Rattle.lists.specs.Reflects.{Reflects, reflects_exactly, alike}
use Rattle.lists.specs.Pairs.{Pairs, nothing, more, pairs_map}
use Rattle.term.specs.Term.{Term}
use Rattle.message.specs.Promise.{Message, SameMessage}
use Rattle.protocol.specs.Figures.{action_list}
use Rattle.protocol.specs.Protocol.{Fact, Protocol}
use Rattle.protocol.specs.Protocol.Limits.{Within}
use Rattle.steps.specs.Nodes.{Node, NodeWithin}
use Rattle.steps.specs.Values.{NodeRight}
use Rattle.steps.specs.Facts.{facts_of, same_term}
use Rattle.steps.specs.Facts.Messages.{test_exactly, each, MessageFact, IsMessage, message, IsMessages, message_fact, IsNode, messages_of, facts_messages}
use Rattle.property.specs.Formula.{Formula}
use Rattle.property.specs.Fit.{IsFit}
use Rattle.property.specs.Meaning.Alike.{LikeFact, LikeTrace}
use Rattle.property.specs.Judge.{judge}
use Rattle.property.specs.Judge.Natural.{Natural, judge_like}
use Rattle.property.specs.Truth.{arities, real_messages, plain_fact, plain_trace, Truth, actions_of_nodes}
use Rattle.property.specs.Truth.Laws.{truth_decided}
use Rattle.trace.specs.Terms.{terms}
use Rattle.trace.specs.Truth.{term_fact, term_trace, truth}

-- ── the trace of messages and the trace of their terms ──
-- what is made of each element, beside the element
module _ {A B : Type 0} (Q : A → Type 0) (make : (x : A) → Q x → B) (R : B → A → Type 0) (f : (x : A) (h : Q x) → R (make x h) x) where
  pub pairs_each : (xs : List A) (h : All Q xs) → Pairs R (each Q make xs h) xs
  pairs_each [] h = nothing
  pairs_each (x ∷ xs) h = more (f x h.0) (pairs_each xs h.1)

module _ (P : Protocol) (fit : Within P) where
  abbrev ar : ℕ → Option ℕ
  ar = arities P.functions

  -- the message's term is this one
  abbrev IsTerm : Message ar → Term → Type 0
  IsTerm m t = m.term ≡ t

  abbrev FactTerms : MessageFact ar → Fact → Type 0
  FactTerms f g = LikeFact IsTerm (plain_fact P.functions f) (term_fact g)

  fact_terms : (f : Fact) (h : IsMessages ar f) → FactTerms (message_fact ar f h) f
  fact_terms f h = record { symbol = refl; messages = pairs_each (IsMessage ar) (message ar) IsTerm (λ t d. refl) f.terms h }

  abbrev NodeTerms : List (MessageFact ar) → Node → Type 0
  NodeTerms fs x = Pairs (LikeFact IsTerm) (map (plain_fact P.functions) fs) (map term_fact (facts_of P action_list x))

  node_terms : (x : Node) (h : IsNode P fit x) → NodeTerms (messages_of P fit action_list x h) x
  node_terms x h =
      pairs_map (plain_fact P.functions) term_fact (λ f g q. q)
      (pairs_each (IsMessages ar) (message_fact ar) FactTerms fact_terms (facts_of P action_list x) (facts_messages P fit action_list x h))

  -- the tests agree, by the canonical bytes
  tests_agree : Natural (real_messages P.functions) terms IsTerm
  tests_agree = record {
    tests = λ {a} {b} {c} {d} p q.
        alike (λ s. s) (λ s. s) ((real_messages P.functions).decides a b)
        (reflects_exactly (same_term c d) (subst₂ (λ (t u : Term). (same_term t u ≡ true) ↔ SameMessage ar a b) p q
        (test_exactly P.functions a b)));
    names = λ n. refl;
  }

  module _ (xs : List Node) (within : All (NodeWithin P) xs) (right : All (NodeRight P) xs) where
    nodes_terms : LikeTrace IsTerm (plain_trace P.functions (actions_of_nodes P fit xs within right)) (term_trace P xs)
    nodes_terms =
        pairs_map (map (plain_fact P.functions)) (λ x. map term_fact (facts_of P action_list x)) (λ fs x q. q)
        (pairs_each (IsNode P fit) (messages_of P fit action_list) NodeTerms node_terms xs (all_both (NodeWithin P) (NodeRight P) xs within right))

    -- the judge answers the same over messages
    pub truth_judged :
        (φ : Formula) → judge (real_messages P.functions) (plain_trace P.functions (actions_of_nodes P fit xs within right)) [] φ ≡ truth P xs φ
    unfolding truth
    truth_judged φ = judge_like tests_agree nodes_terms φ nothing

    -- document 01's truth
    pub truth_holds : (φ : Formula) → IsFit [] φ → Reflects (Truth P.functions (actions_of_nodes P fit xs within right) φ) (truth P xs φ)
    truth_holds φ fits =
        subst (Reflects (Truth P.functions (actions_of_nodes P fit xs within right) φ)) (truth_judged φ)
        (truth_decided P.functions (actions_of_nodes P fit xs within right) φ fits)
