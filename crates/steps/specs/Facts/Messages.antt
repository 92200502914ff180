-- The facts of a node as messages of crate message's promise, by number and without bytes, so that who speaks of a trace uses that promise
-- alone.
use Rattle.std.specs.Prelude.{ℕ, zero, suc, List, [], ◌∷◌, map, true, ◌↔◌, ◌≡◌, refl}
use Rattle.std.specs.Prelude.{Option, Some, None}
use Rattle.std.proofs.Common.{ap, ap₂}
use Rattle.std.specs.Prelude.{slice_get}
use Rattle.lists.specs.Lists.{nth}
use Rattle.lists.specs.All.{All}
use Rattle.lists.specs.All.Laws.{all_map, all_both}
use Rattle.term.specs.Term.{Term, Formed}
use Rattle.term.specs.Arity.{arity, tag_arities}
use Rattle.message.specs.Substitution.{Ground}
use Rattle.message.specs.Promise.{Message, SameMessage, SameMessages}
use Rattle.message.proofs.Theorems.{declared}
use Rattle.protocol.specs.Figures.{action_list}
use Rattle.protocol.specs.Protocol.{Fact, Protocol, fact_of}
use Rattle.protocol.specs.Protocol.Limits.{Within}
use Rattle.steps.specs.Nodes.{Node, NodeWithin}
use Rattle.steps.specs.Values.{NodeRight}
use Rattle.steps.specs.Facts.{facts_of, actions_of, trace, same_term, Sames, SameFact}
use Rattle.steps.specs.Facts.Laws.{term_decides}
use Rattle.steps.specs.Facts.Formed.{FactFormed, facts_formed, node_ground, facts_ground}

-- ── what is made of each element and what holds of it ──
module _ {A B : Type 0} (P : A → Type 0) (make : (x : A) → P x → B) where
  abbrev pub each : (xs : List A) → All P xs → List B
  each [] h = []
  each (x ∷ xs) h = make x h.0 ∷ each xs h.1

  pub each_back : (back : B → A) → ((x : A) (h : P x) → back (make x h) ≡ x) → (xs : List A) (h : All P xs) → map back (each xs h) ≡ xs
  each_back back e [] h = refl
  each_back back e (x ∷ xs) h = ap₂ ◌∷◌ (e x h.0) (each_back back e xs h.1)

-- ── facts of messages ──
pub record MessageFact (ar : ℕ → Option ℕ) : Type 0 where
  pub symbol : ℕ
  pub messages : List (Message ar)

module _ (ar : ℕ → Option ℕ) where
  -- "equal facts count as the same fact": the same symbol, and equal messages one by one
  pub record SameMessageFact (f g : MessageFact ar) : Type 0 where
    pub symbols : f.symbol ≡ g.symbol
    pub messages : SameMessages ar f.messages g.messages

  -- its terms
  abbrev pub term_fact : MessageFact ar → Fact
  term_fact f = fact_of f.symbol (map (λ m. m.term) f.messages)

  -- a term, and a fact of terms, that are messages
  abbrev pub IsMessage : Term → Type 0
  IsMessage t = Formed ar t × Ground t

  abbrev pub IsMessages : Fact → Type 0
  IsMessages f = All IsMessage f.terms

  abbrev pub message : (t : Term) → IsMessage t → Message ar
  message t h = record { term = t; formed = h.0; is_ground = h.1 }

  abbrev pub message_fact : (f : Fact) → IsMessages f → MessageFact ar
  message_fact f h = record { symbol = f.symbol; messages = each IsMessage message f.terms h }

  -- ── they are the same just where their terms are the same facts ──
  terms_messages : (ms ns : List (Message ar)) → Sames ar (map (λ m. m.term) ms) (map (λ m. m.term) ns) → SameMessages ar ms ns
  terms_messages [] [] s = tt
  terms_messages [] (n ∷ ns) s = absurd s
  terms_messages (m ∷ ms) [] s = absurd s
  terms_messages (m ∷ ms) (n ∷ ns) s = (s.0, terms_messages ms ns s.1)

  messages_terms : (ms ns : List (Message ar)) → SameMessages ar ms ns → Sames ar (map (λ m. m.term) ms) (map (λ m. m.term) ns)
  messages_terms [] [] s = tt
  messages_terms [] (n ∷ ns) s = absurd s
  messages_terms (m ∷ ms) [] s = absurd s
  messages_terms (m ∷ ms) (n ∷ ns) s = (s.0, messages_terms ms ns s.1)

  pub same_exactly : (f g : MessageFact ar) → SameFact ar (term_fact f) (term_fact g) ↔ SameMessageFact f g
  same_exactly f g = (
    λ s. record { symbols = s.symbols; messages = terms_messages f.messages g.messages s.terms },
    λ s. record { symbols = s.symbols; terms = messages_terms f.messages g.messages s.messages },
  )

  pub message_terms : (f : Fact) (h : IsMessages f) → term_fact (message_fact f h) ≡ f
  message_terms f h = ap (fact_of f.symbol) (each_back IsMessage message (λ m. m.term) (λ t d. refl) f.terms h)

-- the test of terms decides whether two messages are the same
pub test_exactly :
    (free : List ℕ) (m n : Message (arity (tag_arities free))) → (same_term m.term n.term ≡ true) ↔ SameMessage (arity (tag_arities free)) m n
test_exactly free m n = term_decides (arity (tag_arities free)) (declared free) m.term n.term m.formed n.formed

abbrev pub or_none : {A : Type 0} → Option (List A) → List A
or_none None = []
or_none (Some fs) = fs

-- ── the facts of nodes within the limits of which 7 and 8 are absent ──
module _ (p : Protocol) (fit : Within p) where
  abbrev ar : ℕ → Option ℕ
  ar = arity (tag_arities p.functions)

  abbrev pub IsNode : Node → Type 0
  IsNode x = NodeWithin p x × NodeRight p x

  pub facts_messages : (list : ℕ) (x : Node) → IsNode x → All (IsMessages ar) (facts_of p list x)
  facts_messages list x h =
      all_map (λ f. FactFormed p f × All Ground f.terms) (IsMessages ar) (λ f d. all_both (Formed ar) Ground f.terms d.0.each d.1)
      (facts_of p list x)
      (all_both (FactFormed p) (λ f. All Ground f.terms) (facts_of p list x) (facts_formed p fit x h.0 list)
      (facts_ground p fit x h.0 (node_ground p x h.0 h.1) list))

  -- a list of a node's facts
  abbrev pub messages_of : (list : ℕ) (x : Node) → IsNode x → List (MessageFact ar)
  messages_of list x h = each (IsMessages ar) (message_fact ar) (facts_of p list x) (facts_messages list x h)

  pub node_terms : (list : ℕ) (x : Node) (h : IsNode x) → map (term_fact ar) (messages_of list x h) ≡ facts_of p list x
  node_terms list x h = each_back (IsMessages ar) (message_fact ar) (term_fact ar) (message_terms ar) (facts_of p list x) (facts_messages list x h)

  -- "The trace gives each node number, from 1, the actions of that node, perhaps none ..; other numbers have none."
  module _ (xs : List Node) (within : All (NodeWithin p) xs) (right : All (NodeRight p) xs) where
    abbrev pub message_trace : ℕ → List (MessageFact ar)
    message_trace k = or_none (nth (each IsNode (messages_of action_list) xs (all_both (NodeWithin p) (NodeRight p) xs within right)) k)

    pub trace_terms : (k : ℕ) → map (term_fact ar) (message_trace k) ≡ trace p xs k
    trace_terms zero = refl
    trace_terms (suc k) = go xs (all_both (NodeWithin p) (NodeRight p) xs within right) k
      where
        go :
            (xs : List Node) (h : All IsNode xs) (i : ℕ)
            → map (term_fact ar) (or_none (slice_get (each IsNode (messages_of action_list) xs h) i)) ≡ actions_of p (slice_get xs i)
        go [] h i = refl
        go (x ∷ xs) h zero = node_terms action_list x h.0
        go (x ∷ xs) h (suc i) = go xs h.1 i
