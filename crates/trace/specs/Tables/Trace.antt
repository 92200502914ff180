-- The trace that is read off the tables: node by node, fact by fact and argument by argument it is the trace of messages in numbers, and the
-- numbers tell which messages are the same and which are public names. Of messages only their promise is used.
use Rattle.std.specs.Prelude.{ℕ, suc, ◌+◌, ◌*◌, ◌-◌, ◌<◌, List, [], ◌∷◌, ◌↔◌, ◌≡◌, refl, length, get_or, eqb}
use Rattle.std.proofs.Common.{ap, sym, ◌∙◌, subst, arith, eqb-true}
use Rattle.std.proofs.lemmas.Bool.{eqb-false}
use Rattle.lists.specs.Pairs.{Pairs, nothing, more}
use Rattle.lists.specs.All.{All}
use Rattle.lists.specs.All.Laws.{all_both}
use Rattle.lists.specs.Lists.{nth, row}
use Rattle.lists.specs.Tests.{by_bool, not_true}
use Rattle.lists.specs.Joined.{before_more}
use Rattle.message.specs.Promise.{Message, SameMessage, public_name, Promise}
use Rattle.message.proofs.Promise.{messages}
use Rattle.protocol.specs.Figures.{action_list}
use Rattle.protocol.specs.Protocol.{Fact, Protocol, no_fact, fact_arities}
use Rattle.steps.specs.Nodes.{Node, no_node, NodeWithin}
use Rattle.steps.specs.Table.Laws.{node_in}
use Rattle.steps.specs.Values.{NodeRight}
use Rattle.steps.specs.Values.Parts.{no_term}
use Rattle.steps.specs.Facts.Messages.{each, MessageFact, IsMessage, message, IsMessages, message_fact, IsNode, facts_messages, messages_of, message_trace, or_none}
use Rattle.steps.specs.Causes.Good.{RightNodes}
use Rattle.facts.specs.Calls.{fact_at}
use Rattle.facts.specs.Calls.Laws.{listed_formed}
use Rattle.trace.specs.Tables.{base, ar, stride, actions, actions_before, ArgumentIs, entry_of, place_of, Tables}

-- ── the trace in numbers, as it is read off the tables ──
pub record NumberFact : Type 0 where
  pub symbol : ℕ
  pub numbers : List ℕ

module _ (arities starts symbols classes : List ℕ) where
  -- entry e
  abbrev pub number_fact : ℕ → NumberFact
  number_fact e = record { symbol = get_or symbols e 0; numbers = row (λ j. get_or classes (stride * e + j) 0) (get_or arities (get_or symbols e 0) 0) }

  -- node k, from 0: its entries end where those of the next begin
  abbrev pub number_node : ℕ → List NumberFact
  number_node k = row (λ i. number_fact (get_or starts k 0 + i)) (get_or starts (k + 1) 0 - get_or starts k 0)

  -- n nodes
  abbrev pub number_trace : ℕ → List (List NumberFact)
  number_trace n = row number_node n

-- ── two lists, element by element ──
module _ {A B C : Type 0} (Q : A → Type 0) (make : (x : A) → Q x → B) (R : B → C → Type 0) (d : A) where
  pairs_row :
      (xs : List A) (h : All Q xs) (m : ℕ → C) → ((i : ℕ) (x : A) (g : Q x) → i < length xs → get_or xs i d ≡ x → R (make x g) (m i))
      → Pairs R (each Q make xs h) (row m (length xs))
  pairs_row [] h m f = nothing
  pairs_row (x ∷ xs) h m f =
      more (f 0 x h.0 (omega arith) refl) (pairs_row xs h.1 (λ j. m (suc j)) (λ i y g l e. f (suc i) y g (omega arith) e))

-- ── the numbers of messages ──
module _ (classes : List ℕ) (P : Protocol) (xs : List Node) where
  -- that of an argument, or that of a public name
  pub data Numbered (m : Message (ar P)) (c : ℕ) : Type 0 where
    of_argument : (k i j : ℕ) → ArgumentIs P xs k i j m → c ≡ get_or classes (place_of P xs k i j) 0 → Numbered m c
    of_name : (n : ℕ) → SameMessage (ar P) m (public_name (ar P) n) → c ≡ base + n → Numbered m c

  -- a fact: the same symbol, its messages one by one
  pub record LikeFact (f : MessageFact (ar P)) (g : NumberFact) : Type 0 where
    pub symbols : f.symbol ≡ g.symbol
    pub messages_like : Pairs Numbered f.messages g.numbers

module _ {starts symbols classes : List ℕ} {P : Protocol} {xs : List Node} (t : Tables starts symbols classes P xs) where
  abbrev promise : Promise (ar P)
  promise = messages P.functions

  pub name_numbered : (n : ℕ) → Numbered classes P xs (public_name (ar P) n) (base + n)
  name_numbered n = of_name n (promise.is_reflexive (public_name (ar P) n)) refl

  -- a message with a number, and a public name
  pub numbered_name : {m : Message (ar P)} {c : ℕ} → Numbered classes P xs m c → (n : ℕ) → (c ≡ base + n) ↔ SameMessage (ar P) m (public_name (ar P) n)
  numbered_name (of_argument k i j a h) n = let w = t.named a n in ((λ e. w.0 (sym h ∙ e)), (λ s. h ∙ w.1 s))
  numbered_name {m} (of_name l o h) n = (
    λ e. let z : l ≡ n = omega (arith, h, e) in subst (λ (i : ℕ). SameMessage (ar P) m (public_name (ar P) i)) z o,
    λ s.
        let z : l ≡ n =
        promise.public_apart l n (promise.is_transitive (public_name (ar P) l) m (public_name (ar P) n) (promise.is_symmetric m (public_name (ar P) l) o) s) in
        h ∙ ap (λ (i : ℕ). base + i) z,
  )

  -- equal numbers exactly when the messages are the same
  pub numbered_exact : {m m' : Message (ar P)} {c d : ℕ} → Numbered classes P xs m c → Numbered classes P xs m' d → (c ≡ d) ↔ SameMessage (ar P) m m'
  numbered_exact (of_argument k i j a h) (of_argument k' i' j' b g) =
      let w = t.same a b in ((λ e. w.0 (sym h ∙ e ∙ g)), (λ s. h ∙ w.1 s ∙ sym g))
  numbered_exact {m} {m'} (of_argument k i j a h) (of_name n o g) =
      let w = numbered_name (of_argument k i j a h) n in (
        λ e. promise.is_transitive m (public_name (ar P) n) m' (w.0 (e ∙ g)) (promise.is_symmetric m' (public_name (ar P) n) o),
        λ s. w.1 (promise.is_transitive m m' (public_name (ar P) n) s o) ∙ sym g,
      )
  numbered_exact {m} {m'} (of_name n o h) v =
      let w = numbered_name v n in (
        λ e. promise.is_transitive m (public_name (ar P) n) m' o (promise.is_symmetric m' (public_name (ar P) n) (w.0 (sym e ∙ h))),
        λ s. h ∙ sym (w.1 (promise.is_transitive m' m (public_name (ar P) n) (promise.is_symmetric m m' s) o)),
      )

  -- by the tests
  pub numbered_test :
      {m m' : Message (ar P)} {c d : ℕ} → Numbered classes P xs m c → Numbered classes P xs m' d → (messages P.functions).same m m' ≡ eqb c d
  numbered_test {m} {m'} {c} {d} v w =
      let e = numbered_exact v w in
      let s = promise.decides m m' in
      by_bool (eqb c d)
      (λ h. s.1 (e.0 (eqb-true c d h)) ∙ sym h)
      (λ h. not_true (promise.same m m') (λ g. eqb-false c d h (e.1 (s.0 g))) ∙ sym h)

  -- ── the trace ──
  module _ {p s nodes : List ℕ} {n : ℕ} (r : RightNodes p s nodes n P xs) where
    abbrev arities : List ℕ
    arities = fact_arities P.symbols

    module _ (k : ℕ) (l : k < length xs) where
      abbrev x : Node
      x = get_or xs k no_node

      count_is : get_or starts (k + 1) 0 - get_or starts k 0 ≡ length (actions P x)
      count_is =
          let z : k + 1 ≡ suc k = omega arith in
          omega (
            arith,
            t.begun.begins (k + 1) (omega arith),
            t.begun.begins k (omega arith),
            ap (actions_before P xs) z,
            before_more (actions P) no_node xs k l,
          )

      module _ (i : ℕ) (m : i < length (actions P x)) where
        abbrev e : ℕ
        e = get_or starts k 0 + i

        entry_is : e ≡ entry_of P xs k i
        entry_is = omega (arith, t.begun.begins k (omega arith))

        symbol_is : get_or symbols e 0 ≡ (fact_at P action_list i x).symbol
        symbol_is = ap (λ (q : ℕ). get_or symbols q 0) entry_is ∙ t.symbol k i l m

        many : length (fact_at P action_list i x).terms ≡ get_or arities (get_or symbols e 0) 0
        many =
            (listed_formed {a = record { node = k; list = action_list; number = i }}
            (record { node = node_in r.stand k (omega (arith, r.stand.count)); listed = m })).takes
            ∙ ap (λ (y : ℕ). get_or arities y 0) (sym symbol_is)

        -- the same symbol, as many arguments, and each argument's number is that of its message
        pub fact_like :
            (h : IsMessages (ar P) (fact_at P action_list i x))
            → LikeFact classes P xs (message_fact (ar P) (fact_at P action_list i x) h) (number_fact arities starts symbols classes e)
        fact_like h = record {
          symbols = sym symbol_is;
          messages_like =
              subst (λ (c : ℕ). Pairs (Numbered classes P xs) (each (IsMessage (ar P)) (message (ar P)) (fact_at P action_list i x).terms h)
              (row (λ j. get_or classes (stride * e + j) 0) c)) many
              (pairs_row (IsMessage (ar P)) (message (ar P)) (Numbered classes P xs) no_term (fact_at P action_list i x).terms h
              (λ j. get_or classes (stride * e + j) 0) (λ j u g b q.
              of_argument k i j (record { node = l; action = m; argument = b; is = sym q })
              (ap (λ (f : ℕ). get_or classes (stride * f + j) 0) entry_is)));
        }

      pub node_like :
          (h : IsNode P r.stand.prepared.body.within x)
          → Pairs (LikeFact classes P xs) (messages_of P r.stand.prepared.body.within action_list x h) (number_node arities starts symbols classes k)
      node_like h =
          subst (λ (c : ℕ). Pairs (LikeFact classes P xs) (messages_of P r.stand.prepared.body.within action_list x h)
          (row (λ i. number_fact arities starts symbols classes (get_or starts k 0 + i)) c)) (sym count_is)
          (pairs_row (IsMessages (ar P)) (message_fact (ar P)) (LikeFact classes P xs) no_fact (actions P x)
          (facts_messages P r.stand.prepared.body.within action_list x h) (λ i. number_fact arities starts symbols classes (get_or starts k 0 + i))
          (λ i f g b q.
          subst (λ (y : Fact). (v : IsMessages (ar P) y) → LikeFact classes P xs (message_fact (ar P) y v) (number_fact arities starts symbols classes
          (get_or starts k 0 + i))) q (fact_like i b) g))

    -- the nodes' actions as messages
    abbrev pub message_nodes : List (List (MessageFact (ar P)))
    message_nodes =
        each (IsNode P r.stand.prepared.body.within) (messages_of P r.stand.prepared.body.within action_list) xs
        (all_both (NodeWithin P) (NodeRight P) xs r.stand.within r.right)

    pub nodes_traced :
        (k : ℕ) → message_trace P r.stand.prepared.body.within xs r.stand.within r.right k ≡ or_none (nth message_nodes k)
    nodes_traced k = refl

    pub trace_numbered : Pairs (Pairs (LikeFact classes P xs)) message_nodes (number_trace arities starts symbols classes n)
    trace_numbered =
        subst (λ (c : ℕ). Pairs (Pairs (LikeFact classes P xs)) message_nodes (number_trace arities starts symbols classes c)) r.stand.count
        (pairs_row (IsNode P r.stand.prepared.body.within) (messages_of P r.stand.prepared.body.within action_list) (Pairs (LikeFact classes P xs))
        no_node xs (all_both (NodeWithin P) (NodeRight P) xs r.stand.within r.right) (number_node arities starts symbols classes)
        (λ k y g b q.
        subst (λ (z : Node). (v : IsNode P r.stand.prepared.body.within z) → Pairs (LikeFact classes P xs)
        (messages_of P r.stand.prepared.body.within action_list z v) (number_node arities starts symbols classes k)) q (node_like k b) g))
