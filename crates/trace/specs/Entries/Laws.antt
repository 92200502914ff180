-- How the entries are filled: action by action, node by node.
use Rattle.std.specs.Prelude.{ℕ, zero, suc, ◌+◌, ◌*◌, ◌/◌, ◌%◌, ◌≤◌, ◌<◌, List, ◌≡◌, refl, length, get_or, set, take}
use Rattle.std.proofs.lemmas.List.{get_or-take}
use Rattle.std.proofs.Math.Seq.{length-take-le}
use Rattle.std.proofs.Common.{ap, sym, ◌∙◌, subst, subst₂, arith, get_or-set_same, get_or-set_other}
use Rattle.lists.specs.Asks.{Promises₃}
use Rattle.lists.specs.Choice.{by_order}
use Rattle.lists.specs.All.Laws.{all_inside, all_map}
use Rattle.lists.specs.Joined.{joined_at, before_inside, before_more, before_most, before_all, joined_few}
use Rattle.protocol.specs.Figures.{action_list, most_facts}
use Rattle.protocol.specs.Protocol.{Protocol, no_fact}
use Rattle.steps.specs.Nodes.{Node, no_node, NodeWithin, most_nodes}
use Rattle.steps.specs.Facts.{facts_of}
use Rattle.steps.specs.Facts.Counts.{facts_few}
use Rattle.steps.specs.Causes.Good.{RightNodes}
use Rattle.steps.specs.Table.{NodeIn}
use Rattle.steps.specs.Table.Laws.{node_in}
use Rattle.facts.specs.Calls.{NodeOf}
use Rattle.trace.specs.Tables.{actions_of, most_actions, actions, actions_in, actions_before, entry_of}
use Rattle.trace.specs.Entries.{ActionIs, EntryIs, Entered, ListedAll, NodeEntered, Begun, Entering, AllEntered}

-- ── of right nodes ──
module _ {p s nodes : List ℕ} {n : ℕ} {P : Protocol} {xs : List Node} (r : RightNodes p s nodes n P xs) where
  right_all : RightNodes p s nodes (length xs) P xs
  right_all = subst (λ (k : ℕ). RightNodes p s nodes k P xs) (sym r.stand.count) r

  node_few : (x : Node) → NodeWithin P x → length (actions P x) ≤ most_facts
  node_few x w = facts_few P r.stand.prepared.body.within x w action_list

  pub actions_of_lem : length (actions_in P xs) ≤ actions_of n
  actions_of_lem =
      let a = joined_few (actions P) most_facts xs (all_map (NodeWithin P) (λ x. length (actions P x) ≤ most_facts) node_few xs r.stand.within) in
      omega (arith, a, r.stand.count)

  pub actions_few : length (actions_in P xs) ≤ most_actions
  actions_few = omega (arith, actions_of_lem, r.stand.few)

  count_few : (k : ℕ) → k < length xs → length (actions P (get_or xs k no_node)) ≤ most_facts
  count_few k l = node_few (get_or xs k no_node) (all_inside (NodeWithin P) no_node xs r.stand.within k l)

  before_few : (k : ℕ) → k ≤ length xs → actions_before P xs k ≤ actions_of k
  before_few zero l = omega arith
  before_few (suc k) l =
      omega (arith, before_few k (omega arith), before_more (actions P) no_node xs k (omega arith), count_few k (omega arith))

-- ── filling ──
code_node : (k i : ℕ) → i < most_facts → (most_facts * k + i) / most_facts ≡ k
code_node k i l = omega arith

code_number : (k i : ℕ) → i < most_facts → (most_facts * k + i) % most_facts ≡ i
code_number k i l = omega arith

pub entry_is :
    (P : Protocol) (xs : List Node) (k i : ℕ) → k < length xs → i < length (actions P (get_or xs k no_node)) → i < most_facts
    → EntryIs P xs (most_facts * k + i) (entry_of P xs k i)
entry_is P xs k i l m b =
    subst₂ (λ (a c : ℕ). ActionIs P xs a c (entry_of P xs k i)) (sym (code_node k i b)) (sym (code_number k i b))
    (record { node = l; listed = m; fact = sym (joined_at (actions P) no_node no_fact xs k i l m) })

module _ {p nodes entries s : List ℕ} {P : Protocol} {xs : List Node} where
  entered_none : RightNodes p s nodes (length xs) P xs → Entered p nodes entries 0 s P xs
  entered_none r = record { right = r; each = λ e l. absurd (omega arith) }

  -- one entry more
  entered_more :
      (m v : ℕ) → Entered p nodes entries m s P xs → m < length entries → EntryIs P xs v m → Entered p nodes (set entries m v) (m + 1) s P xs
  entered_more m v t b hv = record {
    right = t.right;
    each = λ e l.
        by_order e m
        (λ c. subst (λ (w : ℕ). EntryIs P xs w e) (sym (get_or-set_other entries m e v 0 (λ z. omega arith))) (t.each e c))
        (λ c. subst₂ (λ (w i : ℕ). EntryIs P xs w i) (sym (ap (λ (i : ℕ). get_or (set entries m v) i 0) c ∙ get_or-set_same entries m v 0 b)) (sym c) hv)
        (λ c. absurd (omega arith));
  }

-- ── the actions of a node ──
module _ {p nodes entries : List ℕ} {k from : ℕ} {s : List ℕ} {P : Protocol} {xs : List Node} (b : Begun p nodes entries k from s P xs) where
  pub begun_node : NodeIn p s nodes k P (get_or xs k no_node)
  begun_node = node_in b.so_far.entered.right.stand k b.less

  module _ (i : ℕ) (l : i < length (actions P (get_or xs k no_node))) where
    begun_small : from + i < most_actions
    begun_small =
        omega (arith, b.so_far.is, before_inside (actions P) no_node xs k i b.less l, actions_few b.so_far.entered.right)

    number_small : i < most_facts
    number_small = omega (arith, count_few b.so_far.entered.right k b.less)

    -- one action more
    pub begun_more :
        {entries' : List ℕ} → Entered p nodes entries' (from + i) s P xs → from + most_facts ≤ length entries'
        → Entered p nodes (set entries' (from + i) (most_facts * k + i)) (from + (i + 1)) s P xs
    begun_more {entries'} t room =
        let o : from + i ≡ entry_of P xs k i = omega (arith, b.so_far.is) in
        let z : from + i + 1 ≡ from + (i + 1) = omega arith in
        subst (λ (m : ℕ). Entered p nodes (set entries' (from + i) (most_facts * k + i)) m s P xs) z
        (entered_more (from + i) (most_facts * k + i) t (omega (arith, room, number_small))
        (subst (EntryIs P xs (most_facts * k + i)) (sym o) (entry_is P xs k i b.less l number_small)))

  begun_count : (count : ℕ) → count ≡ length (actions P (get_or xs k no_node)) → from + count ≡ actions_before P xs (k + 1)
  begun_count count e =
      let z : suc k ≡ k + 1 = omega arith in
      omega (arith, e, b.so_far.is, before_more (actions P) no_node xs k b.less, ap (actions_before P xs) z)

  pub begun_first : Entered p nodes entries (from + 0) s P xs
  begun_first = let z : from ≡ from + 0 = omega arith in subst (λ (m : ℕ). Entered p nodes entries m s P xs) z b.so_far.entered

  -- by the count that code has
  module _ (count : ℕ) (counted : Promises₃ (NodeOf p nodes k) (λ (t : List ℕ) (Q : Protocol) (x : Node). count ≡ length (facts_of Q action_list x))) where
    count_is : count ≡ length (actions P (get_or xs k no_node))
    count_is = counted s P (get_or xs k no_node) begun_node

    pub inside : (i : ℕ) → i < count → i < length (actions P (get_or xs k no_node))
    inside i l = omega (arith, count_is)

    pub bounds : (i : ℕ) → i < count → (from + i < most_actions) × (k < most_nodes) × (i < most_facts)
    bounds i l = (begun_small i (inside i l), omega (arith, b.less, b.so_far.entered.right.stand.few), number_small i (inside i l))

    pub end_small : from + count ≤ most_actions + most_facts
    end_small = omega (
      arith,
      b.so_far.is,
      before_most (actions P) xs k,
      actions_few b.so_far.entered.right,
      count_is,
      count_few
          b.so_far.entered.right k b.less,
    )

    pub node_entered :
        {entries' : List ℕ} (i : ℕ) → i ≡ count → Entered p nodes entries' (from + i) s P xs → NodeEntered p nodes entries' (k + 1) (from + count) s P xs
    node_entered {entries'} i e t =
        record { entered = subst (λ (j : ℕ). Entered p nodes entries' (from + j) s P xs) e t; is = begun_count count count_is }

-- ── all nodes ──
module _ {p nodes : List ℕ} {n : ℕ} {s : List ℕ} {P : Protocol} {xs : List Node} (r : RightNodes p s nodes n P xs) where
  pub entering_none : {starts entries : List ℕ} → Entering p nodes starts entries 0 0 s P xs
  entering_none = record { so_far = record { entered = entered_none (right_all r); is = refl }; starting = λ j l. absurd (omega arith) }

  module _ {starts entries : List ℕ} {k from : ℕ} (g : Entering p nodes starts entries k from s P xs) where
    pub entering_begun : k < n → Begun p nodes entries k from s P xs
    entering_begun l = record { so_far = g.so_far; less = omega (arith, l, r.stand.count) }

    -- there is room for a node's actions
    pub entering_room : k < n → from + most_facts ≤ actions_of n
    entering_room l = omega (arith, g.so_far.is, before_few r k (omega (arith, l, r.stand.count)), l)

    pub from_small : from ≤ most_actions
    from_small = omega (arith, g.so_far.is, before_most (actions P) xs k, actions_few r)

    starts_more : k < length starts → (j : ℕ) → j < k + 1 → get_or (set starts k from) j 0 ≡ actions_before P xs j
    starts_more h j l =
        by_order j k
        (λ a. get_or-set_other starts k j from 0 (λ z. omega arith) ∙ g.starting j a)
        (λ a. ap (λ (i : ℕ). get_or (set starts k from) i 0) a ∙ get_or-set_same starts k from 0 h ∙ g.so_far.is ∙ sym (ap (actions_before P xs) a))
        (λ a. absurd (omega arith))

    pub entering_more :
        {entries' : List ℕ} {e : ℕ} → k < length starts → NodeEntered p nodes entries' (k + 1) e s P xs
        → Entering p nodes (set starts k from) entries' (k + 1) e s P xs
    entering_more h t = record { so_far = t; starting = starts_more h }

    pub entering_all : k ≡ n → n < length starts → AllEntered p nodes (set starts n from) entries from s P xs
    entering_all e h =
        let z : k ≡ length xs = omega (arith, r.stand.count) in
        subst (λ (j : ℕ). AllEntered p nodes (set starts j from) entries from s P xs) e (record {
          begun = record { begins = λ j l. starts_more (omega arith) j (omega arith) };
          entered = g.so_far.entered;
          all = g.so_far.is ∙ ap (actions_before P xs) z ∙ before_all (actions P) xs;
        })

-- ── the listed ones ──
pub total_few : {p s nodes entries : List ℕ} {total : ℕ} {P : Protocol} {xs : List Node} → ListedAll p s nodes entries total P xs → total ≤ most_actions
total_few a = omega (arith, a.count, actions_few a.listed.right)

module _ {p nodes starts entries : List ℕ} {total n : ℕ} {s : List ℕ} {P : Protocol} {xs : List Node} (r : RightNodes p s nodes n P xs)
    (a : AllEntered p nodes starts entries total s P xs) where
  pub total_of : total ≤ actions_of n
  total_of = omega (arith, a.all, actions_of_lem r)

  pub taken : actions_of n ≤ length entries → length (take total entries) ≡ total
  taken room = length-take-le total entries (omega (arith, total_of, room))

  -- they are the first ones
  pub all_listed : actions_of n ≤ length entries → ListedAll p s nodes (take total entries) (length (take total entries)) P xs
  all_listed room =
      let z : length (take total entries) ≡ total = taken room in
      record {
        listed = record {
          right = a.entered.right;
          long = omega (arith, z, a.all);
          each = λ e l.
              subst (λ (v : ℕ). EntryIs P xs v e) (sym (get_or-take total entries e 0 (omega (arith, l, a.all)))) (a.entered.each e (omega (arith, l, a.all)));
        };
        count = z ∙ a.all;
      }
