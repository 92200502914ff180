-- The tables that the code makes are those of the trace.
use Rattle.std.specs.Prelude.{ℕ, ◌*◌, ◌/◌, ◌%◌, ◌≤◌, ◌<◌, List, ◌↔◌, ◌≡◌, length, get_or}
use Rattle.std.proofs.Common.{ap, ◌∙◌, arith}
use Rattle.std.proofs.Math.Path.{ap₂, sym}
use Rattle.lists.specs.All.Laws.{all_inside}
use Rattle.lists.specs.Joined.{joined_at, before_inside, before_most}
use Rattle.message.specs.Promise.{Message, SameMessage, public_name}
use Rattle.message.specs.Canon.{canon}
use Rattle.message.proofs.Theorems.{same_canon, declared}
use Rattle.protocol.specs.Figures.{action_list, most_fact_arity}
use Rattle.protocol.specs.Protocol.{Fact, Protocol, no_fact}
use Rattle.steps.specs.Causes.Good.{RightNodes}
use Rattle.steps.specs.Nodes.{Node, no_node, NodeWithin}
use Rattle.steps.specs.Facts.Formed.{FactFormed, facts_formed}
use Rattle.steps.specs.Values.Parts.{no_term}
use Rattle.facts.specs.Calls.{fact_at}
use Rattle.facts.specs.Writing.Nodes.{arities_few}
use Rattle.trace.specs.Tables.{actions_of, Starts, ar, stride, actions, actions_in, entry_of, place_of, ArgumentIs, Tables}
use Rattle.trace.specs.Entries.{AllEntered, SymbolsTo}
use Rattle.trace.specs.Entries.Laws.{actions_of_lem}
use Rattle.trace.specs.Classes.{ClassesAre, action_at, key_at, IsPlace}

-- ── the place of an argument ──
module _ {p s nodes : List ℕ} {P : Protocol} {xs : List Node} (r : RightNodes p s nodes (length xs) P xs) where
  pub action_formed : (k i : ℕ) → k < length xs → i < length (actions P (get_or xs k no_node)) → FactFormed P (fact_at P action_list i (get_or xs k no_node))
  action_formed k i l m =
      all_inside (FactFormed P) no_fact (actions P (get_or xs k no_node))
      (facts_formed P r.stand.prepared.body.within (get_or xs k no_node) (all_inside (NodeWithin P) no_node xs r.stand.within k l) action_list) i m

  pub arguments_few :
      (k i : ℕ) → k < length xs → i < length (actions P (get_or xs k no_node)) → length (fact_at P action_list i (get_or xs k no_node)).terms ≤ most_fact_arity
  arguments_few k i l m =
      omega (
        arith,
        (action_formed k i l m).takes,
        arities_few P.symbols r.stand.prepared.body.within.symbols
            (fact_at P action_list i (get_or xs k no_node)).symbol,
      )

  module _ {k i j : ℕ} {m : Message (ar P)} (a : ArgumentIs P xs k i j m) where
    narrow : j < stride
    narrow = omega (arith, a.argument, arguments_few k i a.node a.action)

    entry_is : place_of P xs k i j / stride ≡ entry_of P xs k i
    entry_is = omega (arith, narrow)

    number_is : place_of P xs k i j % stride ≡ j
    number_is = omega (arith, narrow)

    action_is : action_at P xs (place_of P xs k i j) ≡ fact_at P action_list i (get_or xs k no_node)
    action_is = ap (λ (e : ℕ). get_or (actions_in P xs) e no_fact) entry_is ∙ joined_at (actions P) no_node no_fact xs k i a.node a.action

    argument_place : IsPlace P xs (place_of P xs k i j)
    argument_place = record {
      entry = omega (arith, entry_is, before_inside (actions P) no_node xs k i a.node a.action);
      argument = omega (arith, number_is, ap (λ (f : Fact). length f.terms) action_is, a.argument);
    }

    argument_key : key_at P xs (place_of P xs k i j) ≡ canon m.term
    unfolding key_at
    argument_key =
        ap₂ (λ (f : Fact) (n : ℕ). canon (get_or f.terms n no_term)) action_is number_is ∙ sym (ap canon a.is)

    argument_inside : place_of P xs k i j < stride * length (actions_in P xs)
    argument_inside = omega (arith, narrow, before_inside (actions P) no_node xs k i a.node a.action)

-- ── the tables ──
module _ {p s nodes starts symbols entries classes : List ℕ} {total : ℕ} {P : Protocol} {xs : List Node}
    (e : AllEntered p nodes starts entries total s P xs) (y : SymbolsTo symbols total P xs) (c : ClassesAre classes (stride * total) P xs) where
  right : RightNodes p s nodes (length xs) P xs
  right = e.entered.right

  within : (n : ℕ) → n < stride * length (actions_in P xs) → n < stride * total
  within n l = omega (arith, e.all, l)

  same_exact : (m m' : Message (ar P)) → (canon m.term ≡ canon m'.term) ↔ SameMessage (ar P) m m'
  same_exact m m' = let d = same_canon (ar P) (declared P.functions) m.term m'.term m.formed m'.formed in (d.1, d.0)

  pub tables_made : Tables starts symbols classes P xs
  tables_made = record {
    begun = e.begun;
    symbol = λ k i l m.
        y.each (entry_of P xs k i) (omega (arith, e.all, before_inside (actions P) no_node xs k i l m))
        ∙ ap (λ (f : Fact). f.symbol) (joined_at (actions P) no_node no_fact xs k i l m);
    same = λ {k} {i} {j} {k'} {i'} {j'} {m} {m'} a b.
        let w = c.same (place_of P xs k i j) (place_of P xs k' i' j') (within _ (argument_inside right a)) (within _ (argument_inside right b))
        (argument_place right a) (argument_place right b) in
        let d = same_exact m m' in (
          λ h. d.0 (sym (argument_key right a) ∙ w.0 h ∙ argument_key right b),
          λ h. w.1 (argument_key right a ∙ d.1 h ∙ sym (argument_key right b)),
        );
    named = λ {k} {i} {j} {m} a n.
        let w = c.named (place_of P xs k i j) n (within _ (argument_inside right a)) (argument_place right a) in
        let d = same_exact m (public_name (ar P) n) in (
          λ h. d.0 (sym (argument_key right a) ∙ w.0 h),
          λ h. w.1 (argument_key right a ∙ d.1 h),
        );
  }

-- ── what callers may ask: the entries of all nodes lie within the tables ──
pub starts_few :
    {p s nodes starts : List ℕ} {n : ℕ} {P : Protocol} {xs : List Node} → RightNodes p s nodes n P xs → Starts starts P xs → (k : ℕ) → k ≤ n
    → get_or starts k 0 ≤ actions_of n
starts_few {P = P} {xs} r b k l = omega (arith, b.begins k (omega (arith, r.stand.count)), before_most (actions P) xs k, actions_of_lem r)
