-- The arguments at two places, compared; the chain of a place, walked.
use Rattle.std.specs.Prelude.{ℕ, suc, ◌/◌, ◌%◌, ◌<◌, List, Bool, true, ◌↔◌, ◌≡◌, length, get_or}
use Rattle.std.proofs.Math.Path.{ap}
use Rattle.std.specs.Prelude.{Some, None}
use Rattle.std.proofs.lemmas.Option.{none-some, same_Some}
use Rattle.std.proofs.Common.{sym, ◌∙◌, subst, arith}
use Rattle.lists.specs.All.Laws.{all_inside}
use Rattle.lists.specs.Reflects.{reflects_true, reflects_back}
use Rattle.term.specs.Term.{Formed}
use Rattle.message.specs.Canon.{canon}
use Rattle.message.proofs.Theorems.{same_canon, declared}
use Rattle.protocol.specs.Protocol.{Fact, Protocol}
use Rattle.steps.specs.Nodes.{Node, no_node}
use Rattle.steps.specs.Values.Parts.{no_term}
use Rattle.facts.specs.declared.writing.Wanted.TheVariants as want
use Rattle.facts.specs.declared.nodes.FactId.{FactId}
use Rattle.facts.specs.Calls.{fact_at, argument_at, OneOf, FactsIn, TellsTerms}
use Rattle.facts.specs.Calls.Meaning.{fact_formed}
use Rattle.trace.specs.Tables.{ar, stride, place_count}
use Rattle.trace.specs.Entries.{action_id, Listed}
use Rattle.trace.specs.Entries.Laws.{actions_few}
use Rattle.trace.specs.Chains.{here, later}
use Rattle.trace.specs.Chains.Laws.{chain_ends, chain_behind}
use Rattle.trace.specs.Numbers.{ActionOf}
use Rattle.trace.specs.Numbers.Places.{listed_action}
use Rattle.trace.specs.Classes.{key_at, IsPlace, Walkable, Earlier, Walking}

-- ── along a chain ──
module _ {p s nodes entries chains : List ℕ} {head q : ℕ} {P : Protocol} {xs : List Node} (w : Walkable p s nodes entries chains head q P xs) where
  pub walking_first : Walking P xs chains head q head
  walking_first = record { places = w.first; low = w.low; back = λ l i. i; left = λ l i e. i }

  module _ {h : ℕ} (g : Walking P xs chains head q h) where
    pub walking_next :
        (r : ℕ) → h ≡ suc r → (key_at P xs r ≡ key_at P xs q → ⊥) → Walking P xs chains head q (get_or chains r 0)
    walking_next r e n = record {
      places = w.links r;
      low = omega (arith, w.falls r, e, g.low);
      back = λ l i. g.back l (later r e i);
      left = λ l i k. chain_behind (g.left l i k) r e (λ z. n (ap (key_at P xs) (sym z) ∙ k));
    }

    pub walking_found : (r : ℕ) → h ≡ suc r → key_at P xs r ≡ key_at P xs q → Earlier (key_at P xs) chains head q (Some r)
    walking_found r e k = record {
      nowhere = λ z. absurd (none-some r (sym z));
      somewhere = λ i z. let o : r ≡ i = same_Some r i z in (g.back i (here (e ∙ ap suc o)), ap (key_at P xs) (sym o) ∙ k);
    }

    pub walking_ends : h ≡ 0 → Earlier (key_at P xs) chains head q None
    walking_ends z = record {
      nowhere = λ o l i k. chain_ends (g.left l i k) z;
      somewhere = λ r o. absurd (none-some r o);
    }

-- ── two places ──
module _ {p s nodes entries : List ℕ} {P : Protocol} {xs : List Node} (t : Listed p s nodes entries P xs) where
  pub place_small : (q : ℕ) → IsPlace P xs q → (q / stride < length entries) × (q < place_count)
  place_small q i = (omega (arith, i.entry, t.long), omega (arith, i.entry, actions_few t.right))

  module _ (q : ℕ) (i : IsPlace P xs q) (a : FactId) (is : a ≡ action_id (get_or entries (q / stride) 0)) where
    abbrev action : ActionOf p s nodes a (q / stride) P xs
    action = listed_action t (q / stride) i.entry a is

    place_one : OneOf p s nodes a (q % stride) P (get_or xs a.node no_node)
    place_one = record {
      node = action.whole.node;
      right = action.whole.right;
      listed = action.whole.listed;
      has = subst (λ (f : Fact). q % stride < length f.terms) (sym action.is) i.argument;
    }

    place_key : canon (argument_at P a.list a.number (q % stride) (get_or xs a.node no_node)) ≡ key_at P xs q
    unfolding key_at
    place_key = ap (λ (f : Fact). canon (get_or f.terms (q % stride) no_term)) action.is

    place_formed : Formed (ar P) (argument_at P a.list a.number (q % stride) (get_or xs a.node no_node))
    place_formed =
        all_inside (Formed (ar P)) no_term (fact_at P a.list a.number (get_or xs a.node no_node)).terms (fact_formed place_one).each (q % stride)
        place_one.has

  module _ (q r : ℕ) (i : IsPlace P xs q) (j : IsPlace P xs r) (a : FactId) (is : a ≡ action_id (get_or entries (q / stride) 0)) (b : FactId)
      (is' : b ≡ action_id (get_or entries (r / stride) 0)) where
    pub two_places :
        FactsIn p s nodes a (want.One (q % stride)) b (want.One (r % stride)) P (get_or xs a.node no_node) (get_or xs b.node no_node)
    two_places = record { first = place_one q i a is; second = place_one r j b is' }

    pub keys_test :
        (o : Bool)
        → TellsTerms P (argument_at P a.list a.number (q % stride) (get_or xs a.node no_node))
        (argument_at P b.list b.number (r % stride) (get_or xs b.node no_node)) o
        → (o ≡ true) ↔ (key_at P xs r ≡ key_at P xs q)
    keys_test o h =
        let c = same_canon (ar P) (declared P.functions) _ _ (place_formed q i a is) (place_formed r j b is') in (
          λ e. sym (sym (place_key q i a is) ∙ c.0 (reflects_true h e) ∙ place_key r j b is'),
          λ e. reflects_back h (c.1 (place_key q i a is ∙ sym e ∙ sym (place_key r j b is'))),
        )
