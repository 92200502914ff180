-- The meaning does not tell equal messages apart, neither in the trace nor in the valuation. No fitness is asked.
use Rattle.std.specs.Prelude.{◌≡◌, refl, List, ◌++◌, ℕ, zero, suc}
use Rattle.std.proofs.Common.{sym, subst₂, ◌∙◌, inl, inr, ⊎_elim}
use Rattle.std.specs.Prelude.{slice_get}
use Rattle.lists.specs.Pairs.{Pairs, nothing, more, pairs_append, pairs_itself, pairs_turned, pairs_joined, pairs_partner}
use Rattle.steps.specs.Facts.Messages.{or_none}
use Rattle.property.specs.Formula.{Pattern, Term, Atom, equal, before, together, action, Formula}
use Rattle.property.specs.Formula.{absurdity, is, isnt, both, either, exists, every}
use Rattle.property.specs.Meaning.{Messages, Times, Value, message, time, Fact, Trace, actions_at, time_at, term_under, Occurs, AtomHolds, Holds}
use Rattle.property.specs.Meaning.Alike.{LikeValue, messages_like, times_like, LikeValues, LikeFact, LikeTrace, time_like, term_like, terms_like}

module _ (M : Messages) (S : Times) where
  abbrev Values : Type 0
  Values = List (Value M.Msg S.Time)

  -- values, and traces, that differ only by equal messages
  abbrev pub Alike : Values → Values → Type 0
  Alike = LikeValues M.Same ◌≡◌

  abbrev pub AlikeTrace : Trace M.Msg → Trace M.Msg → Type 0
  AlikeTrace = LikeTrace M.Same

  value_turned : (x y : Value M.Msg S.Time) → LikeValue M.Same ◌≡◌ x y → LikeValue M.Same ◌≡◌ y x
  value_turned x y (messages_like h) = messages_like (M.turned h)
  value_turned x y (times_like h) = times_like (sym h)

  value_itself : (x : Value M.Msg S.Time) → LikeValue M.Same ◌≡◌ x x
  value_itself (message a) = messages_like (M.itself a)
  value_itself (time t) = times_like refl

  fact_turned : (x y : Fact M.Msg) → LikeFact M.Same x y → LikeFact M.Same y x
  fact_turned x y h = record { symbol = sym h.symbol; messages = pairs_turned (λ a b p. M.turned p) h.messages }

  node_alike : (k : ℕ) {tr tr' : Trace M.Msg} → AlikeTrace tr tr' → Pairs (LikeFact M.Same) (or_none (slice_get tr k)) (or_none (slice_get tr' k))
  node_alike k nothing = nothing
  node_alike zero (more r p) = r
  node_alike (suc k) (more r p) = node_alike k p

  actions_alike : (k : ℕ) {tr tr' : Trace M.Msg} → AlikeTrace tr tr' → Pairs (LikeFact M.Same) (actions_at tr k) (actions_at tr' k)
  actions_alike zero p = nothing
  actions_alike (suc k) p = node_alike k p

  module _ {v w : Values} (h : Alike v w) where
    time_alike : (x : ℕ) → time_at (S.node 0) v x ≡ time_at (S.node 0) w x
    time_alike = time_like M.Same ◌≡◌ refl h

    term_alike : (t : Term) → M.Same (term_under M v t) (term_under M w t)
    term_alike = term_like M M M.Same ◌≡◌ (λ n. M.itself (M.name n)) h

    occurs_alike : {tr tr' : Trace M.Msg} → AlikeTrace tr tr' → (g : Pattern) (i : ℕ) → Occurs M S tr v g i → Occurs M S tr' w g i
    occurs_alike q g i o =
        let e = o.0 in
        let p = pairs_partner e.fact (actions_alike e.node q) o.1 in
        let terms = terms_like M M M.Same ◌≡◌ (λ n. M.itself (M.name n)) h g.terms in (
          record { node = e.node; fact = p.0 },
          p.1,
          (
            sym (time_alike i) ∙ o.2.0,
            (
              o.2.1.0 ∙ p.2.symbol,
              pairs_joined (λ a b c x y. M.joined x y) (pairs_turned (λ a b x. M.turned x) terms)
                  (pairs_joined (λ a b c x y. M.joined x y) o.2.1.1 p.2.messages),
            ),
          ),
        )

    atom_alike : {tr tr' : Trace M.Msg} → AlikeTrace tr tr' → (a : Atom) → AtomHolds M S tr v a → AtomHolds M S tr' w a
    atom_alike q (equal t u) p = M.joined (M.turned (term_alike t)) (M.joined p (term_alike u))
    atom_alike q (before i j) p = subst₂ S.Before (time_alike i) (time_alike j) p
    atom_alike q (together i j) p = sym (time_alike i) ∙ (p ∙ time_alike j)
    atom_alike q (action g i) p = occurs_alike q g i p

  turned_trace : {tr tr' : Trace M.Msg} → AlikeTrace tr tr' → AlikeTrace tr' tr
  turned_trace = pairs_turned (λ l m p. pairs_turned fact_turned p)

  turned_values : {v w : Values} → Alike v w → Alike w v
  turned_values = pairs_turned value_turned

  wider : {v w : Values} (u : Values) → Alike v w → Alike (v ++ u) (w ++ u)
  wider u h = pairs_append h (pairs_itself value_itself u)

  pub holds_alike :
      (f : Formula) {tr tr' : Trace M.Msg} → AlikeTrace tr tr' → {v w : Values} → Alike v w → Holds M S tr v f → Holds M S tr' w f
  holds_alike absurdity q h x = x
  holds_alike (is a) q h x = atom_alike h q a x
  holds_alike (isnt a) q h x = λ y. x (atom_alike (turned_values h) (turned_trace q) a y)
  holds_alike (both f g) q h x = (holds_alike f q h x.0, holds_alike g q h x.1)
  holds_alike (either f g) q h x = ⊎_elim (λ y. inl (holds_alike f q h y)) (λ y. inr (holds_alike g q h y)) x
  holds_alike (exists s g i f) q h x =
      (x.0, x.1, occurs_alike (wider x.0 h) q g i x.2, holds_alike f q (wider x.0 h) x.3)
  holds_alike (every s g i f) q h x = λ u p.
      ⊎_elim
      (λ n. inl (λ o. n (occurs_alike (wider u (turned_values h)) (turned_trace q) g i o)))
      (λ y. inr (holds_alike f q (wider u h) y))
      (x u p)
