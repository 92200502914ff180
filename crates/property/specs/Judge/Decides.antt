-- The judge decides what a fit property means, whatever the times are.
use Rattle.std.specs.Prelude.{◌≡◌, refl, Bool, true, false, ◌&&◌, ◌||◌, ◌⊎◌, List, [], ◌∷◌, ◌++◌, map, ℕ, zero, suc, ◌+◌, length, drop, eqb, ltb}
use Rattle.std.proofs.Common.{sym, ap, subst, subst₂, ◌∙◌, inl, inr, ⊎_elim, arith, length-append}
use Rattle.std.proofs.lemmas.Bool.{false≢true}
use Rattle.std.proofs.Math.Seq.{drop-append_seam}
use Rattle.lists.specs.Lists.{any_by}
use Rattle.lists.specs.Tests.{and_split}
use Rattle.lists.specs.Reflects.{Reflects, right, wrong, reflects_true, transfer, reflects_iff, reflects_dec, reflects_not}
use Rattle.lists.specs.Reflects.{reflects_and, reflects_or, reflects_eq, reflects_lt}
use Rattle.lists.specs.Pairs.{Pairs, nothing, more, pairs_head, pairs_tail, pairs_append, pairs_length, pairs_turned, pairs_joined}
use Rattle.property.specs.Formula.{Sort, msg, tmp, Term, var, public, Pattern, Atom, equal, before, together, action, Formula}
use Rattle.property.specs.Formula.{absurdity, is, isnt, both, either, exists, every}
use Rattle.property.specs.Fit.{is_var, guarded, fit, pattern_fits}
use Rattle.property.specs.Meaning.{Messages, Times, Value, message, time, Entry, Trace, message_at, time_at, sorts_of, term_under}
use Rattle.property.specs.Meaning.{IsEntry, Matches, Occurs, AtomHolds, Holds}
use Rattle.property.specs.Meaning.Alike.{messages_like, times_like, LikeValues, time_like, term_like, terms_like}
use Rattle.property.specs.Judge.{Bindings, same_all, matches, first, found, extended, test, judge}
use Rattle.property.specs.Judge.Entries.{some_entry, each_entry}

module _ (M : Messages) where
  -- equal messages one by one
  same_all_decides : (l m : List M.Msg) → Reflects (Pairs M.Same l m) (same_all M l m)
  same_all_decides [] [] = right nothing
  same_all_decides [] (b ∷ m) = wrong (λ p. omega (arith, pairs_length p))
  same_all_decides (a ∷ l) [] = wrong (λ p. omega (arith, pairs_length p))
  same_all_decides (a ∷ l) (b ∷ m) =
      reflects_iff (λ h. more h.0 h.1) (λ p. (pairs_head p, pairs_tail p)) (reflects_and (M.decides a b) (same_all_decides l m))

  module _ (S : Times) where
    abbrev Values : Type 0
    Values = List (Value M.Msg S.Time)

    -- the judge's bindings and a valuation agree: equal messages, and the times of the nodes
    abbrev AtNode : ℕ → S.Time → Type 0
    AtNode k t = t ≡ S.node k

    abbrev Agree : Bindings M → Values → Type 0
    Agree = LikeValues M.Same AtNode

    module _ {b : Bindings M} {v : Values} (h : Agree b v) where
      agree_time : (x : ℕ) → time_at (S.node 0) v x ≡ S.node (time_at 0 b x)
      agree_time = time_like M.Same AtNode refl h

      agree_term : (t : Term) → M.Same (term_under M b t) (term_under M v t)
      agree_term = term_like M M M.Same AtNode (λ n. M.itself (M.name n)) h

      agree_terms : (ts : List Term) → Pairs M.Same (map (term_under M b) ts) (map (term_under M v) ts)
      agree_terms = terms_like M M M.Same AtNode (λ n. M.itself (M.name n)) h

      same_time : (i j : ℕ) → Reflects (time_at (S.node 0) v i ≡ S.node j) (eqb (time_at 0 b i) j)
      same_time i j =
          reflects_iff (λ p. agree_time i ∙ ap S.node p) (λ p. S.apart (sym (agree_time i) ∙ p)) (reflects_eq (time_at 0 b i) j)

      matches_decides : (tr : Trace M.Msg) (g : Pattern) (i : ℕ) (e : Entry M.Msg) → Reflects (Matches M S tr v g i e) (matches M b g i e)
      matches_decides tr g i e = reflects_and (same_time i e.node) (reflects_and (reflects_eq g.symbol e.fact.symbol) lists)
        where
          lists : Reflects (Pairs M.Same (map (term_under M v) g.terms) e.fact.messages)
              (same_all M (map (term_under M b) g.terms) e.fact.messages)
          lists =
              reflects_iff
              (pairs_joined (λ x y z p q. M.joined p q) (pairs_turned (λ x y p. M.turned p) (agree_terms g.terms)))
              (pairs_joined (λ x y z p q. M.joined p q) (agree_terms g.terms))
              (same_all_decides (map (term_under M b) g.terms) e.fact.messages)

      test_decides : (tr : Trace M.Msg) (a : Atom) → Reflects (AtomHolds M S tr v a) (test M tr b a)
      test_decides tr (equal t u) =
          reflects_iff
          (λ p. M.joined (M.turned (agree_term t)) (M.joined p (agree_term u)))
          (λ p. M.joined (agree_term t) (M.joined p (M.turned (agree_term u))))
          (M.decides (term_under M b t) (term_under M b u))
      test_decides tr (before i j) =
          subst₂ (λ (x y : S.Time). Reflects (S.Before x y) (ltb (time_at 0 b i) (time_at 0 b j)))
          (sym (agree_time i)) (sym (agree_time j))
          (reflects_iff S.earlier S.earlier_back (reflects_lt (time_at 0 b i) (time_at 0 b j)))
      test_decides tr (together i j) =
          reflects_iff (λ p. p ∙ sym (agree_time j)) (λ p. p ∙ agree_time j) (same_time i (time_at 0 b j))
      test_decides tr (action g i) = some_entry tr (matches_decides tr g i)

    -- the guard at any valuation
    occurs_decides : (tr : Trace M.Msg) (v : Values) (g : Pattern) (i : ℕ) → Occurs M S tr v g i ⊎ (¬ Occurs M S tr v g i)
    occurs_decides tr v g i =
        reflects_dec
        (some_entry tr (λ e.
        reflects_and (S.decides (time_at (S.node 0) v i) (S.node e.node))
        (reflects_and (reflects_eq g.symbol e.fact.symbol) (same_all_decides (map (term_under M v) g.terms) e.fact.messages))))

    -- ── the values that the judge found, as a valuation ──
    abbrev embed : Value M.Msg ℕ → Value M.Msg S.Time
    embed (message m) = message m
    embed (time k) = time (S.node k)

    agree_embed : (b : Bindings M) → Agree b (map embed b)
    agree_embed [] = nothing
    agree_embed (message m ∷ b) = more (messages_like (M.itself m)) (agree_embed b)
    agree_embed (time k ∷ b) = more (times_like refl) (agree_embed b)

    found_sorts : (s : List Sort) (x : ℕ) (g : Pattern) (e : Entry M.Msg) → sorts_of (map embed (found M x s g e)) ≡ s
    found_sorts [] x g e = refl
    found_sorts (msg ∷ s) x g e = ap (msg ∷◌) (found_sorts s (suc x) g e)
    found_sorts (tmp ∷ s) x g e = ap (tmp ∷◌) (found_sorts s (suc x) g e)

    found_length : (s : List Sort) (x : ℕ) (g : Pattern) (e : Entry M.Msg) → length (found M x s g e) ≡ length s
    found_length [] x g e = refl
    found_length (msg ∷ s) x g e = ap suc (found_length s (suc x) g e)
    found_length (tmp ∷ s) x g e = ap suc (found_length s (suc x) g e)

    -- ── a matched guard leaves no choice: what an entry binds agrees with every valuation at which it matches ──
    module _ (v : Values) where
      term_is : (x : ℕ) (t : Term) → is_var x t ≡ true → term_under M v t ≡ message_at (M.name 0) v x
      term_is x (var y) p = ap (message_at (M.name 0) v) (sym (reflects_true (reflects_eq x y) p))
      term_is x (public n) p = absurd (false≢true p)

      first_same :
          (x : ℕ) (ts : List Term) (ms : List M.Msg) → any_by (is_var x) ts ≡ true → Pairs M.Same (map (term_under M v) ts) ms
          → M.Same (first M x ts ms) (message_at (M.name 0) v x)
      first_same x [] ms p h = absurd (false≢true p)
      first_same x (t ∷ ts) [] p h = absurd (omega (arith, pairs_length h))
      first_same x (t ∷ ts) (m ∷ ms) p h = go (λ q. first_same x ts ms q (pairs_tail h)) (is_var x t) refl p
        where
          go :
              (any_by (is_var x) ts ≡ true → M.Same (first M x ts ms) (message_at (M.name 0) v x)) → (c : Bool) → is_var x t ≡ c
              → (c || any_by (is_var x) ts) ≡ true → M.Same (elim c [ true ↦ m | false ↦ first M x ts ms ]) (message_at (M.name 0) v x)
          go later true e q = rw (← term_is x t e) (M.turned (pairs_head h))
          go later false e q = later q

    drop_more : (v : Values) (x : ℕ) {y : Value M.Msg S.Time} {w : Values} → drop x v ≡ y ∷ w → drop (suc x) v ≡ w
    drop_more [] zero p = cc
    drop_more [] (suc x) p = cc
    drop_more (z ∷ v) zero p = cc
    drop_more (z ∷ v) (suc x) p = drop_more v x p

    drop_message : (v : Values) (x : ℕ) {m : M.Msg} {w : Values} → drop x v ≡ message m ∷ w → message_at (M.name 0) v x ≡ m
    drop_message [] zero p = cc
    drop_message [] (suc x) p = cc
    drop_message (message a ∷ v) zero p = cc
    drop_message (time t ∷ v) zero p = cc
    drop_message (z ∷ v) (suc x) p = drop_message v x p

    drop_time : (v : Values) (x : ℕ) {t : S.Time} {w : Values} → drop x v ≡ time t ∷ w → time_at (S.node 0) v x ≡ t
    drop_time [] zero p = cc
    drop_time [] (suc x) p = cc
    drop_time (message a ∷ v) zero p = cc
    drop_time (time t ∷ v) zero p = cc
    drop_time (z ∷ v) (suc x) p = drop_time v x p

    module _ (tr : Trace M.Msg) (v : Values) (g : Pattern) (i : ℕ) (e : Entry M.Msg) (m : Matches M S tr v g i e) where
      found_agrees : (w : Values) (x : ℕ) → guarded x (sorts_of w) g.terms i ≡ true → drop x v ≡ w → Agree (found M x (sorts_of w) g e) w
      found_agrees [] x p q = nothing
      found_agrees (message a ∷ w) x p q =
          let (here, later) = and_split (any_by (is_var x) g.terms) (guarded (suc x) (sorts_of w) g.terms i) p in
          more
          (messages_like (subst (λ (c : M.Msg). M.Same (first M x g.terms e.fact.messages) c) (drop_message v x q)
          (first_same v x g.terms e.fact.messages here m.1.1)))
          (found_agrees w (suc x) later (drop_more v x q))
      found_agrees (time t ∷ w) x p q =
          let (here, later) = and_split (eqb x i) (guarded (suc x) (sorts_of w) g.terms i) p in
          more
          (times_like (sym (drop_time v x q) ∙ (ap (time_at (S.node 0) v) (reflects_true (reflects_eq x i) here) ∙ m.0)))
          (found_agrees w (suc x) later (drop_more v x q))

    -- ── one quantifier: its new bindings agree with the valuations at which the guard is this entry ──
    abbrev chosen : Bindings M → List Sort → Pattern → Entry M.Msg → Values
    chosen b s g e = map embed (found M (length b) s g e)

    module _ (tr : Trace M.Msg) {b : Bindings M} {v : Values} (h : Agree b v) (s : List Sort) (g : Pattern) (e : Entry M.Msg) where
      chosen_agrees : Agree (extended M b s g e) (v ++ chosen b s g e)
      chosen_agrees = pairs_append h (agree_embed (found M (length b) s g e))

      other_agrees :
          (i : ℕ) → guarded (length b) s g.terms i ≡ true → (w : Values) → sorts_of w ≡ s → Matches M S tr (v ++ w) g i e
          → Agree (extended M b s g e) (v ++ w)
      other_agrees i ok w p m =
          pairs_append h
          (subst (λ (s' : List Sort). Agree (found M (length b) s' g e) w) p
          (found_agrees tr (v ++ w) g i e m w (length b)
          (subst (λ (s' : List Sort). guarded (length b) s' g.terms i ≡ true) (sym p) ok)
          (subst (λ (n : ℕ). drop n (v ++ w) ≡ w) (sym (pairs_length h)) (drop-append_seam v w))))

    module _ (tr : Trace M.Msg) where
      -- the judge's answer on f is right at all n bindings, and at every valuation that agrees with them
      abbrev Decided : Formula → ℕ → Type 0
      Decided f n = (b : Bindings M) (v : Values) → Agree b v → length b ≡ n → Reflects (Holds M S tr v f) (judge M tr b f)

      extended_length :
          (b : Bindings M) (scope s : List Sort) (g : Pattern) (e : Entry M.Msg) → length b ≡ length scope
          → length (extended M b s g e) ≡ length (scope ++ s)
      extended_length b scope s g e p = simp (length-append, found_length) (ap (◌+ length s) p)

      module _ (scope s : List Sort) (g : Pattern) (i : ℕ) (f : Formula) (ok : guarded (length scope) s g.terms i ≡ true)
          (body : Decided f (length (scope ++ s))) (b : Bindings M) (v : Values) (h : Agree b v) (len : length b ≡ length scope) where
        guard_at :
            (e : Entry M.Msg) (u : Values) → Agree (extended M b s g e) u
            → Reflects (Matches M S tr u g i e) (matches M (extended M b s g e) g i e)
        guard_at e u k = matches_decides k tr g i e

        body_at : (e : Entry M.Msg) (u : Values) → Agree (extended M b s g e) u → Reflects (Holds M S tr u f) (judge M tr (extended M b s g e) f)
        body_at e u k = body (extended M b s g e) u k (extended_length b scope s g e len)

        mine : (e : Entry M.Msg) → Agree (extended M b s g e) (v ++ chosen b s g e)
        mine e = chosen_agrees tr h s g e

        theirs : (e : Entry M.Msg) (w : Values) → sorts_of w ≡ s → Matches M S tr (v ++ w) g i e → Agree (extended M b s g e) (v ++ w)
        theirs e w p m = other_agrees tr h s g e i (rw len ok) w p m

        abbrev SomeEntry : Type 0
        SomeEntry = (e : Entry M.Msg) × IsEntry M S tr e × (Matches M S tr (v ++ chosen b s g e) g i e × Holds M S tr (v ++ chosen b s g e) f)

        abbrev EachEntry : Type 0
        EachEntry = (e : Entry M.Msg) → IsEntry M S tr e → (¬ Matches M S tr (v ++ chosen b s g e) g i e) ⊎ Holds M S tr (v ++ chosen b s g e) f

        exists_decides : Reflects (Holds M S tr v (exists s g i f)) (judge M tr b (exists s g i f))
        exists_decides =
            reflects_iff there back
            (some_entry tr (λ e. reflects_and (guard_at e (v ++ chosen b s g e) (mine e)) (body_at e (v ++ chosen b s g e) (mine e))))
          where
            there : SomeEntry → Holds M S tr v (exists s g i f)
            there x = (chosen b s g x.0, found_sorts s (length b) g x.0, (x.0, x.1, x.2.0), x.2.1)

            back : Holds M S tr v (exists s g i f) → SomeEntry
            back x =
                let e = x.2.0 in
                let k = theirs e x.0 x.1 x.2.2 in (
                  e,
                  x.2.1,
                  (
                    transfer (guard_at e (v ++ x.0) k) (guard_at e (v ++ chosen b s g e) (mine e)) x.2.2,
                    transfer (body_at e (v ++ x.0) k) (body_at e (v ++ chosen b s g e) (mine e)) x.3,
                  ),
                )

        every_decides : Reflects (Holds M S tr v (every s g i f)) (judge M tr b (every s g i f))
        every_decides =
            reflects_iff there back
            (each_entry tr (λ e. reflects_or (reflects_not (guard_at e (v ++ chosen b s g e) (mine e))) (body_at e (v ++ chosen b s g e) (mine e))))
          where
            there : EachEntry → Holds M S tr v (every s g i f)
            there x w p =
                ⊎_elim
                (λ o.
                let e = o.0 in
                let k = theirs e w p o.2 in
                ⊎_elim
                (λ n. absurd (n (transfer (guard_at e (v ++ w) k) (guard_at e (v ++ chosen b s g e) (mine e)) o.2)))
                (λ y. inr (transfer (body_at e (v ++ chosen b s g e) (mine e)) (body_at e (v ++ w) k) y))
                (x e o.1))
                (λ n. inl n)
                (occurs_decides tr (v ++ w) g i)

            back : Holds M S tr v (every s g i f) → EachEntry
            back x e m =
                ⊎_elim
                (λ n. inl (λ k. n (e, m, k)))
                (λ y. inr y)
                (x (chosen b s g e) (found_sorts s (length b) g e))

      decides : (f : Formula) (scope : List Sort) → fit scope f ≡ true → Decided f (length scope)
      decides absurdity scope p b v h len = wrong (λ x. x)
      decides (is a) scope p b v h len = test_decides h tr a
      decides (isnt a) scope p b v h len = reflects_not (test_decides h tr a)
      decides (both f g) scope p b v h len =
          let (x, y) = and_split (fit scope f) (fit scope g) p in
          reflects_and (decides f scope x b v h len) (decides g scope y b v h len)
      decides (either f g) scope p b v h len =
          let (x, y) = and_split (fit scope f) (fit scope g) p in
          reflects_or (decides f scope x b v h len) (decides g scope y b v h len)
      decides (exists s g i f) scope p b v h len =
          let (x, y) = and_split (pattern_fits (scope ++ s) g i) (guarded (length scope) s g.terms i && fit (scope ++ s) f) p in
          let (y, z) = and_split (guarded (length scope) s g.terms i) (fit (scope ++ s) f) y in
          exists_decides scope s g i f y (decides f (scope ++ s) z) b v h len
      decides (every s g i f) scope p b v h len =
          let (x, y) = and_split (pattern_fits (scope ++ s) g i) (guarded (length scope) s g.terms i && fit (scope ++ s) f) p in
          let (y, z) = and_split (guarded (length scope) s g.terms i) (fit (scope ++ s) f) y in
          every_decides scope s g i f y (decides f (scope ++ s) z) b v h len

-- For a fit property the judge's answer says whether it holds, whatever the times are.
module _ (M : Messages) (tr : Trace M.Msg) (f : Formula) (ok : fit [] f ≡ true) where
  pub judge_decides : (S : Times) → Reflects (Holds M S tr [] f) (judge M tr [] f)
  judge_decides S = decides M S tr f [] ok [] [] nothing refl

  -- so it makes no difference which times there are beside the node numbers
  pub times_alike : (S S' : Times) → Holds M S tr [] f → Holds M S' tr [] f
  times_alike S S' = transfer (judge_decides S) (judge_decides S')
