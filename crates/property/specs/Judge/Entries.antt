-- The entries of a trace are the actions of its nodes, so a test of all entries decides a statement about the actions of all nodes.
use Rattle.std.specs.Prelude.{◌≡◌, refl, Bool, List, [], ◌∷◌, map, ℕ, zero, suc, ◌+◌}
use Rattle.std.proofs.Common.{sym, ap, subst, ⊎_elim, arith}
use mathlib.Core.List.Memᴰ
use Rattle.lists.specs.Lists.{◌∈◌, any_by, all_by}
use Rattle.lists.specs.Reflects.{Reflects, reflects_iff, reflects_any, reflects_all}
use Rattle.property.specs.Meaning.{Fact, Entry, Trace, actions_at}
use Rattle.property.specs.Judge.{entries_from}

module _ {A : Type 0} (e : Entry A) where
  in_node : (k : ℕ) (n : List (Fact A)) → e ∈ map (λ f. record { node = k; fact = f }) n → (e.node ≡ k) × (e.fact ∈ n)
  in_node k [] m = absurd (Memᴰ.not-nil m)
  in_node k (f ∷ n) m =
      ⊎_elim
      (λ p. (ap (λ (x : Entry A). x.node) p, Memᴰ.head (ap (λ (x : Entry A). x.fact) p)))
      (λ q. let r = in_node k n q in (r.0, Memᴰ.tail r.1))
      (Memᴰ.cases_cons m)

  node_in : (k : ℕ) (n : List (Fact A)) → e.node ≡ k → e.fact ∈ n → e ∈ map (λ f. record { node = k; fact = f }) n
  node_in k [] p m = absurd (Memᴰ.not-nil m)
  node_in k (f ∷ n) p m =
      ⊎_elim
      (λ q. Memᴰ.head (λ i. record { node = p i; fact = q i }))
      (λ q. Memᴰ.tail (node_in k n p q))
      (Memᴰ.cases_cons m)

  in_trace : (tr : Trace A) (k : ℕ) → e ∈ entries_from k tr → (j : ℕ) × (e.node ≡ j + k) × (e.fact ∈ actions_at tr (suc j))
  in_trace [] k m = absurd (Memᴰ.not-nil m)
  in_trace (n ∷ tr) k m =
      ⊎_elim
      (λ q. let r = in_node k n q in (0, omega (arith, r.0), r.1))
      (λ q. let r = in_trace tr (suc k) q in (suc r.0, omega (arith, r.1), r.2))
      (Memᴰ.append_cases (map (λ f. record { node = k; fact = f }) n) m)

  trace_in : (tr : Trace A) (k j : ℕ) → e.node ≡ j + k → e.fact ∈ actions_at tr (suc j) → e ∈ entries_from k tr
  trace_in [] k j p m = absurd (Memᴰ.not-nil m)
  trace_in (n ∷ tr) k zero p m = Memᴰ.append_left (entries_from (suc k) tr) (node_in k n (omega (arith, p)) m)
  trace_in (n ∷ tr) k (suc j) p m =
      Memᴰ.append_right (map (λ f. record { node = k; fact = f }) n) (trace_in tr (suc k) j (omega (arith, p)) m)

module _ {A : Type 0} (tr : Trace A) where
  entry_in : (e : Entry A) → e ∈ entries_from 1 tr → e.fact ∈ actions_at tr e.node
  entry_in e m =
      let r = in_trace e tr 1 m in
      let p : e.node ≡ suc r.0 = omega (arith, r.1) in
      subst (λ (k : ℕ). e.fact ∈ actions_at tr k) (sym p) r.2

  in_entries : (e : Entry A) → e.fact ∈ actions_at tr e.node → e ∈ entries_from 1 tr
  in_entries e = go e.node refl
    where
      go : (k : ℕ) → e.node ≡ k → e.fact ∈ actions_at tr k → e ∈ entries_from 1 tr
      go zero p m = absurd (Memᴰ.not-nil m)
      go (suc j) p m = trace_in e tr 1 j (omega (arith, p)) m

  module _ {q : Entry A → Bool} {Q : Entry A → Type 0} (r : (e : Entry A) → Reflects (Q e) (q e)) where
    pub some_entry : Reflects ((e : Entry A) × (e.fact ∈ actions_at tr e.node) × Q e) (any_by q (entries_from 1 tr))
    some_entry =
        reflects_iff
        (λ h. (h.0, entry_in h.0 h.1, h.2))
        (λ h. (h.0, in_entries h.0 h.1, h.2))
        (reflects_any r (entries_from 1 tr))

    pub each_entry : Reflects ((e : Entry A) → e.fact ∈ actions_at tr e.node → Q e) (all_by q (entries_from 1 tr))
    each_entry =
        reflects_iff
        (λ h e m. h e (in_entries e m))
        (λ h e m. h e (entry_in e m))
        (reflects_all r (entries_from 1 tr))
