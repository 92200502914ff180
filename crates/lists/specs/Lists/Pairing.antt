-- Two lists counted against each other. `key w e` says that `e` belongs to `w`.
use Rattle.std.specs.Prelude.{◌≡◌, refl, Bool, true, not, ◌&&◌, List, [], ◌∷◌, ◌≤◌}
use Rattle.std.proofs.Common.{sym, ◌∙◌, ap, ⊎_elim, arith}
use mathlib.Core.List.Memᴰ
use Rattle.lists.specs.Lists.{◌∈◌, bit, count_by}
use Rattle.lists.specs.Tests.{by_bool, true_false, not_true, not_split, and_split, and_both, zero_or_pos}
use Rattle.lists.specs.Lists.Laws.{count_mono, count_split, count_pos}

module _ {A B : Type 0} (key : A → B → Bool) where
  -- No `e` belongs to two places of the list.
  abbrev pub Apart : List A → Type 0
  Apart [] = Unit {0}
  Apart (w ∷ ws) = ((v : A) → v ∈ ws → (e : B) → key w e ≡ true → key v e ≡ true → ⊥) × Apart ws

  -- If each `w` that passes `p` has an `e` of its own, there are at least as many such `e` as such `w`.
  pub covers : (p : A → Bool) (es : List B) (ws : List A) → Apart ws → ((w : A) → w ∈ ws → p w ≡ true → 1 ≤ count_by (key w) es) →
      (q : B → Bool) → ((w : A) → w ∈ ws → p w ≡ true → (e : B) → key w e ≡ true → q e ≡ true) → count_by p ws ≤ count_by q es
  covers p es [] d one q h = omega arith
  covers p es (w ∷ ws) d one q h =
      by_bool (p w)
      (λ t.
      let ih = covers p es ws d.1 (λ v m. one v (Memᴰ.tail m)) (λ e. q e && not (key w e))
      (λ v m u e k. and_both _ _ (h v (Memᴰ.tail m) u e k) (ap not (not_true (key w e) (λ l. d.0 v m e l k)))) in
      let own = count_mono (key w) (λ e. q e && key w e) (λ e k. and_both _ _ (h w (Memᴰ.head refl) t e k) k) es in
      let all = count_split q (key w) es in
      let here = one w (Memᴰ.head refl) t in
      rw t (omega arith))
      (λ f.
      let ih = covers p es ws d.1 (λ v m. one v (Memᴰ.tail m)) q (λ v m. h v (Memᴰ.tail m)) in
      rw f (omega arith))

  -- If each `e` that passes `q` belongs to some `m` that passes `r`, and such an `m` has at most one, there are at most as many such `e` as such `m`.
  pub packs : (r : A → Bool) (es : List B) (ms : List A) → ((m : A) → m ∈ ms → r m ≡ true → count_by (key m) es ≤ 1) →
      (q : B → Bool) → ((e : B) → e ∈ es → q e ≡ true → (m : A) × (m ∈ ms) × (r m ≡ true) × (key m e ≡ true)) → count_by q es ≤ count_by r ms
  packs r es [] one q h =
      ⊎_elim (λ z. omega arith) (λ l. let (e, k, t) = count_pos q es l in absurd (Memᴰ.not-nil (h e k t).1)) (zero_or_pos (count_by q es))
  packs r es (m ∷ ms) one q h =
      let ih = packs r es ms (λ v k. one v (Memᴰ.tail k)) (λ e. q e && not (key m e && r m)) rest in
      let all = count_split q (λ e. key m e && r m) es in
      omega (arith, own)
    where
      rest : (e : B) → e ∈ es → (q e && not (key m e && r m)) ≡ true → (x : A) × (x ∈ ms) × (r x ≡ true) × (key x e ≡ true)
      rest e k t =
          let (x, i, u, v) = h e k (and_split _ _ t).0 in
          ⊎_elim
          (λ (j : x ≡ m). true_false (key m e && r m) (and_both _ _ (ap (λ y. key y e) (sym j) ∙ v) (ap r (sym j) ∙ u))
          (not_split (key m e && r m) (and_split (q e) (not (key m e && r m)) t).1))
          (λ j. (x, j, u, v))
          (Memᴰ.cases_cons i)

      own : count_by (λ e. q e && (key m e && r m)) es ≤ bit (r m)
      own =
          by_bool (r m)
          (λ t.
          let most = one m (Memᴰ.head refl) t in
          let less = count_mono (λ e. q e && (key m e && r m)) (key m) (λ e u. (and_split (key m e) (r m) (and_split (q e) (key m e && r m) u).1).0) es in
          omega (arith, ap bit t))
          (λ f.
          ⊎_elim
          (λ z. omega arith)
          (λ l. let (e, k, t) = count_pos (λ e. q e && (key m e && r m)) es l in true_false (r m)
          (and_split (key m e) (r m) (and_split (q e) (key m e && r m) t).1).1 f)
          (zero_or_pos (count_by (λ e. q e && (key m e && r m)) es)))
