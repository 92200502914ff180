-- Rows whose numbers and items are small: what they refuse has a small number and a small item.
use Rattle.std.specs.Prelude.{ℕ, ◌≤◌, List, [], ◌∷◌, ◌++◌, ◌≡◌, refl}
use Rattle.std.proofs.Common.{inl, inr, subst, arith}
use Rattle.rewriting.specs.Table.{Ruling, passed, refused, Row, fixed_row, Says, Ruled, rows_after}
use Rattle.rewriting.specs.Table.Laws.{ruled_says}

-- no number over n, no item over i
module _ (n i : ℕ) where
  abbrev pub RowSmall : Row → Type 0
  RowSmall c = (c.number ≤ n) × ((k : ℕ) → c.has k → k ≤ i)

  abbrev pub Small : List Row → Type 0
  Small [] = Unit {0}
  Small (c ∷ cs) = RowSmall c × Small cs

  says_small : (cs : List Row) (m k : ℕ) → Small cs → Says cs m k → (m ≤ n) × (k ≤ i)
  says_small [] m k s h = absurd h
  says_small (c ∷ cs) m k s (inl (e, l)) = (omega (arith, e, s.0.0), s.0.1 k l.here)
  says_small (c ∷ cs) m k s (inr h) = says_small cs m k s.1 h

  pub small_join : (cs ds : List Row) → Small cs → Small ds → Small (cs ++ ds)
  small_join [] ds s t = t
  small_join (c ∷ cs) ds s t = (s.0, small_join cs ds s.1 t)

  pub small_after : {A : Type 0} (r : Ruling A) (ds : A → List Row) → ((a : A) → r ≡ passed a → Small (ds a)) → Small (rows_after r ds)
  small_after (passed a) ds h = h a refl
  small_after (refused m k) ds h = tt

  pub small_fixed : (m j : ℕ) (P : Type 0) → m ≤ n → j ≤ i → RowSmall (fixed_row m j P)
  small_fixed m j P l h = (l, λ k q. omega (arith, h, q.0))

  -- what such rows refuse
  pub refused_small :
      {A : Type 0} (Good : A → Type 0) (cs : List Row) (r : Ruling A) → Small cs → Ruled cs Good r → (m k : ℕ) → r ≡ refused m k
      → (m ≤ n) × (k ≤ i)
  refused_small Good cs r s h m k e = says_small cs m k s (ruled_says Good cs m k (subst (Ruled cs Good) e h))

-- what is small is small under a wider bound
pub small_wider : (n i m j : ℕ) → n ≤ m → i ≤ j → (cs : List Row) → Small n i cs → Small m j cs
small_wider n i m j l h [] s = tt
small_wider n i m j l h (c ∷ cs) s =
    ((omega (arith, s.0.0), λ k q. omega (arith, s.0.1 k q)), small_wider n i m j l h cs s.1)
