-- Where the machine stops, and what it leaves.
use Rattle.lists.specs.Tests.{some_none}
use Rattle.std.specs.Prelude.{◌≡◌, refl, true, false, ◌||◌, List, [], ◌∷◌, ◌++◌, ℕ, suc, ◌+◌, ◌-◌, leb}
use Rattle.std.proofs.Common.{sym, ◌∙◌, ap, ap₂, append_assoc, append-nil, arith}
use Rattle.std.specs.Prelude.{Option, Some, None}
use Rattle.lists.specs.Tests.{by_bool}
use Rattle.lists.specs.Lists.{leaves, scan}
use Rattle.rewriting.specs.Facts.{Facts, count}
use Rattle.rewriting.specs.Facts.Laws.{count_linears, count_persistents}
use Rattle.rewriting.specs.Graph.{Node, name_of, names_of}
use Rattle.rewriting.specs.Machine.{State, start, Outcome, ran, failed, fails, after, run_from, IsRun}

pub failed_ran : {Fact : Type 0} (k : ℕ) (s : State Fact) → Path (Outcome Fact) (failed k) (ran s) → ⊥
failed_ran k s e = let z : ◌≡◌ {A = ℕ} 0 1 = cc in omega arith

module _ (F : Facts) where
  open F use {Fact, same, linear, same_linear}

  -- "no nodes at all are one".
  pub empty_run : IsRun F []
  empty_run = (start, refl)

  -- What a node does to the multiplicity of a linear fact, and to a persistent one.
  module _ (s : State Fact) (x : Node Fact) (f : Fact) where
    pub bag_after : linear f ≡ true → (after F s x).bag f ≡ s.bag f - count F f x.premises + count F f x.conclusions
    bag_after lf = ap₂ (λ m n. s.bag f - m + n) (count_linears F f lf x.premises) (count_linears F f lf x.conclusions)

    pub set_after : linear f ≡ false → (after F s x).set f ≡ (s.set f || leb 1 (count F f x.conclusions))
    set_after lf = ap (λ n. s.set f || leb 1 n) (count_persistents F f lf x.conclusions)

  -- The node at which the machine fails: it is a pass that keeps a state.
  abbrev pub stop : Outcome Fact → Option ℕ
  stop (ran s) = None
  stop (failed k) = Some k

  pub stop_scan : (k : ℕ) (s : State Fact) (xs : List (Node Fact)) → stop (run_from F k s xs) ≡ scan (λ j s x. fails F s x) (after F) k s xs
  stop_scan k s [] = refl
  stop_scan k s (x ∷ xs) = by_bool (fails F s x) (λ t. rw t) (λ f. rw f (stop_scan (suc k) (after F s x) xs))

  pub clear_ran : (k : ℕ) (s : State Fact) (xs : List (Node Fact)) → scan (λ j s x. fails F s x) (after F) k s xs ≡ None → run_from F k s xs ≡ ran
      (leaves (after F) s xs)
  clear_ran k s [] h = refl
  clear_ran k s (x ∷ xs) h =
      by_bool (fails F s x) (λ t. absurd (some_none k (rw t at h))) (λ f. rw f (clear_ran (suc k) (after F s x) xs (rw f at h)))

  -- What the machine leaves.
  pub ran_left : (k : ℕ) (s : State Fact) (xs : List (Node Fact)) (e : State Fact) → run_from F k s xs ≡ ran e → leaves (after F) s xs ≡ e
  ran_left k s [] e h = cc
  ran_left k s (x ∷ xs) e h =
      by_bool (fails F s x) (λ t. absurd (failed_ran k e (rw t at h))) (λ f. ran_left (suc k) (after F s x) xs e (rw f at h))

  pub made_left : (s : State Fact) (xs : List (Node Fact)) → (leaves (after F) s xs).made ≡ s.made ++ names_of xs
  made_left s [] = sym (append-nil s.made)
  made_left s (x ∷ xs) = made_left (after F s x) xs ∙ append_assoc s.made (name_of x.makes) (names_of xs)
