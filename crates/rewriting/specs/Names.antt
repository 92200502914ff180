-- The pass over the names: it finds what row 9 says, and nothing just where no name is made twice.
use Rattle.lists.specs.Tests.{some_none}
use Rattle.std.specs.Prelude.{◌≡◌, refl, Bool, true, false, List, [], ◌∷◌, ◌++◌, ℕ, suc, ◌≤◌, eqb}
use Rattle.std.proofs.Common.{sym, ◌∙◌, ap, append_assoc, append-nil, arith}
use mathlib.Core.List.Memᴰ
use Rattle.std.specs.Prelude.{Option, Some, None}
use Rattle.lists.specs.Tests.{by_bool, by_option, true_false, or_split, eqb_self, eqb_eq, leb_le, leb_gt, le_leb, gt_leb, bit_le, bit_true, at_most_one}
use Rattle.lists.specs.Lists.{bit, count_by, nth, before, leaves}
use Rattle.lists.specs.Lists.Laws.{count_append, count_pos, count_mem}
use Rattle.rewriting.specs.Facts.{Facts}
use Rattle.rewriting.specs.Graph.{Node, name_of, names_of, NamesOnce}
use Rattle.rewriting.specs.Machine.{State, start, ran, made_already, lacks, fails, after, run_from, IsRun}
use Rattle.rewriting.specs.Machine.Laws.{failed_ran}
use Rattle.rewriting.specs.Table.{row, Least, Finds, Pass}
use Rattle.rewriting.specs.Table.Laws.{finds_iff}
use Rattle.rewriting.specs.Table.Scans.{Hit, scan_finds}
use Rattle.rewriting.specs.Causes.{NameTwice}
use Rattle.rewriting.specs.Writer.{add_name, name_twice_from, first_name_twice}

-- A name that stands once in all is not made already.
pub fresh_name : (made rest : List ℕ) (o : Option ℕ) → ((m : ℕ) → count_by (eqb m) (made ++ (name_of o ++ rest)) ≤ 1) → made_already made o ≡ false
fresh_name made rest None h = refl
fresh_name made rest (Some m) h =
    gt_leb 1 (count_by (eqb m) made) (omega (arith, h m, count_append (eqb m) made (m ∷ rest), ap bit (eqb_self m)))

once_more : (made : List ℕ) (o : Option ℕ) → ((m : ℕ) → count_by (eqb m) made ≤ 1) → made_already made o ≡ false → (m : ℕ) → count_by (eqb m) (made ++ name_of o) ≤
    1
once_more made None h e m = omega (arith, h m, count_append (eqb m) made [])
once_more made (Some n) h e m =
    omega (
      arith,
      count_append (eqb m) made (n ∷ []),
      at_most_one (count_by (eqb m) made) (bit (eqb m n)) (h m) (bit_le (eqb m n)) λ u v.
          let i = eqb_eq m n (bit_true (eqb m n) v) in
          let c = leb_gt 1 (count_by (eqb n) made) e in
          omega (arith, ap (λ j. count_by (eqb j) made) i),
    )

module _ {Fact : Type 0} where
  pub twice_step : (k : ℕ) (made : List ℕ) (x : Node Fact) (xs : List (Node Fact)) → name_twice_from k made (x ∷ xs) ≡ None →
      (made_already made x.makes ≡ false) × (name_twice_from (suc k) (made ++ name_of x.makes) xs ≡ None)
  twice_step k made x xs h =
      by_bool (made_already made x.makes) (λ t. absurd (some_none k (rw t at h))) (λ f. (f, rw f at h))

  twice_once : (k : ℕ) (xs : List (Node Fact)) (made : List ℕ) → ((m : ℕ) → count_by (eqb m) made ≤ 1) → name_twice_from k made xs ≡ None → (m : ℕ) → count_by
      (eqb m) (made ++ names_of xs) ≤ 1
  twice_once k [] made h e m = omega (arith, h m, count_append (eqb m) made [])
  twice_once k (x ∷ xs) made h e m =
      let (a, b) = twice_step k made x xs e in
      let c = twice_once (suc k) xs (made ++ name_of x.makes) (once_more made x.makes h a) b m in
      rw append_assoc at c

  once_twice : (k : ℕ) (xs : List (Node Fact)) (made : List ℕ) → ((m : ℕ) → count_by (eqb m) (made ++ names_of xs) ≤ 1) → name_twice_from k made xs ≡ None
  once_twice k [] made h = refl
  once_twice k (x ∷ xs) made h =
      rw (fresh_name made (names_of xs) x.makes h)
      (once_twice (suc k) xs (made ++ name_of x.makes) (λ m. rw (append_assoc made (name_of x.makes) (names_of xs)) (h m)))

  -- The pass finds nothing just where no name is made twice.
  pub names_once : (nodes : List (Node Fact)) → first_name_twice nodes ≡ None → NamesOnce nodes
  names_once nodes e m = twice_once 1 nodes [] (λ m. omega arith) e m

  pub once_names : (nodes : List (Node Fact)) → NamesOnce nodes → first_name_twice nodes ≡ None
  once_names nodes h = once_twice 1 nodes [] h

already_some : (made : List ℕ) (o : Option ℕ) → made_already made o ≡ true → (m : ℕ) × (o ≡ Some m) × (1 ≤ count_by (eqb m) made)
already_some made None h = true_false false h refl
already_some made (Some m) h = (m, refl, leb_le 1 (count_by (eqb m) made) h)

-- The pass over the names finds the first node whose name an earlier one makes.
module _ {Fact : Type 0} where
  pub names_left : (made : List ℕ) (xs : List (Node Fact)) → leaves add_name made xs ≡ made ++ names_of xs
  names_left made [] = sym (append-nil made)
  names_left made (x ∷ xs) = names_left (add_name made x) xs ∙ append_assoc made (name_of x.makes) (names_of xs)

  -- A name is made already where an earlier node makes it.
  pub already_earlier : (nodes : List (Node Fact)) (k : ℕ) (x : Node Fact) → nth nodes k ≡ Some x → made_already (names_of (before k nodes)) x.makes ≡ true →
      NameTwice nodes k
  already_earlier nodes k x s t =
      let (m, e, c) = already_some (names_of (before k nodes)) x.makes t in
      let (n, i, q) = count_pos (eqb m) (names_of (before k nodes)) c in
      record { node = x; name = m; stands = s; made = e; earlier = Memᴰ.cast (eqb_eq m n q) i }

  earlier_already : (nodes : List (Node Fact)) (k : ℕ) (h : NameTwice nodes k) → made_already (names_of (before k nodes)) h.node.makes ≡ true
  earlier_already nodes k h =
      rw h.made (le_leb 1 (count_by (eqb h.name) (names_of (before k nodes)))
      (count_mem (eqb h.name) (names_of (before k nodes)) h.name h.earlier (eqb_self h.name)))

  pub first_twice : (nodes : List (Node Fact)) → Finds (NameTwice nodes) (first_name_twice nodes)
  first_twice nodes =
      finds_iff (Hit bad add_name [] nodes) (NameTwice nodes)
      (λ k h. already_earlier nodes k h.which h.stands (ap (λ l. made_already l h.which.makes) (sym (names_left [] (before k nodes))) ∙ h.is_bad))
      (λ k h. record {
        which = h.node;
        stands = h.stands;
        is_bad = ap (λ l. made_already l h.node.makes) (names_left [] (before k nodes)) ∙ earlier_already nodes k h;
      })
      (first_name_twice nodes) (scan_finds bad add_name [] nodes)
    where
      bad : ℕ → List ℕ → Node Fact → Bool
      bad k made x = made_already made x.makes

abbrev pub name_pass : {Fact : Type 0} → List (Node Fact) → Pass
name_pass nodes = record { cause = row 9 (NameTwice nodes); found = first_name_twice nodes; finds = first_twice nodes }

-- Row 9 applies to no node just where the pass finds nothing.
pub absent_none : {Fact : Type 0} (nodes : List (Node Fact)) → ((k : ℕ) → NameTwice nodes k → ⊥) → first_name_twice nodes ≡ None
absent_none nodes n =
    by_option (first_name_twice nodes)
    (λ e. e)
    (λ k e. let l = first_twice nodes in let g : Least (NameTwice nodes) k = rw e at l in absurd (n k g.here))

pub none_absent : {Fact : Type 0} (nodes : List (Node Fact)) → first_name_twice nodes ≡ None → (k : ℕ) → NameTwice nodes k → ⊥
none_absent nodes e = let l = first_twice nodes in rw e at l

module _ (F : Facts) where
  open F use {Fact}

  -- A run makes no name twice.
  pub run_once : (k : ℕ) (xs : List (Node Fact)) (s e : State Fact) → run_from F k s xs ≡ ran e → name_twice_from k s.made xs ≡ None
  run_once k [] s e h = refl
  run_once k (x ∷ xs) s e h =
      by_bool (fails F s x)
      (λ t. absurd (failed_ran k e (rw t at h)))
      (λ f. rw (or_split (lacks F s x.premises) (made_already s.made x.makes) f).1 (run_once (suc k) xs (after F s x) e (rw f at h)))

  -- "no fresh name made twice": a run makes none.
  pub run_names : (nodes : List (Node Fact)) → IsRun F nodes → NamesOnce nodes
  run_names nodes (s, r) = names_once nodes (run_once 1 nodes start s r)
