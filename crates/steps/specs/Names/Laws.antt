-- The pass over the names by the nodes is crate rewriting's pass of cause 9.
use Rattle.std.specs.Prelude.{ℕ, suc, ◌+◌, ◌<◌, List, [], ◌∷◌, ◌++◌, Bool, true, false, cond, ◌||◌, ◌≡◌, refl, eqb, leb, length, get_or, take, drop, set}
use Rattle.std.proofs.Common.{append_assoc, append-nil, ap, ap₂, sym, ◌∙◌, arith, drop-cons, take-suc, eqb-true, eq-eqb, ne_eqb}
use Rattle.std.specs.Prelude.{Option, Some, None}
use Rattle.std.specs.List.{list_any}
use Rattle.std.specs.Option.{option_map}
use Rattle.std.proofs.lemmas.List.{take_more_set}
use Rattle.std.proofs.lemmas.Bool.{eqb-false}
use Rattle.lists.specs.Lists.{bit, count_by}
use Rattle.lists.specs.Lists.Laws.{count_append}
use Rattle.lists.specs.Tests.{leb_sum}
use Rattle.rewriting.specs.Graph.{name_of}
use Rattle.rewriting.specs.Machine.{made_already}
use Rattle.rewriting.specs.Writer.{name_twice_from, first_name_twice}
use Rattle.protocol.specs.Protocol.{Protocol}
use Rattle.steps.specs.Nodes.{Node}
use Rattle.steps.specs.Facts.{made_name}
use Rattle.steps.specs.Runs.{rewrittens}
use Rattle.term.specs.declared.Fresh.{Fresh}
use Rattle.steps.specs.Nodes.{no_node}
use Rattle.steps.specs.Names.{made_by, is_made, again_in, MadeIs, Entered}

made_append : (xs ys : List Node) → made_by (xs ++ ys) ≡ made_by xs ++ made_by ys
made_append [] ys = refl
made_append (x ∷ xs) ys =
    ap (λ (l : List ℕ). name_of (made_name x) ++ l) (made_append xs ys) ∙ sym (append_assoc (name_of (made_name x)) (made_by xs) (made_by ys))

-- one node more
made_more : (xs : List Node) (j : ℕ) (d : Node) → j < length xs → made_by (take (suc j) xs) ≡ made_by (take j xs) ++ name_of (made_name (get_or xs j d))
made_more xs j d l =
    ap made_by (take-suc xs j d l) ∙ made_append (take j xs) (get_or xs j d ∷ [])
    ∙ ap (λ (n : List ℕ). made_by (take j xs) ++ n) (append-nil (name_of (made_name (get_or xs j d))))

-- ── is a name among those of the first nodes? ──
abbrev same_as : ℕ → Option ℕ → Bool
same_as m None = false
same_as m (Some n) = eqb m n

module _ (m : ℕ) (xs : List Node) (d : Node) (j : ℕ) (l : j < length xs) where
  one_more : (o : Option ℕ) → leb 1 (count_by (eqb m) (name_of o)) ≡ same_as m o
  one_more None = refl
  one_more (Some n) = go (eqb m n)
    where
      go : (b : Bool) → leb 1 (count_by (λ (x : ℕ). b) (n ∷ [])) ≡ b
      go true = refl
      go false = refl

  pub made_step : is_made m (take (j + 1) xs) ≡ (is_made m (take j xs) || same_as m (made_name (get_or xs j d)))
  made_step =
      let o : j + 1 ≡ suc j = omega arith in
      ap (λ (k : ℕ). is_made m (take k xs)) o
      ∙ leb_sum (count_by (eqb m) (made_by (take j xs))) (count_by (eqb m) (name_of (made_name (get_or xs j d)))) _
      (ap (count_by (eqb m)) (made_more xs j d l) ∙ count_append (eqb m) (made_by (take j xs)) (name_of (made_name (get_or xs j d))))
      ∙ ap (λ (b : Bool). is_made m (take j xs) || b) (one_more (made_name (get_or xs j d)))

-- the number of what code reads is the node's name
pub entry_made : (o : Option ℕ) (a : Option Fresh) → MadeIs o a → option_map (λ f. f.0) a ≡ o
entry_made o (Some f) h = sym h
entry_made o None h = sym h

-- ── by the table ──
-- a number stands among others if it is counted there
any_counted : (m : ℕ) (l : List ℕ) → list_any (λ x. eqb x m) l ≡ leb 1 (count_by (eqb m) l)
any_counted m [] = refl
any_counted m (x ∷ l) = ap₂ ◌||◌ (go (eqb m x) refl) (any_counted m l) ∙ sym (leb_sum (bit (eqb m x)) (count_by (eqb m) l) _ refl)
  where
    go : (b : Bool) → eqb m x ≡ b → eqb x m ≡ leb 1 (bit (eqb m x))
    go true h = eq-eqb x m (sym (eqb-true m x h)) ∙ sym (ap (λ (a : Bool). leb 1 (bit a)) h)
    go false h = ne_eqb x m (λ e. eqb-false m x h (sym e)) ∙ sym (ap (λ (a : Bool). leb 1 (bit a)) h)

pub entered_none : (names : List ℕ) (xs : List Node) → Entered names 0 xs 0
entered_none names xs = record { entries = refl }

module _ {names : List ℕ} {k : ℕ} {xs : List Node} {j : ℕ} (h : Entered names k xs j) where
  -- the node's name is made by the nodes before it
  pub again_some : (m : ℕ) → made_name (get_or xs j no_node) ≡ Some m → list_any (λ x. eqb x m) (take k names) ≡ again_in (take j xs)
      (made_name (get_or xs j no_node))
  again_some m e = any_counted m (take k names) ∙ ap (λ l. leb 1 (count_by (eqb m) l)) h.entries ∙ sym (ap (again_in (take j xs)) e)

  entered_then : (o : Option ℕ) → made_name (get_or xs j no_node) ≡ o → j < length xs → take k names ++ name_of o ≡ made_by (take (j + 1) xs)
  entered_then o e l =
      let s : suc j ≡ j + 1 = omega arith in
      ap₂ ◌++◌ h.entries (ap name_of (sym e)) ∙ sym (made_more xs j no_node l) ∙ ap (λ i. made_by (take i xs)) s

  -- one entry more
  pub entered_more : (m : ℕ) → made_name (get_or xs j no_node) ≡ Some m → j < length xs → k < length names → Entered (set names k m) (k + 1) xs (j + 1)
  entered_more m e l r = record { entries = take_more_set names k m r ∙ entered_then (Some m) e l }

  -- no name, no entry
  pub entered_same : made_name (get_or xs j no_node) ≡ None → j < length xs → Entered names k xs (j + 1)
  entered_same e l = record { entries = sym (append-nil (take k names)) ∙ entered_then None e l }

pub again_none : (xs : List Node) (j : ℕ) → made_name (get_or xs j no_node) ≡ None → false ≡ again_in (take j xs) (made_name (get_or xs j no_node))
again_none xs j e = sym (ap (again_in (take j xs)) e)

-- ── the pass ──
again_already : (ys : List Node) (o : Option ℕ) → made_already (made_by ys) o ≡ again_in ys o
again_already ys None = refl
again_already ys (Some m) = refl

module _ (p : Protocol) (d : Node) (xs : List Node) where
  -- what is left is what there was
  abbrev pub NamesLeft : ℕ → Type 0
  NamesLeft j = first_name_twice (rewrittens p xs) ≡ name_twice_from (j + 1) (made_by (take j xs)) (rewrittens p (drop j xs))

  step : (j : ℕ) (b : Bool) → j < length xs → again_in (take j xs) (made_name (get_or xs j d)) ≡ b → NamesLeft j
      → first_name_twice (rewrittens p xs)
      ≡ cond b (Some (j + 1)) (name_twice_from (suc (j + 1)) (made_by (take j xs) ++ name_of (made_name (get_or xs j d))) (rewrittens p (drop (suc j) xs)))
  step j b l t h =
      h ∙ ap (λ (ys : List Node). name_twice_from (j + 1) (made_by (take j xs)) (rewrittens p ys)) (drop-cons xs j d l)
      ∙ ap (λ (a : Bool). cond a (Some (j + 1)) (name_twice_from (suc (j + 1)) (made_by (take j xs) ++ name_of (made_name (get_or xs j d)))
      (rewrittens p (drop (suc j) xs))))
      (again_already (take j xs) (made_name (get_or xs j d)) ∙ t)

  pub names_more : (j : ℕ) → j < length xs → again_in (take j xs) (made_name (get_or xs j d)) ≡ false → NamesLeft j → NamesLeft (j + 1)
  names_more j l t h =
      let a : suc (j + 1) ≡ j + 1 + 1 = omega arith in
      let b : suc j ≡ j + 1 = omega arith in
      step j false l t h
      ∙ ap (λ (m : List ℕ). name_twice_from (suc (j + 1)) m (rewrittens p (drop (suc j) xs))) (sym (made_more xs j d l))
      ∙ ap₂ (λ (k i : ℕ). name_twice_from k (made_by (take i xs)) (rewrittens p (drop i xs))) a b

  pub names_twice : (j : ℕ) → j < length xs → again_in (take j xs) (made_name (get_or xs j d)) ≡ true → NamesLeft j → Some (j + 1) ≡ first_name_twice
      (rewrittens p xs)
  names_twice j l t h = sym (step j true l t h)
