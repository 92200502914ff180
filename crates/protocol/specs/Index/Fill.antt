-- Filling the tables while reading, one thing after another.
use Rattle.std.specs.Prelude.{Option, Some, None, ℕ, zero, suc, ◌+◌, ◌≤◌, ◌<◌, List, [], ◌∷◌, ◌++◌, map, ◌≡◌, refl, length, get_or, take, set}
use Rattle.std.proofs.lemmas.List.{map-append}
use Rattle.std.proofs.Common.{append_assoc, append-nil, ap₂, sym, ◌∙◌, subst, arith, add-one, below_more, drop_of_length-le, take-suc-set, get_or-set_same, get_or-set_other}
use Rattle.std.proofs.Math.Path.{ap}
use Rattle.protocol.specs.Figures.{flag_count, arity_limit, fact_arity_limit}
use Rattle.octets.specs.Head.{Bytes}
use Rattle.octets.specs.Splice.{splice}
use Rattle.octets.specs.Splice.Laws.{take_past}
use Rattle.number.specs.Reading.{Read, got, fault, below, many}
use Rattle.number.specs.Reading.Laws.{then_got, then_fault}
use Rattle.number.specs.Reading.Many.{Came, many_snoc, many_length}
use Rattle.term.specs.Arity.{builtin, signing, padded, tag_arities}
use Rattle.term.specs.Arity.Laws.{length_padded}
use Rattle.protocol.specs.Protocol.{Own, own_of, fact_arities, fact_flags, own}
use Rattle.protocol.specs.Protocol.Limits.{OwnWithin}
use Rattle.protocol.specs.Protocol.Exact.{own_exact}
use Rattle.protocol.specs.Places.{place_of}
use Rattle.protocol.specs.Places.Laws.{nth_here}
use Rattle.protocol.specs.Index.{ToldOf, Told, Placed}

-- another reading that is the same
pub told_as : {A : Type 0} (r o : Read A) (Says : A → ℕ → Type 0) (x : Option (ℕ × ℕ)) → o ≡ r → Told r Says x → Told o Says x
told_as {A} r o Says x h t = subst (λ (q : Read A). Told q Says x) (sym h) t

-- what the code has in either case
module _ {A : Type 0} (r : Read A) (Says : A → ℕ → Type 0) {x : Option (ℕ × ℕ)} where
  pub told_value : {n e : ℕ} → x ≡ Some (n, e) → Told r Says x → ToldOf r Says n e
  told_value h t = subst (Told r Says) h t

  pub told_fault : x ≡ None → Told r Says x → r ≡ fault
  told_fault h t = subst (Told r Says) h t

-- ── the slots ──
set_behind : (xs ys : List ℕ) (k j v : ℕ) → k ≡ length xs + j → set (xs ++ ys) k v ≡ xs ++ set ys j v
set_behind [] ys k j v h = let e : k ≡ j = omega arith in ap (λ (i : ℕ). set ys i v) e
set_behind (x ∷ xs) ys zero j v h = absurd (omega arith)
set_behind (x ∷ xs) ys (suc k) j v h = ap (λ (l : List ℕ). x ∷ l) (set_behind xs ys k j v (omega arith))

padded_more : (n : ℕ) (l : List ℕ) (j v : ℕ) → length l ≡ j → j < n → set (padded n l) j v ≡ padded n (l ++ (v ∷ []))
padded_more zero l j v h k = absurd (omega arith)
padded_more (suc n) [] zero v h k = refl
padded_more (suc n) [] (suc j) v h k = absurd (omega arith)
padded_more (suc n) (a ∷ l) zero v h k = absurd (omega arith)
padded_more (suc n) (a ∷ l) (suc j) v h k = ap (λ (r : List ℕ). a ∷ r) (padded_more n l j v (omega arith) (omega arith))

set_before : (xs ys : List ℕ) (j v : ℕ) → j < length xs → set (xs ++ ys) j v ≡ set xs j v ++ ys
set_before [] ys j v h = absurd (omega arith)
set_before (x ∷ xs) ys zero v h = refl
set_before (x ∷ xs) ys (suc j) v h = ap (λ (l : List ℕ). x ∷ l) (set_before xs ys j v (omega arith))

-- one function more
pub slots_more : (fs : List ℕ) (j v : ℕ) → length fs ≡ j → j < 16 → set (tag_arities fs) (13 + j) v ≡ tag_arities (fs ++ (v ∷ []))
unfolding tag_arities
slots_more fs j v h k =
    set_behind builtin (padded 16 fs ++ signing) (13 + j) j v (omega arith)
    ∙ ap (λ (l : List ℕ). builtin ++ l)
    (set_before (padded 16 fs) signing j v (omega (arith, length_padded 16 fs)) ∙ ap (λ (l : List ℕ). l ++ signing) (padded_more 16 fs j v h k))

-- a whole list replaced
pub splice_all : (l vs : List ℕ) → length l ≡ length vs → splice l 0 vs ≡ vs
unfolding splice
splice_all l vs h =
    ap (λ (r : List ℕ). vs ++ r) (drop_of_length-le l {i = 0 + length vs} (omega arith)) ∙ append-nil vs

-- no function: the table that the code copies
pub slots_none :
    tag_arities [] ≡ 255 ∷ 255 ∷ 255 ∷ 0 ∷ 2 ∷ 2 ∷ 1 ∷ 2 ∷ 1 ∷ 1 ∷ 2 ∷ 1 ∷ 2 ∷ 255 ∷ 255 ∷ 255 ∷ 255 ∷ 255 ∷ 255 ∷ 255 ∷ 255 ∷ 255 ∷ 255 ∷ 255 ∷ 255 ∷ 255 ∷ 255
    ∷
    255 ∷ 255 ∷ 2 ∷ 2 ∷ 1 ∷ 2 ∷ 3 ∷ 0 ∷ []
unfolding tag_arities
slots_none = refl

-- j functions are read, and have their slots
pub record Slotting (file : List ℕ) (at j i : ℕ) (arities : List ℕ) : Type 0 where
  pub items : List ℕ
  pub there : many (below file arity_limit) j at ≡ got items i
  pub slotted : arities ≡ tag_arities items

module _ (file : List ℕ) (at : ℕ) where
  pub slots_begin : (arities : List ℕ) → arities ≡ tag_arities [] → Slotting file at 0 at arities
  unfolding many
  slots_begin arities h = record { items = []; there = refl; slotted = h }

  pub slots_next :
      (j i e v : ℕ) (arities : List ℕ) → Slotting file at j i arities → below file arity_limit i ≡ got v e → j < 16
      → Slotting file at (j + 1) e (set arities (13 + j) v)
  slots_next j i e v arities o h l =
      record {
        items = o.items ++ (v ∷ []);
        there = rw add-one (many_snoc (below file arity_limit) j at i e o.items v o.there h);
        slotted =
            ap (λ (r : List ℕ). set r (13 + j) v) o.slotted
            ∙ slots_more o.items j v (many_length (below file arity_limit) j at i o.items o.there) l;
      }

-- ── the fact symbols ──
abbrev pub as_own : Option (ℕ × ℕ × ℕ) → Read Own
as_own (Some (a, l, e)) = got (own_of a l) e
as_own None = fault

module _ (file : List ℕ) (at : ℕ) where
  pub own_got : {a e l f : ℕ} → below file fact_arity_limit at ≡ got a e → below file flag_count e ≡ got l f → own file at ≡ got (own_of a l) f
  unfolding own
  own_got {a} {e} {l} {f} h k = then_got (below file fact_arity_limit at) _ h ∙ then_got (below file flag_count e) _ k

  pub own_first : below file fact_arity_limit at ≡ fault → own file at ≡ fault
  unfolding own
  own_first h = then_fault (below file fact_arity_limit at) _ h

  pub own_second : {a e : ℕ} → below file fact_arity_limit at ≡ got a e → below file flag_count e ≡ fault → own file at ≡ fault
  unfolding own
  own_second {a} {e} h k = then_got (below file fact_arity_limit at) _ h ∙ then_fault (below file flag_count e) _ k

  pub own_small : Bytes file → {a l e : ℕ} → own file at ≡ got (own_of a l) e → OwnWithin (own_of a l)
  own_small bytes {a} {l} {e} h = ((own_exact file bytes).form (own_of a l) at e h).0

-- the first m entries of a table: some that stand there before, then one for each thing read
module _ {A : Type 0} (f : A → ℕ) (before : List ℕ) where
  abbrev Holds : List A → ℕ → List ℕ → Type 0
  Holds xs m l = take m l ≡ before ++ map f xs

  holds_more :
      (xs : List A) (x : A) (m v n : ℕ) (l : List ℕ) → Holds xs m l → m < length l → v ≡ f x → n ≡ m + 1
      → Holds (xs ++ (x ∷ [])) n (set l m v)
  holds_more xs x m v n l h b e k =
      ap₂ (λ (i w : ℕ). take i (set l m w)) (k ∙ add-one m) e
      ∙ take-suc-set l m (f x) b
      ∙ ap (λ (r : List ℕ). r ++ (f x ∷ [])) h
      ∙ append_assoc before (map f xs) (f x ∷ [])
      ∙ ap (λ (r : List ℕ). before ++ r) (sym (map-append f xs (x ∷ [])))

-- j own symbols are read, and stand in both tables
pub record Owned (file : List ℕ) (at j i : ℕ) (ars flags : List ℕ) : Type 0 where
  pub items : List Own
  pub there : many (own file) j at ≡ got items i
  pub arities : take (j + 4) ars ≡ fact_arities items
  pub flagged : take (j + 4) flags ≡ fact_flags items

module _ (file : List ℕ) (at : ℕ) where
  pub own_begins :
      (ars flags ars₀ flags₀ : List ℕ) → ars ≡ splice ars₀ 0 (1 ∷ 1 ∷ 1 ∷ 1 ∷ []) → flags ≡ splice flags₀ 0 (0 ∷ 0 ∷ 0 ∷ 1 ∷ [])
      → 4 ≤ length ars₀ → 4 ≤ length flags₀ → Owned file at 0 at ars flags
  unfolding many
  own_begins ars flags ars₀ flags₀ a f h k =
      record {
        items = [];
        there = refl;
        arities = ap (take 4) a ∙ take_past ars₀ 0 (1 ∷ 1 ∷ 1 ∷ 1 ∷ []) h;
        flagged = ap (take 4) f ∙ take_past flags₀ 0 (0 ∷ 0 ∷ 0 ∷ 1 ∷ []) k;
      }

  pub own_more :
      (j i e a l : ℕ) (ars flags : List ℕ) → Owned file at j i ars flags → own file i ≡ got (own_of a l) e
      → j + 4 < length ars → j + 4 < length flags → Owned file at (j + 1) e (set ars (j + 4) a) (set flags (j + 4) l)
  own_more j i e a l ars flags o h x y =
      record {
        items = o.items ++ (own_of a l ∷ []);
        there = rw add-one (many_snoc (own file) j at i e o.items (own_of a l) o.there h);
        arities = holds_more (λ o. o.arity) (1 ∷ 1 ∷ 1 ∷ 1 ∷ []) o.items (own_of a l) (j + 4) a (j + 1 + 4) ars o.arities x refl (omega arith);
        flagged = holds_more (λ o. o.flag) (0 ∷ 0 ∷ 0 ∷ 1 ∷ []) o.items (own_of a l) (j + 4) l (j + 1 + 4) flags o.flagged y refl (omega arith);
      }

-- ── the places of things ──
module _ {A : Type 0} (p : ℕ → Read A) (at : ℕ) where
  pub places_more :
      (j i : ℕ) (places : List ℕ) → ((k : ℕ) → k < j → Came p at k (get_or places k 0)) → Came p at j i → j < length places
      → (k : ℕ) → k < j + 1 → Came p at k (get_or (set places j i) k 0)
  places_more j i places all here b =
      below_more (λ k. Came p at k (get_or (set places j i) k 0)) j
      (λ k l. rw (get_or-set_other places j k i 0 (λ e. omega arith)) (all k l))
      (rw (get_or-set_same places j i 0 b) here)

  -- all are read, and each stands at its place
  pub places_end :
      (d : A) (n e : ℕ) (xs : List A) (places : List ℕ) → many p n at ≡ got xs e
      → ((k : ℕ) → k < n → Came p at k (get_or places k 0)) → Placed p d places xs n
  places_end d n e xs places h all =
      record {
        count = many_length p n at e xs h;
        each = λ k l.
            let z = nth_here p d n at e k xs h l in
            record { next = z.next; reads = ap p (sym (ap place_of (all k l).there)) ∙ z.reads };
      }
