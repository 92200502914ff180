-- Numbers: what is written reads back; what reads is the groups of its value, so that the shortest form is unique.
use Prim.Native.Nat.{ℕ, zero, suc, ◌+◌, ◌-◌, ◌*◌, ◌/◌, ◌%◌, ◌^◌, ◌≤◌, ◌<◌}
use Rattle.std.specs.Prelude.{List, [], ◌∷◌, ◌++◌, ◌↔◌, ◌≡◌, refl, length, get_or, drop}
use Rattle.std.proofs.Common.{ap, sym, ◌∙◌, subst₂, arith}
use Rattle.std.proofs.Math.Path.{ap₂, subst}
use Rattle.std.proofs.Math.Nat.{pow-succ', pow-zero, one-le-pow}
use borrow.Author.Tests.{lt-ltb, le-ltb, eq-eqb, ne_eqb}
use Rattle.lists.specs.Choice.{cut_lt, cut_eq, by_size, clash}
use Rattle.lists.specs.All.{All}
use Rattle.octets.specs.Head.{head_at, head_of, Bytes, Stands, stands_within}
use Rattle.octets.specs.Splice.{splice}
use Rattle.octets.specs.Splice.Laws.{part_splice}
use Rattle.number.specs.Groups.{groups, most_groups, number_limit}
use Rattle.number.specs.Groups.Laws.{groups_one, groups_more, groups_some}
use Rattle.number.specs.Reading.{Read, got, fault, joined, longer, read_in, read_number, below}
use Rattle.number.specs.Reading.Laws.{cut_got, then_got, then_fault}

-- ── read_in case by case: shared by the code's proof and the laws ──
module _ (k : ℕ) (file : List ℕ) (at : ℕ) where
  pub in_end : length file ≤ at → read_in (suc k) file at ≡ fault
  unfolding read_in
  in_end h = simp (le-ltb at (length file) h)

  module _ (inside : at < length file) where
    pub in_one : get_or file at 0 < 128 → read_in (suc k) file at ≡ got (get_or file at 0) (at + 1)
    unfolding read_in
    in_one h = simp (lt-ltb at (length file) inside, lt-ltb (get_or file at 0) 128 h)

    pub in_more : 128 ≤ get_or file at 0 → read_in (suc k) file at ≡ longer (get_or file at 0) (read_in k file (at + 1))
    unfolding read_in
    in_more h = simp (lt-ltb at (length file) inside, le-ltb (get_or file at 0) 128 h)

pub joined_zero : (low weight v e : ℕ) → v ≡ 0 → joined low weight (got v e) ≡ fault
joined_zero low weight v e h = simp (eq-eqb v 0 h)

pub joined_some : (low weight v e : ℕ) → (v ≡ 0 → ⊥) → joined low weight (got v e) ≡ got (low + weight * v) e
joined_some low weight v e h = simp (ne_eqb v 0 h)

pub longer_zero : (b v e : ℕ) → v ≡ 0 → longer b (got v e) ≡ fault
longer_zero b v e h = joined_zero (b - 128) 128 v e h

pub longer_some : (b v e : ℕ) → (v ≡ 0 → ⊥) → longer b (got v e) ≡ got (b - 128 + 128 * v) e
longer_some b v e h = joined_some (b - 128) 128 v e h

-- the same, as the code has it
pub now_none : (k : ℕ) (file : List ℕ) (at : ℕ) → k ≡ 0 → read_in k file at ≡ fault
unfolding read_in
now_none zero file at z = refl
now_none (suc k) file at z = absurd (omega arith)

module _ (file : List ℕ) (at : ℕ) where
  pub now_end : (k : ℕ) → length file ≤ at → read_in k file at ≡ fault
  now_end zero h = now_none zero file at refl
  now_end (suc k) h = in_end k file at h

  pub now_one : (k : ℕ) → (k ≡ 0 → ⊥) → at < length file → get_or file at 0 < 128 → read_in k file at ≡ got (get_or file at 0) (at + 1)
  now_one zero z inside h = absurd (z refl)
  now_one (suc k) z inside h = in_one k file at inside h

  pub now_more :
      (k : ℕ) → (k ≡ 0 → ⊥) → at < length file → 128 ≤ get_or file at 0
      → read_in k file at ≡ longer (get_or file at 0) (read_in (k - 1) file (at + 1))
  now_more zero z inside h = absurd (z refl)
  now_more (suc k) z inside h =
      let e : suc k - 1 ≡ k = omega arith in
      in_more k file at inside h ∙ ap (λ (j : ℕ). longer (get_or file at 0) (read_in j file (at + 1))) (sym e)

pub number_in : (file : List ℕ) (at : ℕ) → read_in most_groups file at ≡ read_number file at
unfolding read_number
number_in file at = refl

-- ── a group that another follows ──
module _ (file : List ℕ) (at : ℕ) (inside : at < length file) (more : 128 ≤ get_or file at 0) where
  pub number_more : read_number file at ≡ longer (get_or file at 0) (read_in (most_groups - 1) file (at + 1))
  number_more = sym (number_in file at) ∙ now_more file at most_groups (λ z. omega arith) inside more

  pub two_groups :
      at + 1 < length file → get_or file (at + 1) 0 < 128
      → read_number file at ≡ longer (get_or file at 0) (got (get_or file (at + 1) 0) (at + 1 + 1))
  two_groups h l = number_more ∙ ap (longer (get_or file at 0)) (now_one file (at + 1) (most_groups - 1) (λ z. omega arith) h l)

-- ── what is no number ──
-- groups that another follows
abbrev pub Followed : List ℕ → Type 0
Followed bs = All (λ b. 128 ≤ b) bs

module _ (file rest : List ℕ) where
  -- as many groups as are allowed, and each has another behind it
  pub in_long : (bs : List ℕ) (at : ℕ) → Followed bs → drop at file ≡ bs ++ rest → read_in (length bs) file at ≡ fault
  in_long [] at h e = now_none zero file at refl
  in_long (b ∷ bs) at h e =
      let p = head_at file at b (bs ++ rest) e in
      in_more (length bs) file at p.inside (omega (arith, p.here, h.0)) ∙ ap (longer (get_or file at 0)) (in_long bs (at + 1) h.1 p.next)

  pub number_long : (bs : List ℕ) (at : ℕ) → length bs ≡ most_groups → Followed bs → drop at file ≡ bs ++ rest → read_number file at ≡ fault
  number_long bs at l h e = sym (number_in file at) ∙ ap (λ (k : ℕ). read_in k file at) (sym l) ∙ in_long bs at h e

  -- "shortest form": a last group of zero behind others
  zero_last : (k b at : ℕ) → drop at file ≡ 0 ∷ rest → longer b (read_in k file at) ≡ fault
  zero_last zero b at e = ap (longer b) (now_none zero file at refl)
  zero_last (suc k) b at e =
      let p = head_at file at 0 rest e in
      ap (longer b) (in_one k file at p.inside (omega (arith, p.here))) ∙ longer_zero b (get_or file at 0) (at + 1) p.here

  zero_behind : (bs : List ℕ) (b k at : ℕ) → Followed bs → drop at file ≡ bs ++ (0 ∷ rest) → longer b (read_in k file at) ≡ fault
  zero_behind [] b k at h e = zero_last k b at e
  zero_behind (c ∷ bs) b zero at h e = ap (longer b) (now_none zero file at refl)
  zero_behind (c ∷ bs) b (suc k) at h e =
      let p = head_at file at c (bs ++ (0 ∷ rest)) e in
      ap (longer b)
      (in_more k file at p.inside (omega (arith, p.here, h.0)) ∙ zero_behind bs (get_or file at 0) k (at + 1) h.1 p.next)

  pub number_zero : (b : ℕ) (bs : List ℕ) (at : ℕ) → Followed (b ∷ bs) → drop at file ≡ b ∷ (bs ++ (0 ∷ rest)) → read_number file at ≡ fault
  number_zero b bs at h e =
      let p = head_at file at b (bs ++ (0 ∷ rest)) e in
      number_more file at p.inside (omega (arith, p.here, h.0)) ∙ zero_behind bs (get_or file at 0) (most_groups - 1) (at + 1) h.1 p.next

-- ── what reads with at most k groups reads alike with more ──
longer_wider :
    (b : ℕ) (r s : Read ℕ) → ((v e : ℕ) → r ≡ got v e → s ≡ got v e) → (v e : ℕ) → longer b r ≡ got v e → longer b s ≡ got v e
longer_wider b (got w d) s h v e q = ap (longer b) (h w d refl) ∙ q
longer_wider b fault s h v e q = clash (cc)

pub in_wider : (file : List ℕ) (k j : ℕ) → k ≤ j → (at v e : ℕ) → read_in k file at ≡ got v e → read_in j file at ≡ got v e
unfolding read_in
in_wider file zero j l at v e h = clash (cc)
in_wider file (suc k) zero l at v e h = absurd (omega arith)
in_wider file (suc k) (suc j) l at v e h =
    cut_lt _ _ _ at (length file) h
    (λ inside h. cut_lt _ _ _ (get_or file at 0) 128 h
    (λ one h. in_one j file at inside one ∙ h)
    (λ more h. in_more j file at inside more
    ∙ longer_wider (get_or file at 0) (read_in k file (at + 1)) (read_in j file (at + 1)) (in_wider file k j (omega arith) (at + 1)) v e h))
    (λ out h. clash (cc))

-- ── what is written reads back ──
module _ (n at : ℕ) (file rest : List ℕ) (e : drop at file ≡ groups n ++ rest) where
  one_back : (k : ℕ) → n < 128 → read_in (suc k) file at ≡ got n (at + length (groups n))
  one_back k h =
      let g = groups_one n h in
      let p = head_at file at n rest (e ∙ ap (λ (q : List ℕ). q ++ rest) g) in
      in_one k file at p.inside (rw p.here h) ∙ ap₂ got p.here (rw g)

  more_back :
      (k : ℕ) → 128 ≤ n
      → (drop (at + 1) file ≡ groups (n / 128) ++ rest → read_in k file (at + 1) ≡ got (n / 128) (at + 1 + length (groups (n / 128))))
      → read_in (suc k) file at ≡ got n (at + length (groups n))
  more_back k h ih =
      let g = groups_more n h in
      let p = head_at file at (128 + n % 128) (groups (n / 128) ++ rest) (e ∙ ap (λ (q : List ℕ). q ++ rest) g) in
      in_more k file at p.inside (rw p.here (omega arith))
      ∙ ap₂ longer p.here (ih p.next)
      ∙ longer_some (128 + n % 128) (n / 128) (at + 1 + length (groups (n / 128))) (omega arith)
      ∙ ap₂ got (omega arith) (rw g (omega arith))

pub in_back :
    (k n at : ℕ) (file rest : List ℕ) → n < 128 ^ suc k → drop at file ≡ groups n ++ rest
    → read_in (suc k) file at ≡ got n (at + length (groups n))
in_back zero n at file rest small e = one_back n at file rest e zero (omega (arith, pow-succ' 128 0, pow-zero 128))
in_back (suc k) n at file rest small e =
    by_size n 128
    (one_back n at file rest e (suc k))
    (λ h. more_back n at file rest e (suc k) h (λ e. in_back k (n / 128) (at + 1) file rest (omega (arith, pow-succ' 128 (suc k))) e))

pub read_back : (file : List ℕ) (at n : ℕ) (rest : List ℕ) → n < number_limit → drop at file ≡ groups n ++ rest → read_number file at ≡ got n
    (at + length (groups n))
unfolding read_number number_limit
read_back file at n rest small e = in_back (most_groups - 1) n at file rest small e

-- reading where a number was written
pub read_written :
    (l : List ℕ) (at n : ℕ) → n < number_limit → at + length (groups n) ≤ length l
    → read_number (splice l at (groups n)) at ≡ got n (at + length (groups n))
read_written l at n small room = read_back (splice l at (groups n)) at n _ small (part_splice l at (groups n) room)

-- ── what reads is the groups of its value ──
pub record Written (k : ℕ) (file : List ℕ) (at v e : ℕ) : Type 0 where
  pub small : v < 128 ^ k
  pub stands : Stands file at (groups v) e

module _ (file : List ℕ) (bytes : Bytes file) where
  one_form : (k at : ℕ) → at < length file → get_or file at 0 < 128 → Written (suc k) file at (get_or file at 0) (at + 1)
  one_form k at inside h =
      let g = groups_one (get_or file at 0) h in
      record {
        small = omega (arith, pow-succ' 128 k, one-le-pow k 128 (omega arith));
        stands = record { ends = rw g; there = rw g (head_of file at inside) };
      }

  more_form :
      (k at v e : ℕ) → at < length file → 128 ≤ get_or file at 0 → (v ≡ 0 → ⊥) → Written k file (at + 1) v e
      → Written (suc k) file at (get_or file at 0 - 128 + 128 * v) e
  more_form k at v e inside h some w =
      let b : get_or file at 0 < 256 = bytes at in
      let n : ℕ = get_or file at 0 - 128 + 128 * v in
      let l : 128 ≤ n = omega arith in
      let d : n / 128 ≡ v = omega arith in
      let m : 128 + n % 128 ≡ get_or file at 0 = omega arith in
      let g : groups n ≡ get_or file at 0 ∷ groups v = groups_more n l ∙ ap₂ (λ (x y : ℕ). x ∷ groups y) m d in
      record {
        small = omega (arith, w.small, pow-succ' 128 k);
        stands = record {
          ends = rw g (omega (arith, w.stands.ends));
          there = rw g (head_of file at inside ∙ ap (λ (r : List ℕ). get_or file at 0 ∷ r) w.stands.there);
        };
      }

  same : {k at v e v' e' : ℕ} → Written k file at v e → got v e ≡ got v' e' → Written k file at v' e'
  same {k} {at} {v} {e} {v'} {e'} w p =
      let q : v ≡ v' = cc in
      let r : e ≡ e' = cc in
      subst₂ (Written k file at) q r w

  cut_longer :
      {C : Type 0} {v e : ℕ} (b : ℕ) (r : Read ℕ) → longer b r ≡ got v e
      → ((w : ℕ) → r ≡ got w e → (w ≡ 0 → ⊥) → b - 128 + 128 * w ≡ v → C) → C
  cut_longer {C} {v} {e} b (got w d) h k =
      cut_eq _ _ _ w 0 h (λ z h. clash (cc)) (λ z h. k w (ap (got w) (cc)) z (cc))
  cut_longer b fault h k = clash (cc)

  pub in_form : (k at v e : ℕ) → read_in k file at ≡ got v e → Written k file at v e
  unfolding read_in
  in_form zero at v e h = clash (cc)
  in_form (suc k) at v e h =
      cut_lt _ _ _ at (length file) h
      (λ inside h. cut_lt _ _ _ (get_or file at 0) 128 h
      (λ l h. same (one_form k at inside l) h)
      (λ l h. cut_longer (get_or file at 0) (read_in k file (at + 1)) h
      (λ w r z q. subst (λ (x : ℕ). Written (suc k) file at x e) q (more_form k at w e inside l z (in_form k (at + 1) w e r)))))
      (λ out h. clash (cc))

  pub read_form : (at v e : ℕ) → read_number file at ≡ got v e → (v < number_limit) × Stands file at (groups v) e
  unfolding read_number number_limit
  read_form at v e h = let w = in_form most_groups at v e h in (w.small, w.stands)

  -- a number of at most k groups is one below 128 ^ k, and reads so
  pub few_groups : (k : ℕ) → k < most_groups → (at v e : ℕ) → (read_in (suc k) file at ≡ got v e) ↔ ((read_number file at ≡ got v e) × (v < 128 ^ suc k))
  few_groups k l at v e = (
    (λ h. (sym (number_in file at) ∙ in_wider file (suc k) most_groups (omega arith) at v e h, (in_form (suc k) at v e h).small)),
    (λ (h, small).
        let s = (read_form at v e h).1 in
        in_back k v at file (drop e file) small s.there ∙ ap (got v) (sym s.ends)),
  )

-- ── below a bound, case by case ──
module _ (file : List ℕ) (n at : ℕ) where
  pub below_yes : {v e : ℕ} → read_number file at ≡ got v e → v < n → below file n at ≡ got v e
  unfolding below
  below_yes {v} {e} h l = then_got (read_number file at) _ h ∙ simp (lt-ltb v n l)

  pub below_no : {v e : ℕ} → read_number file at ≡ got v e → n ≤ v → below file n at ≡ fault
  unfolding below
  below_no {v} {e} h l = then_got (read_number file at) _ h ∙ simp (le-ltb v n l)

  pub below_none : read_number file at ≡ fault → below file n at ≡ fault
  unfolding below
  below_none h = then_fault (read_number file at) _ h

  -- a number read is in the file
  pub record Inside (v e : ℕ) : Type 0 where
    pub small : v < n
    pub range : v < number_limit
    pub stands : Stands file at (groups v) e
    pub after : at < e
    pub within : e ≤ length file

  pub below_inside : (bytes : Bytes file) (v e : ℕ) → below file n at ≡ got v e → Inside v e
  unfolding below
  below_inside bytes v e h =
      cut_got (read_number file at) _ h (λ w d r h.
      cut_lt _ _ _ w n h
      (λ l h. let a : w ≡ v = cc in
      let b : d ≡ e = cc in
      let f = read_form file bytes at v e (r ∙ ap₂ got a b) in
      record {
        small = omega arith;
        range = f.0;
        stands = f.1;
        after = omega (arith, f.1.ends, groups_some v);
        within = stands_within f.1 (groups_some v);
      })
      (λ l h. clash (cc)))

  -- what is written reads back
  pub below_back : (v : ℕ) (rest : List ℕ) → v < n → v < number_limit → drop at file ≡ groups v ++ rest → below file n at ≡ got v (at + length (groups v))
  below_back v rest l small there = below_yes (read_back file at v rest small there) l
