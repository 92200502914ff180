-- The two sides of a product, and the entries of a table that stand on one.
use Rattle.std.specs.Prelude.{ℕ, zero, suc, ◌+◌, ◌≤◌, ◌<◌, ◌≡◌, Bool, true, false, List, length, ltb, ℤ, pos, negsuc}
use Rattle.std.proofs.Math.Path.{refl, sym, ap}
use Rattle.std.proofs.Common.{◌∙◌}
use Rattle.std.proofs.Math.Decide.{dec_lt}
use native.Mathlib.Omega.{arith}
use borrow.Author.Tests.{lt-ltb, le-ltb}
use Rattle.octets.specs.Head.{Stands}
use Rattle.term.specs.Term.{Term, Terms, encode}
use Rattle.message.specs.Product.{Exps, empty, part, times, ups}
use Rattle.message.specs.Parts.{neg}
use Rattle.message.specs.Gather.{any}
use Rattle.factors.specs.Mass.{size}
use Rattle.factors.specs.declared.Entry.{Entry}
use Rattle.factors.specs.Rows.{entry, power_of, Rows}
use Rattle.product.specs.Side.{rise, side, Next}

pub side_ups : (l : Exps) → side false l ≡ ups l
unfolding side
side_ups empty = refl
side_ups (part t (pos k) l) = ap (times k t) (side_ups l)
side_ups (part t (negsuc k) l) = side_ups l

pub side_downs : (l : Exps) → side true l ≡ ups (neg l)
unfolding side
side_downs empty = refl
side_downs (part t (pos zero) l) = side_downs l
side_downs (part t (pos (suc k)) l) = side_downs l
side_downs (part t (negsuc k) l) = ap (times (suc k) t) (side_downs l)

-- ── in a table ──
module _ (src : List ℕ) (T : List Entry) (m : Bool) where
  -- the entries from i on have the factors of l on the side
  pub record From (i : ℕ) (l : Exps) : Type 0 where
    pub rest : Exps
    pub rows : Rows src T i rest
    pub count : i + size rest ≡ length T
    pub same : side m l ≡ side m rest

  -- entries that do not stand on the side are passed over
  pub from_next :
      (l : Exps) (i r : ℕ) → i ≤ r → r ≤ length T → ((j : ℕ) → i ≤ j → j < r → rise m (power_of T j) ≡ 0) → Rows src T i l
      → i + size l ≡ length T → From r l
  unfolding Rows size side
  from_next empty i r f w Z R c = record { rest = empty; rows = tt; count = omega arith; same = refl }
  from_next (part t k l) i r f w Z R c = elim (dec_lt i r) [
    | yes p ↦
        (let N = from_next l (i + 1) r (omega arith) w (λ j h g. Z j (omega arith) g) R.2 (omega arith) in
        let z : rise m k ≡ 0 = ap (rise m) (sym R.1) ∙ Z i (omega arith) p in
        record { rest = N.rest; rows = N.rows; count = N.count; same = ap (λ (j : ℕ). times j t (side m l)) z ∙ N.same })
    | no p ↦ (let z : i ≡ r = omega arith in record { rest = part t k l; rows = rw z at R; count = omega arith; same = refl })
  ]

  -- the entry at i, and those behind it
  pub record EntryAt (i : ℕ) (l : Exps) : Type 0 where
    pub t : Term
    pub there : Stands src (entry T i).start (encode t) (entry T i).end
    pub others : Exps
    pub rows : Rows src T (i + 1) others
    pub count : i + 1 + size others ≡ length T
    pub is : side m l ≡ times (rise m (power_of T i)) t (side m others)

  pub entry_at : (i : ℕ) (l : Exps) → i < length T → Rows src T i l → i + size l ≡ length T → EntryAt i l
  unfolding Rows size side
  entry_at i empty h R c = absurd (omega arith)
  entry_at i (part t k l) h R c =
      record { t = t; there = R.0; others = l; rows = R.2; count = omega arith; is = ap (λ (j : ℤ). times (rise m j) t (side m l)) (sym R.1) }

  any_times : (c : ℕ) (t : Term) (us : Terms) → 0 < c → any (times c t us) ≡ true
  any_times zero t us h = absurd (omega arith)
  any_times (suc c) t us h = refl

  -- whether an entry is left
  more_is :
      (j : ℕ) (l : Exps) → (j < length T → 0 < rise m (power_of T j)) → j ≤ length T → Rows src T j l → j + size l ≡ length T
      → ltb j (length T) ≡ any (side m l)
  unfolding size side
  more_is j empty g w R c = le-ltb j (length T) (omega arith)
  more_is j (part t k l) g w R c =
      let X = entry_at j (part t k l) (omega arith) R c in
      lt-ltb j (length T) (omega arith) ∙ sym (ap any X.is ∙ any_times _ X.t (side m X.others) (g (omega arith)))

  -- from the next that stands on the side
  pub after_next : (l : Exps) (i r : ℕ) → Next T i m r → Rows src T i l → i + size l ≡ length T → From r l × (ltb r (length T) ≡ any (side m l))
  after_next l i r N R c =
      let F = from_next l i r N.from N.within N.none R c in
      (F, more_is r F.rest N.here N.within F.rows F.count ∙ ap any (sym F.same))
