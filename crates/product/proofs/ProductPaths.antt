-- What `write_product` and `multiply` ask and promise.
use Prim.Native.Nat.{ℕ, ◌+◌, ◌-◌, ◌≤◌, ◌<◌}
use mathlib.Core.Path.{◌≡◌, refl, sym, ap, ap₂, ◌∙◌}
use mathlib.Core.Bool.{true, false}
use mathlib.Core.List.{List, []}
use native.Mathlib.Omega.{arith}
use lib.ListN.{length, take, set, length-append}
use lib.Seq.{length-take-le}
use Rattle.term.specs.Sizes.{term_room}
use Rattle.lists.specs.Asks.{Asks, Asks₂, Promises, Promises₂}
use Rattle.octets.specs.Splice.{splice}
use Rattle.octets.specs.Splice.Prefix.{Wrote, widen, wrote_one}
use Rattle.term.specs.Term.{Term, Terms, nil, ◌&◌, encode, encodes}
use Rattle.term.specs.Arity.{arity}
use Rattle.message.specs.Product.{empty, Exps}
use Rattle.message.specs.Gather.{gather, multiplied, pours}
use Rattle.factors.specs.declared.Filled.{Filled}
use Rattle.factors.specs.Mass.{size, mass}
use Rattle.factors.specs.Mass.Laws.{mass_pours, size_mass}
use Rattle.factors.specs.declared.Entry.{Entry}
use Rattle.factors.specs.Rows.{Rows}
use Rattle.factors.specs.Rows.Laws.{table_front}
use Rattle.factors.specs.Laid.{OneAt}
use Rattle.factors.specs.Laid.Laws.{one_after, one_within, laid_one}
use Rattle.factors.specs.Asked.{Room, Collect, Collected}
use Rattle.product.specs.Writing.{wrote_same, copied, wrote_over, bytes_in, written_part, stands_front}
use Rattle.product.specs.Chain.{sides, written}
use Rattle.product.specs.Chain.Laws.{written_none, written_some, written_short}
use Rattle.product.specs.Side.{side}
use Rattle.product.specs.Side.Laws.{side_ups, side_downs}
use Rattle.product.specs.Length.{product_short}
use Rattle.product.specs.Asked.{Whole}
use Rattle.product.specs.Inner.{Both, Prod}

-- ── write_product ──
both_sides : (ts : Terms) → sides (side false (gather ts)) (side true (gather ts)) ≡ written ts
unfolding written
both_sides ts = ap₂ sides (side_ups (gather ts)) (side_downs (gather ts))

module _ (arities out : List ℕ) (at k e : ℕ) (T : List Entry) (R : Room T) where
  front_long : (ts : Terms) → Prod arities out at k e ts → length (take e out) ≡ e
  front_long ts X = length-take-le e out X.inside

  -- the factors as they stand in the front of the output
  start : (ts : Terms) → Prod arities out at k e ts → Collect arities (take e out) T 0 at k empty ts
  unfolding Rows size mass
  start ts X = record {
    table = record { rows = tt; many = refl };
    asc = tt;
    room = R;
    few = omega (arith, X.few);
    laid = record {
      formed = X.laid.formed;
      range = X.laid.range;
      there = rw (sym X.ends) (stands_front X.inside (rw X.ends X.laid.there));
    };
    many = X.many;
    inside = omega (arith, front_long ts X, X.ends);
    short = omega (arith, front_long ts X, X.short);
  }

  pub collect_asks : Asks (Prod arities out at k e) → Asks₂ (Collect arities (take e out) T 0 at k)
  collect_asks J = (empty, J.0, start J.0 J.1)

  module _ (T₁ : List Entry) (r : Filled) (D : Promises₂ (Collect arities (take e out) T 0 at k)
      (λ (l : Exps) (ts : Terms). Collected (take e out) T₁ (at + length (encodes ts)) r (pours false ts l)))
      (lT : length T₁ ≡ length T) where
    -- they are no more than the table holds
    pub few : Asks (Prod arities out at k e) → r.n ≤ length T₁
    unfolding mass
    few (ts, X) =
        let C = (D empty ts (start ts X)).table in
        omega (arith, C.many, size_mass (gather ts), mass_pours false ts empty, X.few, R, lT)

    held : (ts : Terms) → Prod arities out at k e ts → Both out (take r.n T₁) e (gather ts)
    unfolding mass
    held ts X = record {
      ready = record {
        src = take e out;
        front = rw (front_long ts X);
        behind = omega (arith, front_long ts X);
        table = table_front (take e out) T₁ r.n _ (few (ts, X)) (D empty ts (start ts X)).table;
        few = omega (arith, mass_pours false ts empty, X.few);
      };
      fits = rw (both_sides ts) X.fits;
    }

    pub table_asks : Asks (Prod arities out at k e) → Asks (Both out (take r.n T₁) e)
    table_asks J = (_, held J.0 J.1)

    pub table_wrote : (out' : List ℕ) (i : ℕ) → Promises (Both out (take r.n T₁) e)
        (λ (l : Exps). Wrote i out e out' i (sides (side false l) (side true l))) → Promises (Prod arities out at k e)
        (λ (ts : Terms). Wrote i out e out' i (written ts))
    table_wrote out' i B ts X = wrote_same (both_sides ts) (B _ (held ts X))

-- ── multiply ──
module _ (arities out : List ℕ) (o e : ℕ) where
  module _ (t : Term) (M : Whole arities out o e t) where
    pub one : OneAt arities out o e t
    one = record { formed = M.formed; range = M.range; there = M.stands }

    short : length (encode (multiplied (t & nil))) ≤ length (encode t)
    short = product_short (arity arities) M.group t M.formed

    prod : Prod arities out o 1 e (t & nil)
    prod = record {
      laid = laid_one one;
      ends = omega (arith, M.stands.ends, length-append (encode t) []);
      many = refl;
      inside = one_within one;
      short = omega (arith, M.room, M.short);
      few = omega (arith, M.few);
      fits = omega (arith, written_short (t & nil), short, M.small, M.room);
    }

  pub multiply_asks : Asks (Whole arities out o e) → Asks (Prod arities out o 1 e)
  multiply_asks J = (_, prod J.0 J.1)

  pub multiply_inside : Asks (Whole arities out o e) → (o < e) × (e ≤ length out)
  multiply_inside J = let O = one J.0 J.1 in (one_after O, one_within O)

  module _ (out₁ : List ℕ) (n : ℕ) (D : Promises (Prod arities out o 1 e) (λ (ts : Terms). Wrote n out e out₁ n (written ts)))
      (el : length out₁ ≡ length out) where
    wrote : (t : Term) (M : Whole arities out o e t) → Wrote n out e out₁ n (written (t & nil))
    wrote t M = D (t & nil) (prod t M)

    -- what lies between e and e + term_room is scratch
    over :
        (t : Term) (M : Whole arities out o e t) (out₂ : List ℕ) (r : ℕ) (q : List ℕ) → Wrote (e + term_room) out₁ o out₂ r q
        → Wrote (e + term_room) out o out₂ r q
    over t M out₂ r q g =
        let O = one t M in
        wrote_over (omega (arith, one_after O)) (one_within O)
        (widen (e + term_room) (omega (arith, (wrote t M).ends, written_short (t & nil), short t M, M.small)) (wrote t M)) g

    pub multiplied_none : n ≡ e → Promises (Whole arities out o e)
        (λ (t : Term). Wrote (e + term_room) out o (set out₁ o 3) (o + 1) (encode (multiplied (t & nil))))
    multiplied_none h t M =
        let N = written_none (t & nil) (omega (arith, (wrote t M).ends)) in
        let O = one t M in
        wrote_same (sym N.bytes)
        (over t M _ _ _ (wrote_one (e + term_room) o 3 out₁ (omega (arith, one_after O)) (omega (arith, one_after O, one_within O))))

    pub multiply_end : Asks (Whole arities out o e) → (e ≤ n) × (n ≤ length out₁)
    multiply_end J = let w = wrote J.0 J.1 in (omega (arith, w.ends), omega (arith, w.ends, (prod J.0 J.1).fits))

    module _ (h : n ≡ e → ⊥) where
      pub multiplied_some :
          (out₂ : List ℕ) (r : ℕ) → r ≡ o + (n - e) → out₂ ≡ splice out₁ o (bytes_in out₁ e n) → Promises (Whole arities out o e)
          (λ (t : Term). Wrote (e + term_room) out o out₂ r (encode (multiplied (t & nil))))
      multiplied_some out₂ r a b t M =
          let w = wrote t M in
          let O = one t M in
          let q = written (t & nil) in
          let p : bytes_in out₁ e n ≡ q = written_part (one_within O) w in
          wrote_same (sym (written_some (t & nil) (λ z. h (omega (arith, w.ends)))).bytes)
          (over t M out₂ r q
          (copied (e + term_room) out₁ out₂ q o r (omega (arith, one_after O, (prod t M).fits))
          (omega (arith, one_after O, written_short (t & nil), short t M, M.small))
          (omega (arith, w.ends)) (b ∙ ap (splice out₁ o) p)))
