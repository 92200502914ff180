-- What `find_place`, `hinted`, `is_behind`, `enter`, `append` and `enter_at` ask and promise.
use Prim.Native.Nat.{ℕ, ◌+◌, ◌-◌, ◌≤◌, ◌<◌}
use mathlib.Core.Path.{◌≡◌, refl, sym, ap, ap₂, ◌∙◌, subst}
use mathlib.Core.Bool.{Bool, true, false}
use mathlib.Core.List.{List, [], ◌∷◌}
use native.Mathlib.Decide.{dec_lt}
use native.Mathlib.Omega.{arith}
use lib.ListN.{length, take, drop, get_or, set, length-drop}
use lib.Seq.{get_or-set_same, get_or-set_other, length-take-le}
use borrow.Author.Tests.{lt-ltb, le-ltb, eqb-false}
use lib.Dec.{eqb}
use lib.IntN.{ℤ, ◌+ℤ◌, nat_abs}
use mir.Syntax.{w64}
use mir.Val.{SFits, to_z, of_z}
use Rattle.term.specs.Sizes.{most_symbols}
use Rattle.lists.specs.Asks.{Asks₂, Promises₂}
use Rattle.lists.specs.Choice.{clash}
use Rattle.octets.specs.Compare.{compare_bytes, flipped}
use Rattle.octets.specs.Compare.Laws.{compare_flip, compare_refl, compare_same, compare_trans}
use Rattle.octets.specs.Limits.{longest}
use Rattle.octets.specs.Head.{Bytes, Stands, stands_within, stands_part}
use Rattle.std.specs.declared.cmp.Ordering.{Ordering}
use Rattle.std.specs.declared.cmp.Ordering.TheVariants.{Less, Equal, Greater}
use Rattle.term.specs.Term.{Term, encode}
use Rattle.term.specs.Term.Laws.{encode_some}
use Rattle.term.specs.Reader.{term, symbol_at}
use Rattle.term.specs.Walk.{bytes_of}
use Rattle.message.specs.Product.{Exps}
use Rattle.message.specs.Gather.{enter, sign}
use Rattle.factors.specs.declared.Onward.{Onward}
use Rattle.factors.specs.declared.Way.TheVariants as way
use Rattle.factors.specs.Whole.{add_abs, small_fits_wider, back_wider}
use Rattle.factors.specs.Mass.{size, mass}
use Rattle.factors.specs.Mass.Laws.{size_mass, sign_abs}
use Rattle.std.specs.Prelude.{Result, Ok, Err}
use Rattle.factors.specs.declared.Entry.{Entry}
use Rattle.factors.specs.Rows.{entry, power_of, Table, Rows, Bounds, Rising, bytes_at, order_at, meeting, Found, FoundAt}
use Rattle.factors.specs.Rows.Laws.{part_two, rows_bounds, rows_rising, rows_abs, Opened, Raised, rows_in, size_in_lem, rows_same, size_same, front_as, table_front}
use Rattle.std.specs.List.{CopiedTo, SameBelow}
use Rattle.factors.specs.Laid.Laws.{one_bytes, one_within, some_symbol}
use Rattle.factors.specs.Way.{way_of}
use Rattle.factors.specs.Way.Laws.{way_end}
use Rattle.factors.specs.Asked.{Enter, OneTerm, Entered}

-- ── finding a place ──
-- the place is lo at least and hi at most: the entries below lo come before these bytes, the one at hi, if there is one, behind them
pub record Between (key src : List ℕ) (T : List Entry) (lo hi : ℕ) : Type 0 where
  pub low : lo ≤ hi
  pub high : hi ≤ length T
  pub before : (k : ℕ) → k < lo → order_at key src T k ≡ Greater
  pub behind : hi < length T → order_at key src T hi ≡ Less

-- what is left of that after a look at an entry
pub record Narrowed (key src : List ℕ) (T : List Entry) (lo hi lo₁ hi₁ : ℕ) : Type 0 where
  pub between : Between key src T lo₁ hi₁
  pub fewer : hi₁ - lo₁ < hi - lo

module _ (key src : List ℕ) (T : List Entry) where
  pub between_all : Between key src T 0 (length T)
  between_all = record { low = omega arith; high = omega arith; before = λ k h. absurd (omega arith); behind = λ h. absurd (omega arith) }

  pub found_between : (lo hi : ℕ) → hi ≤ lo → Between key src T lo hi → Found key src T lo false
  found_between lo hi h B =
      let z : lo ≡ hi = omega (arith, B.low) in
      record { within = omega (arith, B.high); before = B.before; here = rw z B.behind; end = λ e. clash (cc) }

  module _ (R : Rising src T) (j : ℕ) (l : j < length T) (o : Ordering) (e : o ≡ order_at key src T j) where
    -- the entries below one that comes before these bytes come before them
    below_greater : o ≡ Greater → (k : ℕ) → k < j → order_at key src T k ≡ Greater
    below_greater g k h =
        let b : compare_bytes (bytes_at src T j) key ≡ Less = compare_flip key (bytes_at src T j) ∙ ap flipped (sym e ∙ g) in
        compare_flip (bytes_at src T k) key ∙ ap flipped (compare_trans (bytes_at src T k) (bytes_at src T j) key (R k j h l) b)

    below_same : o ≡ Equal → (k : ℕ) → k < j → order_at key src T k ≡ Greater
    below_same g k h =
        let s : key ≡ bytes_at src T j = compare_same key (bytes_at src T j) (sym e ∙ g) in
        ap (λ (x : List ℕ). compare_bytes x (bytes_at src T k)) s ∙ compare_flip (bytes_at src T k) (bytes_at src T j) ∙ ap flipped (R k j h l)

    pub found_same : o ≡ Equal → Found key src T j true
    found_same g = record { within = omega arith; before = below_same g; here = λ h. sym e ∙ g; end = λ z. l }

    module _ (lo hi : ℕ) (B : Between key src T lo hi) (a : lo ≤ j) (b : j < hi) where
      pub narrowed_less : o ≡ Less → (lo₁ hi₁ : ℕ) → lo₁ ≡ lo → hi₁ ≡ j → Narrowed key src T lo hi lo₁ hi₁
      narrowed_less g lo₁ hi₁ p q = record {
        between = rw (p, q) (record { low = a; high = omega arith; before = B.before; behind = λ h. sym e ∙ g });
        fewer = omega arith;
      }

      pub narrowed_greater : o ≡ Greater → (lo₁ hi₁ : ℕ) → lo₁ ≡ j + 1 → hi₁ ≡ hi → Narrowed key src T lo hi lo₁ hi₁
      narrowed_greater g lo₁ hi₁ p q = record {
        between = rw (p, q) (record {
          low = omega arith;
          high = B.high;
          before = λ k h. elim (dec_lt k j) [ yes y ↦ below_greater g k y | no y ↦ (let z : k ≡ j = omega arith in rw z (sym e ∙ g)) ];
          behind = B.behind;
        });
        fewer = omega arith;
      }

-- from an answer
module _ {key src : List ℕ} {T : List Entry} {r : Result ℕ ℕ} where
  pub found_ok : (i : ℕ) → r ≡ Ok i → FoundAt key src T r → Found key src T i true
  found_ok i e f = rw e at f

  pub found_err : (i : ℕ) → r ≡ Err i → FoundAt key src T r → Found key src T i false
  found_err i e f = rw e at f

-- ── the hinted entry ──
-- two parts of two bytes each
module _ (s : List ℕ) (a e x y : ℕ) (k : e - a ≡ 2) (j : y - x ≡ 2) (h : e ≤ length s) (g : y ≤ length s) where
  two_same :
      get_or s x 0 ≡ get_or s a 0 → get_or s (x + 1) 0 ≡ get_or s (a + 1) 0 → compare_bytes (take (e - a) (drop a s)) (take (y - x) (drop x s)) ≡ Equal
  two_same p q =
      let z : take (e - a) (drop a s) ≡ take (y - x) (drop x s) =
      part_two s a e k (omega arith) ∙ ap₂ (λ (u v : ℕ). u ∷ v ∷ []) (sym p) (sym q) ∙ sym (part_two s x y j (omega arith)) in
      ap (compare_bytes (take (e - a) (drop a s))) (sym z) ∙ compare_refl (take (e - a) (drop a s))

pub same_leaf :
    (src : List ℕ) (T : List Entry) (a e h : ℕ) → Bounds src T → Rising src T → e ≤ length src → h < length T → (entry T h).end - (entry T h).start ≡ 2
    → e - a ≡ 2 → get_or src (entry T h).start 0 ≡ get_or src a 0 → get_or src ((entry T h).start + 1) 0 ≡ get_or src (a + 1) 0
    → Found (take (e - a) (drop a src)) src T h true
same_leaf src T a e h B R i l j k p q =
    found_same (take (e - a) (drop a src)) src T R h l Equal
    (sym (two_same src a e (entry T h).start (entry T h).end k j i (B h l).1 p q)) refl

-- ── behind the last entry ──
-- two parts of two bytes each
module _ (s : List ℕ) (a e x y : ℕ) (k : e - a ≡ 2) (j : y - x ≡ 2) (h : e ≤ length s) (g : y ≤ length s) where
  two_parts :
      (o : Ordering) → compare_bytes (get_or s a 0 ∷ get_or s (a + 1) 0 ∷ []) (get_or s x 0 ∷ get_or s (x + 1) 0 ∷ []) ≡ o
      → compare_bytes (take (e - a) (drop a s)) (take (y - x) (drop x s)) ≡ o
  two_parts o z = ap₂ compare_bytes (part_two s a e k (omega arith)) (part_two s x y j (omega arith)) ∙ z

  first_greater : get_or s x 0 < get_or s a 0 → compare_bytes (take (e - a) (drop a s)) (take (y - x) (drop x s)) ≡ Greater
  first_greater l =
      two_parts Greater (simp (le-ltb (get_or s a 0) (get_or s x 0) (omega arith), lt-ltb (get_or s x 0) (get_or s a 0) l))

  second_greater :
      get_or s x 0 ≡ get_or s a 0 → get_or s (x + 1) 0 < get_or s (a + 1) 0
      → compare_bytes (take (e - a) (drop a s)) (take (y - x) (drop x s)) ≡ Greater
  second_greater q l =
      two_parts Greater
      (simp (
        le-ltb (get_or s a 0) (get_or s x 0) (omega arith),
        le-ltb (get_or s x 0) (get_or s a 0) (omega arith),
        le-ltb (get_or s (a + 1) 0) (get_or s (x + 1) 0) (omega arith),
        lt-ltb (get_or s (x + 1) 0) (get_or s (a + 1) 0) l,
      ))

module _ (src : List ℕ) (T : List Entry) (a e : ℕ) where
  abbrev leaf_bytes_lem : List ℕ
  leaf_bytes_lem = take (e - a) (drop a src)

  pub behind_none : length T ≡ 0 → Found leaf_bytes_lem src T (length T) false
  behind_none z =
      record { within = omega arith; before = λ k h. absurd (omega arith); here = λ h. absurd (omega arith); end = λ q. clash (cc) }

  module _ (B : Bounds src T) (R : Rising src T) (i : e ≤ length src) (some : false ≡ eqb (length T) 0)
      (j : (entry T (length T - 1)).end - (entry T (length T - 1)).start ≡ 2) (k : e - a ≡ 2) where
    abbrev last : ℕ
    last = length T - 1

    before_end : last < length T
    before_end = let z = eqb-false (length T) 0 (sym some) in omega (arith, z)

    behind_last : order_at leaf_bytes_lem src T last ≡ Greater → Found leaf_bytes_lem src T (length T) false
    behind_last g =
        let l = before_end in
        found_between leaf_bytes_lem src T (length T) (length T) (omega arith)
        (narrowed_greater leaf_bytes_lem src T R last l Greater (sym g) 0 (length T) (between_all leaf_bytes_lem src T) (omega arith) l refl (length T) (length T) (omega arith) refl
        ).between

    pub behind_first : get_or src (entry T last).start 0 < get_or src a 0 → Found leaf_bytes_lem src T (length T) false
    behind_first l =
        behind_last (first_greater src a e (entry T last).start (entry T last).end k j i (B last before_end).1 l)

    pub behind_second : get_or src (entry T last).start 0 ≡ get_or src a 0 → get_or src ((entry T last).start + 1) 0 < get_or src (a + 1) 0
        → Found leaf_bytes_lem src T (length T) false
    behind_second q l =
        behind_last (second_greater src a e (entry T last).start (entry T last).end k j i (B last before_end).1 q l)

-- ── entering ──
module _ (T : List Entry) (n : ℕ) where
  -- an entry put in at i, those behind it moved up
  pub opened :
      (T₁ : List Entry) (i : ℕ) (x : Entry) → i ≤ n → i < length T₁ → CopiedTo T T₁ i (i + 1) (n - i) → SameBelow T T₁ (i + 1)
      → Opened T (set T₁ i x) i n x
  opened T₁ i x w h C S = record {
    here = get_or-set_same T₁ i x _ h;
    below = λ j l. get_or-set_other T₁ i j x _ (λ z. omega arith) ∙ S j _ (omega arith);
    above = λ j l g.
        let q : i + (j + 1 - (i + 1)) ≡ j = omega arith in
        get_or-set_other T₁ i (j + 1) x _ (λ z. omega arith) ∙ C (j + 1) _ (omega arith) (omega arith) ∙ ap (entry T) q;
  }

  -- an entry's exponent changed
  pub raised : (i : ℕ) (v : ℤ) → i < length T → Raised T (set T i (record { start = (entry T i).start; end = (entry T i).end; power = v })) i n v
  raised i v h =
      let e = get_or-set_same T i (record { start = (entry T i).start; end = (entry T i).end; power = v }) _ h in
      record {
        start = ap (λ (x : Entry). x.start) e;
        end = ap (λ (x : Entry). x.end) e;
        power = ap (λ (x : Entry). x.power) e;
        other = λ j f l. get_or-set_other T i j _ _ f;
      }

module _ (key src : List ℕ) (T : List Entry) (n a : ℕ) where
  module _ (l : Exps) (t : Term) (X : Enter key src T n a l t) where
    few : n < most_symbols
    few = omega (arith, X.few, size_mass l, X.table.many)

    front_long : length (take n T) ≡ n
    front_long = let f = few in length-take-le n T (omega (arith, X.room))

    front_rows : Rows src (take n T) 0 l
    front_rows = let f = few in (table_front src T n l (omega (arith, X.room)) X.table).rows

  pub enter_few : Asks₂ (Enter key src T n a) → n < length T
  enter_few J = let h = few J.0 J.1 J.2 in omega (arith, J.2.room)

  pub enter_front : Asks₂ (Enter key src T n a) → length (take n T) ≡ n
  enter_front J = front_long J.0 J.1 J.2

  pub enter_within : Asks₂ (Enter key src T n a) → a + length key ≤ length src
  enter_within J = stands_within J.2.there (encode_some J.1)

  -- its end is a number of 32 bits
  pub enter_fits : Asks₂ (Enter key src T n a) → a + length key < longest
  enter_fits J = omega (arith, enter_within J, J.2.short)

  pub enter_asks : Asks₂ (Enter key src T n a) → Bounds src (take n T) × Rising src (take n T)
  enter_asks J =
      let R = front_rows J.0 J.1 J.2 in
      let f = enter_front J in (
        λ j h. rows_bounds src (take n T) 0 J.0 R j (omega arith) (omega (arith, f, J.2.table.many)),
        λ i j h g. rows_rising src (take n T) 0 J.0 J.2.asc R i j (omega arith) h (omega (arith, f, J.2.table.many)),
      )

  module _ (minus : Bool) (i : ℕ) (same : Bool) (F : Found key src (take n T) i same) (u : ℤ) (eu : u ≡ sign minus) where
    -- what was found in the front
    order_as : (j : ℕ) → j < n → order_at key src T j ≡ order_at key src (take n T) j
    order_as j h =
        ap (λ (x : Entry). compare_bytes key (take (x.end - x.start) (drop x.start src))) (sym (front_as T n j h))

    module _ (J : Asks₂ (Enter key src T n a)) where
      pub place_within : i ≤ n
      place_within = let f = enter_front J in omega (arith, F.within)

      pub place_inside : same ≡ true → i < n
      place_inside h = let f = enter_front J in omega (arith, F.end h)

      earlier : (j : ℕ) → j < i → order_at key src T j ≡ Greater
      earlier j h = order_as j (omega (arith, place_within)) ∙ F.before j h

    new_back : to_z w64 (of_z w64 u) ≡ sign minus
    new_back = rw eu (back_wider (sign minus) (omega (arith, sign_abs minus)))

    -- it stands there already
    module _ (h : same ≡ true) where
      module _ (l : Exps) (t : Term) (X : Enter key src T n a l t) where
        inside : i < n
        inside = place_inside (l, t, X) h

        small : nat_abs (power_of T i) ≤ mass l
        small = let j = inside in rows_abs src T 0 l X.table.rows i (omega arith) (omega (arith, j, X.table.many))

        old_back : to_z w64 (of_z w64 (power_of T i)) ≡ power_of T i
        old_back = back_wider _ (omega (arith, small, X.few))

        sum_small : nat_abs (power_of T i +ℤ sign minus) < 2147483648
        sum_small = omega (arith, small, add_abs (power_of T i) (sign minus), sign_abs minus, X.few)

        pub row_fits : SFits w64 (to_z w64 (of_z w64 (power_of T i)) +ℤ to_z w64 (of_z w64 u))
        row_fits = rw (old_back, new_back) (small_fits_wider _ sum_small)

        row_back : to_z w64 (of_z w64 (to_z w64 (of_z w64 (power_of T i)) +ℤ to_z w64 (of_z w64 u))) ≡ power_of T i +ℤ sign minus
        row_back = rw (old_back, new_back) (back_wider _ sum_small)

        pub entered_same :
            Table src (set T i (record {
              start = (entry T i).start;
              end = (entry T i).end;
              power = to_z w64 (of_z w64 (to_z w64 (of_z w64 (power_of T i)) +ℤ to_z w64 (of_z w64 u)));
            })) n (enter t (sign minus) l)
        entered_same =
            let g = inside in
            let m = enter_few (l, t, X) in
            let here : order_at key src T i ≡ Equal = order_as i g ∙ F.here (F.end h) ∙ ap meeting h in
            let q : 0 + size l ≡ n = omega (arith, X.table.many) in
            record {
              rows = rows_same src T key n i (sign minus) t X.bytes (earlier (l, t, X)) here _ _ row_back (raised T n i _ (omega arith)) 0 l (omega arith)
                  g q X.table.rows;
              many = size_same src T key n i (sign minus) t X.bytes (earlier (l, t, X)) here 0 l (omega arith) g q X.table.rows ∙ X.table.many;
            }

    -- it is new
    module _ (h : same ≡ false) (T' : List Entry) (O : Opened T T' i n (record { start = a; end = a + length key; power = to_z w64 (of_z w64 u) })) where
      pub entered_new : (l : Exps) (t : Term) → Enter key src T n a l t → Table src T' (n + 1) (enter t (sign minus) l)
      entered_new l t X =
          let w = place_within (l, t, X) in
          let f = front_long l t X in
          let here : i < n → order_at key src T i ≡ Less = λ z. order_as i z ∙ F.here (omega arith) ∙ ap meeting h in
          let q : 0 + size l ≡ n = omega (arith, X.table.many) in
          let O' : Opened T T' i n (record { start = a; end = a + length key; power = sign minus }) =
          subst (λ (v : ℤ). Opened T T' i n (record { start = a; end = a + length key; power = v })) new_back O in
          record {
            rows = rows_in src T key n i (sign minus) t X.bytes (earlier (l, t, X)) here a (a + length key) X.there T' O' 0 l (omega arith) w q X.table.rows;
            many = size_in_lem src T key n i (sign minus) t X.bytes (earlier (l, t, X)) here 0 l (omega arith) w q X.table.rows ∙ ap (λ j. j + 1)
                X.table.many;
          }

-- ── a new last entry ──
pub appended :
    (src : List ℕ) (T : List Entry) (n a e : ℕ) (minus : Bool) (u : ℤ) → u ≡ sign minus → a ≤ e → e ≤ length src
    → Found (take (e - a) (drop a src)) src (take n T) n false → (l : Exps) (t : Term) → Enter (take (e - a) (drop a src)) src T n a l t
    → Table src (set T n (record { start = a; end = e; power = to_z w64 (of_z w64 u) })) (n + 1) (enter t (sign minus) l)
appended src T n a e minus u eu h g F l t X =
    let q : a + length (take (e - a) (drop a src)) ≡ e =
    omega (arith, length-take-le (e - a) (drop a src) (rw length-drop (omega arith))) in
    let m = enter_few (take (e - a) (drop a src)) src T n a (l, t, X) in
    subst (λ (z : ℕ). Table src (set T n (record { start = a; end = z; power = to_z w64 (of_z w64 u) })) (n + 1) (enter t (sign minus) l)) q
    (entered_new (take (e - a) (drop a src)) src T n a minus n false F u eu refl _
    (record {
      here = get_or-set_same T n _ _ m;
      below = λ j l. get_or-set_other T n j _ _ (λ z. omega arith);
      above = λ j l g. absurd (omega arith);
    }) l t X)

-- ── the term at a place ──
module _ (arities src : List ℕ) (T : List Entry) (n at : ℕ) where
  module _ (key : List ℕ) (K : (l : Exps) (t : Term) → OneTerm arities src T n at l t → key ≡ encode t) where
    entering : (l : Exps) (t : Term) → OneTerm arities src T n at l t → Enter key src T n at l t
    entering l t X =
        let k = K l t X in
        record {
          table = X.table;
          asc = X.asc;
          room = X.room;
          few = omega (arith, X.few, some_symbol t);
          bytes = k;
          there = subst (λ (j : ℕ). Stands src at (encode t) (at + j)) (ap length (sym k)) X.one.there;
          short = X.short;
        }

    pub one_asks : Asks₂ (OneTerm arities src T n at) → Asks₂ (Enter key src T n at)
    one_asks J = (J.0, J.1, entering J.0 J.1 J.2)

    pub one_short : Asks₂ (OneTerm arities src T n at) → at + length key ≤ length src
    one_short J = enter_within key src T n at (one_asks J)

    pub one_entered :
        (minus : Bool) (T' : List Entry) (m : ℕ) → Promises₂ (Enter key src T n at)
        (λ (l : Exps) (t : Term). Table src T' m (enter t (sign minus) l))
        → (r : Onward) → ((l : Exps) (t : Term) → OneTerm arities src T n at l t → r.at ≡ at + length (encode t)) → r.put.n ≡ m → r.more ≡ 0
        → Promises₂ (OneTerm arities src T n at)
        (λ (l : Exps) (t : Term). Entered src T' (at + length (encode t)) r (enter t (sign minus) l))
    one_entered minus T' m D r e₁ e₂ e₃ l t X = record { table = rw e₂ (D l t (entering l t X)); next = e₁ l t X; none = e₃ }

  -- its bytes by a walk
  module _ (bytes : Bytes src) (key : List ℕ) (E : key ≡ bytes_of (term src arities at)) where
    pub walked : (l : Exps) (t : Term) → OneTerm arities src T n at l t → key ≡ encode t
    walked l t X = E ∙ one_bytes X.one bytes

    pub walked_end : (l : Exps) (t : Term) → OneTerm arities src T n at l t → at + length key ≡ at + length (encode t)
    walked_end l t X = ap (λ (k : List ℕ). at + length k) (walked l t X)

  -- its bytes where it is a leaf
  module _ (e : ℕ) (w : way_of (symbol_at src arities at) ≡ way.Leaf e) where
    leaf_end : (l : Exps) (t : Term) → OneTerm arities src T n at l t → e ≡ at + length (encode t)
    leaf_end l t X = way_end e t X.one w

    leaf_key : (l : Exps) (t : Term) → OneTerm arities src T n at l t → take (e - at) (drop at src) ≡ encode t
    leaf_key l t X = stands_part (subst (λ (z : ℕ). Stands src at (encode t) z) (sym (leaf_end l t X)) X.one.there)

    leaf_within : Asks₂ (OneTerm arities src T n at) → (at ≤ e) × (e ≤ length src)
    leaf_within J =
        let X = J.2 in
        let z = leaf_end J.0 J.1 X in
        (omega arith, omega (arith, one_within X.one))

    pub leaf_asks :
        Asks₂ (OneTerm arities src T n at) → (at ≤ e) × (e ≤ length src) × Asks₂ (Enter (take (e - at) (drop at src)) src T n at)
    leaf_asks J = let w = leaf_within J in (w.0, w.1, one_asks _ leaf_key J)

    pub leaf_entered :
        (minus : Bool) (T' : List Entry) (m : ℕ) → Promises₂ (Enter (take (e - at) (drop at src)) src T n at)
        (λ (l : Exps) (t : Term). Table src T' m (enter t (sign minus) l))
        → (r : Onward) → r.at ≡ e → r.put.n ≡ m → r.more ≡ 0
        → Promises₂ (OneTerm arities src T n at)
        (λ (l : Exps) (t : Term). Entered src T' (at + length (encode t)) r (enter t (sign minus) l))
    leaf_entered minus T' m D r e₁ e₂ e₃ = one_entered _ leaf_key minus T' m D r (λ l t X. e₁ ∙ leaf_end l t X) e₂ e₃
