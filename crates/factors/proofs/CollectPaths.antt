-- What `one_term` and `collect` ask and promise on each path.
use Prim.Native.Nat.{ℕ, suc, ◌+◌, ◌-◌, ◌*◌, ◌≤◌, ◌<◌}
use mathlib.Core.Path.{◌≡◌, refl, sym, ap, ◌∙◌}
use mathlib.Core.Bool.{Bool, not}
use mathlib.Core.List.{List, []}
use native.Mathlib.Omega.{arith}
use lib.ListN.{length, drop, get_or, length-append}
use Rattle.term.specs.Sizes.{most_symbols}
use Rattle.lists.specs.Asks.{Asks₂, Promises₂}
use Rattle.octets.specs.Head.{stands_at}
use Rattle.term.specs.Term.{Term, Terms, nil, ◌&◌, count, encode, encodes, symbols, symbolss}
use Rattle.term.specs.Reader.{symbol_at}
use Rattle.message.specs.Product.{Exps}
use Rattle.message.specs.Gather.{pour, enter, sign, pours}
use Rattle.message.proofs.Gather.Same.{asc_pour}
use Rattle.factors.specs.declared.Entry.{Entry}
use Rattle.factors.specs.declared.Filled.{Filled}
use Rattle.factors.specs.declared.Onward.{Onward}
use Rattle.factors.specs.declared.Way.TheVariants as way
use Rattle.factors.specs.Mass.{mass}
use Rattle.factors.specs.Mass.Laws.{mass_pour}
use Rattle.factors.specs.Laid.{Laid, also}
use Rattle.factors.specs.Laid.Laws.{first_of, others_of, one_after, one_within, laid_also, also_count, also_symbols, also_bytes, count_symbols}
use Rattle.factors.specs.Way.{way_of}
use Rattle.factors.specs.Way.Laws.{GoneInto, way_on, way_turn, way_name, way_factor, also_pours, there_inside, there_mul}
use Rattle.factors.specs.Asked.{Collect, Collected, OneTerm, Entered, Gone}

-- ── one_term ──
module _ (arities src : List ℕ) (T : List Entry) (n at : ℕ) (minus : Bool) where
  -- nothing is left of it
  entered :
      {T₁ : List Entry} {r : Onward} (l : Exps) (t : Term) → OneTerm arities src T n at l t
      → Entered src T₁ (at + length (encode t)) r (pour minus t l) → Gone arities src T₁ at minus r l t
  unfolding pour
  entered {T₁} {r} l t X E = record {
    now = pour minus t l;
    rest = nil;
    table = E.table;
    asc = asc_pour minus t l X.asc;
    laid = record { formed = tt; range = tt; there = stands_at src r.at [] (drop r.at src) refl };
    many = sym E.none;
    ends = omega (arith, E.next);
    after = omega (arith, E.next, one_after X.one);
    fewer = omega (arith, mass_pour minus t l);
    same = refl;
  }

  -- ── its arguments are left ──
  pub on_gone :
      (c next : ℕ) → way_of (symbol_at src arities at) ≡ way.On c next → (r : Onward) → r.at ≡ next → r.put.n ≡ n → r.more ≡ c
      → Promises₂ (OneTerm arities src T n at) (λ (l : Exps) (t : Term). Gone arities src T at minus r l t)
  on_gone c next w r e₁ e₂ e₃ l t X =
      let I = way_on minus c next t X.one w in
      record {
        now = l;
        rest = I.args;
        table = rw e₂ X.table;
        asc = X.asc;
        laid = rw e₁ I.laid;
        many = I.many ∙ sym e₃;
        ends = omega (arith, I.ends);
        after = omega (arith, I.after);
        fewer = omega (arith, I.fewer);
        same = sym (I.same l);
      }

  -- of mul, told by its byte
  pub mul_gone :
      (c : ℕ) → c ≡ get_or arities 12 0 → get_or src at 0 ≡ 12 → (r : Onward) → r.at ≡ at + 1 → r.put.n ≡ n → r.more ≡ c
      → Promises₂ (OneTerm arities src T n at) (λ (l : Exps) (t : Term). Gone arities src T at minus r l t)
  mul_gone c q m r e₁ e₂ e₃ l t X =
      on_gone c (at + 1) (sym (there_mul arities src at (_, t, X.one) m) ∙ ap (λ (k : ℕ). way.On k (at + 1)) (sym q)) r e₁ e₂ e₃ l t X

  -- ── its arguments have the other sign ──
  module _ (c next : ℕ) (w : way_of (symbol_at src arities at) ≡ way.Turn c next) where
    into : (l : Exps) (t : Term) → OneTerm arities src T n at l t → GoneInto arities src at minus (not minus) c next t
    into l t X = way_turn minus c next t X.one w

    inner : (l : Exps) (t : Term) (X : OneTerm arities src T n at l t) → Collect arities src T n next c l (into l t X).args
    inner l t X =
        let I = into l t X in
        record {
          table = X.table;
          asc = X.asc;
          room = X.room;
          few = omega (arith, X.few, I.fewer);
          laid = I.laid;
          many = I.many;
          inside = omega (arith, one_within X.one, I.ends);
          short = X.short;
        }

    pub turn_asks : (t : ℕ) → 2 * (length src - at) ≡ t → (J : Asks₂ (OneTerm arities src T n at)) → (2 * (length src - next) + 1 < t) × Asks₂
        (Collect arities src T n next c)
    turn_asks t μ J =
        let X = J.2 in
        let I = into J.0 J.1 X in
        (omega (arith, I.after, (inner J.0 J.1 X).inside), (_, _, inner J.0 J.1 X))

    pub turn_gone :
        (T₁ : List Entry) (f : Filled) → Promises₂ (Collect arities src T n next c)
        (λ (l : Exps) (ts : Terms). Collected src T₁ (next + length (encodes ts)) f (pours (not minus) ts l))
        → (r : Onward) → r.at ≡ f.at → r.put.n ≡ f.n → r.more ≡ 0
        → Promises₂ (OneTerm arities src T n at) (λ (l : Exps) (t : Term). Gone arities src T₁ at minus r l t)
    turn_gone T₁ f G r e₁ e₂ e₃ l t X =
        let I = into l t X in
        let M = G _ _ (inner l t X) in
        entered l t X (record { table = rw (I.same l, e₂) M.table; next = e₁ ∙ M.next ∙ I.ends; none = e₃ })

  -- ── it is a factor ──
  module _ (T₁ : List Entry) (r : Onward) (D : Promises₂ (OneTerm arities src T n at)
      (λ (l : Exps) (t : Term). Entered src T₁ (at + length (encode t)) r (enter t (sign minus) l))) where
    pub leaf_gone :
        (e : ℕ) → way_of (symbol_at src arities at) ≡ way.Leaf e → Promises₂ (OneTerm arities src T n at)
        (λ (l : Exps) (t : Term). Gone arities src T₁ at minus r l t)
    leaf_gone e w l t X = entered l t X (rw (way_name minus e t X.one w l) (D l t X))

    pub factor_gone :
        way_of (symbol_at src arities at) ≡ way.Factor → Promises₂ (OneTerm arities src T n at)
        (λ (l : Exps) (t : Term). Gone arities src T₁ at minus r l t)
    factor_gone w l t X = entered l t X (rw (way_factor minus t X.one w l) (D l t X))

-- ── collect ──
module _ (arities src : List ℕ) (T₀ : List Entry) (n₀ at₀ k₀ : ℕ) (minus : Bool) where
  -- the terms ts and the table l have become these
  pub record Going (T : List Entry) (n at k : ℕ) (l : Exps) (ts : Terms) : Type 0 where
    pub got : Exps
    pub left : Terms
    pub now : Collect arities src T n at k got left
    pub ends : at + length (encodes left) ≡ at₀ + length (encodes ts)
    pub same : pours minus left got ≡ pours minus ts l

  pub record Walk (T : List Entry) (n at k : ℕ) : Type 0 where
    pub long : length T ≡ length T₀
    pub from : at₀ ≤ at
    pub going : (l : Exps) (ts : Terms) → Collect arities src T₀ n₀ at₀ k₀ l ts → Going T n at k l ts

  pub walk_first : Walk T₀ n₀ at₀ k₀
  walk_first = record { long = refl; from = omega arith; going = λ l ts C. record { got = l; left = ts; now = C; ends = refl; same = refl } }

  module _ (T : List Entry) (n at k : ℕ) (W : Walk T n at k) where
    pub walk_done :
        k ≤ 0 → (r : Filled) → r.at ≡ at → r.n ≡ n → Promises₂ (Collect arities src T₀ n₀ at₀ k₀)
        (λ (l : Exps) (ts : Terms). Collected src T (at₀ + length (encodes ts)) r (pours minus ts l))
    unfolding pour
    walk_done h r e₁ e₂ l ts C = let G = W.going l ts C in go G.got G.left G.now G.ends G.same
      where
        go : (x : Exps) (us : Terms) → Collect arities src T n at k x us → at + length (encodes us) ≡ at₀ + length (encodes ts)
            → pours minus us x ≡ pours minus ts l → Collected src T (at₀ + length (encodes ts)) r (pours minus ts l)
        go x nil D e s = record { table = rw (sym s, e₂) D.table; next = omega arith }
        go x (t & us) D e s = absurd (let q : suc (count us) ≡ k = D.many in omega arith)

    module _ (h : 0 < k) where
      -- the first of them and the others
      pub record Head (l : Exps) (ts : Terms) (G : Going T n at k l ts) : Type 0 where
        pub t : Term
        pub us : Terms
        pub is : G.left ≡ t & us
        pub one : OneTerm arities src T n at G.got t
        pub rest : Laid arities src (at + length (encode t)) us
        pub others : count us ≡ k - 1
        pub mass_left : mass G.got + (symbols t + symbolss us) ≤ most_symbols

      head : (l : Exps) (ts : Terms) (G : Going T n at k l ts) → Head l ts G
      head l ts G = go G.left refl G.now
        where
          go : (us : Terms) → G.left ≡ us → Collect arities src T n at k G.got us → Head l ts G
          go nil e C = absurd (omega (arith, C.many))
          go (t & us) e C = record {
            t = t;
            us = us;
            is = e;
            one = record { table = C.table; asc = C.asc; room = C.room; few = omega (arith, C.few); one = first_of C.laid; short = C.short };
            rest = others_of C.laid;
            others = omega (arith, C.many);
            mass_left = C.few;
          }

      pub term_asks : (t : ℕ) → 2 * (length src - at₀) + 1 ≡ t → Asks₂ (Collect arities src T₀ n₀ at₀ k₀) → (2 * (length src - at) < t) × Asks₂
          (OneTerm arities src T n at)
      term_asks t μ J = let X = head J.0 J.1 (W.going J.0 J.1 J.2) in (omega (arith, W.from), (_, _, X.one))

      pub walk_inside : Asks₂ (Collect arities src T₀ n₀ at₀ k₀) → at < length src
      walk_inside J =
          let X = head J.0 J.1 (W.going J.0 J.1 J.2) in
          there_inside arities src at (_, X.t, X.one.one)

      module _ (T₁ : List Entry) (o : Onward) (lT : length T₁ ≡ length T)
          (D : Promises₂ (OneTerm arities src T n at) (λ (l : Exps) (t : Term). Gone arities src T₁ at minus o l t)) where
        module _ (l : Exps) (ts : Terms) (C : Collect arities src T₀ n₀ at₀ k₀ l ts) where
          abbrev G : Going T n at k l ts
          G = W.going l ts C

          abbrev X : Head l ts G
          X = head l ts G

          abbrev Y : Gone arities src T₁ at minus o G.got X.t
          Y = D G.got X.t X.one

          bytes : length (encodes (also Y.rest X.us)) ≡ length (encodes Y.rest) + length (encodes X.us)
          bytes = ap length (also_bytes Y.rest X.us) ∙ length-append (encodes Y.rest) (encodes X.us)

          after : Collect arities src T₁ o.put.n o.at (k - 1 + o.more) Y.now (also Y.rest X.us)
          after = record {
            table = Y.table;
            asc = Y.asc;
            room = rw lT G.now.room;
            few = omega (arith, Y.fewer, X.mass_left, also_symbols Y.rest X.us);
            laid = laid_also Y.rest X.us Y.laid Y.ends X.rest;
            many = omega (arith, also_count Y.rest X.us, Y.many, X.others);
            inside = omega (arith, Y.ends, one_within X.one.one);
            short = G.now.short;
          }

          gone : Going T₁ o.put.n o.at (k - 1 + o.more) l ts
          unfolding pour
          gone =
              let len : length (encodes G.left) ≡ length (encode X.t) + length (encodes X.us) =
              ap (λ z. length (encodes z)) X.is ∙ length-append (encode X.t) (encodes X.us) in
              record {
                got = Y.now;
                left = also Y.rest X.us;
                now = after;
                ends = omega (arith, bytes, Y.ends, G.ends);
                same = also_pours minus Y.rest X.us Y.now ∙ ap (pours minus X.us) Y.same ∙ ap (λ (z : Terms). pours minus z G.got)
                    (sym X.is) ∙ G.same;
              }

        pub walk_more : Asks₂ (Collect arities src T₀ n₀ at₀ k₀) → (k - 1 + o.more ≤ most_symbols) × (at < o.at) × (o.at ≤ length src)
        walk_more J =
            let A = after J.0 J.1 J.2 in
            let y = (Y J.0 J.1 J.2).after in
            (omega (arith, A.many, A.few, count_symbols (also (Y J.0 J.1 J.2).rest (X J.0 J.1 J.2).us)), y, A.inside)

        pub walk_next : at < o.at → Walk T₁ o.put.n o.at (k - 1 + o.more)
        walk_next f = record { long = lT ∙ W.long; from = omega (arith, W.from); going = gone }

      -- a mul is passed
      module _ (c : ℕ) (q : c ≡ get_or arities 12 0) (m : get_or src at 0 ≡ 12) where
        abbrev passed : Onward
        passed = record { at = at + 1; put = record { n = n; hint = 0 }; more = c }

        pub mul_more : Asks₂ (Collect arities src T₀ n₀ at₀ k₀) → (k - 1 + c ≤ most_symbols) × (at + 1 ≤ length src)
        mul_more J =
            let w = walk_more T passed refl (mul_gone arities src T n at minus c q m passed refl refl refl) J in
            (w.0, w.2)

        pub mul_next : Walk T n (at + 1) (k - 1 + c)
        mul_next = walk_next T passed refl (mul_gone arities src T n at minus c q m passed refl refl refl) (omega arith)
