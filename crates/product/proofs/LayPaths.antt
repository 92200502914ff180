-- What `write_rows`, `write_tagged` and `write_table` ask and promise.
use Prim.Native.Nat.{ℕ, ◌+◌, ◌≤◌, ◌<◌}
use mathlib.Core.Path.{◌≡◌, refl, sym, ap, ◌∙◌}
use mathlib.Core.Bool.{Bool, true, false, not}
use mathlib.Core.List.{List, [], ◌∷◌, ◌++◌, append-nil, append_assoc}
use native.Mathlib.Omega.{arith}
use lib.Dec.{ltb}
use lib.ListN.{length, take, set, length-append, length-set}
use lib.Seq.{take_all}
use borrow.Author.Tests.{lt-ltb, le-ltb}
use mir.Syntax.{w64}
use mir.Val.{to_z, of_z}
use Rattle.term.specs.Tags.{inv_tag, mul_tag}
use Rattle.lists.specs.Asks.{Asks, Promises}
use Rattle.octets.specs.Head.{stands_part, stands_within}
use Rattle.octets.specs.Splice.Prefix.{Wrote, widen, wrote_nothing, wrote_one, wrote_then}
use Rattle.term.specs.Term.{Terms, encode}
use Rattle.term.specs.Term.Laws.{encode_some}
use Rattle.message.specs.Product.{Exps, empty, part}
use Rattle.message.specs.Gather.{any}
use Rattle.factors.specs.Mass.{size}
use Rattle.std.proofs.Common.{Option, Some, None}
use Rattle.std.specs.Option.{unwrap_or, is_some}
use Rattle.lists.specs.Choice.{clash}
use Rattle.factors.specs.declared.Entry.{Entry}
use Rattle.factors.specs.Rows.{entry, power_of, Rows}
use Rattle.factors.specs.Rows.Laws.{rows_abs}
use Rattle.product.specs.Writing.{take_same, wrote_same, tagged, below_kept, bytes_in, part_same}
use Rattle.product.specs.Chain.{copies, row, sides}
use Rattle.product.specs.Chain.Laws.{row_times, sides_up, sides_down, sides_both}
use Rattle.product.specs.Side.{rise, side, Next, NextIs, Small}
use Rattle.product.specs.Side.Laws.{From, EntryAt, entry_at, after_next}
use Rattle.product.specs.Inner.{Ready, Lay, Both}
use Rattle.product.proofs.RisePaths.{rises_is}

module _ (T : List Entry) where
  held : (out : List ℕ) (o : ℕ) (l : Exps) → Ready out T o l → Small T
  held out o l X j h = omega (arith, rows_abs X.src T 0 l X.table.rows j (omega arith) (omega (arith, X.table.many)), X.few)

  pub lay_held : (m : Bool) (out : List ℕ) (o t : ℕ) → Asks (Lay out T m o t) → Small T
  lay_held m out o t J = held out o J.0 J.1.ready

  pub both_held : (out : List ℕ) (o : ℕ) → Asks (Both out T o) → Small T
  both_held out o J = held out o J.0 J.1.ready

  -- ── an answer of next_row ──
  -- its place, or the number of entries
  abbrev pub place : Option ℕ → ℕ
  place o = unwrap_or o (length T)

  module _ (i : ℕ) (m : Bool) where
    pub next_place : (a : Option ℕ) → NextIs T i m a → Next T i m (place a)
    next_place (Some r) N = N.0
    next_place None N = N

    pub next_some : (a : Option ℕ) → NextIs T i m a → is_some a ≡ ltb (place a) (length T)
    next_some (Some r) N = sym (lt-ltb r (length T) N.1)
    next_some None N = sym (le-ltb (length T) (length T) (omega arith))

    pub next_none : (a : Option ℕ) → NextIs T i m a → (b : Bool) → is_some a ≡ not b → b ≡ true → length T ≤ place a
    next_none (Some r) N true e h = clash (cc)
    next_none (Some r) N false e h = clash (cc)
    next_none None N b e h = omega arith

    pub next_inside : (a : Option ℕ) → NextIs T i m a → (b : Bool) → is_some a ≡ not b → b ≡ false → place a < length T
    next_inside (Some r) N b e h = N.1
    next_inside None N true e h = clash (cc)
    next_inside None N false e h = clash (cc)

    pub next_there : (a : Option ℕ) (r : ℕ) → NextIs T i m a → a ≡ Some r → r < length T
    next_there a r N e = (rw e at N).1

  pub place_end : (a : Option ℕ) → ((r : ℕ) → a ≡ Some r → ⊥) → length T ≤ place a
  place_end (Some r) f = absurd (f r refl)
  place_end None f = omega arith

  -- the factors stay where they are while there is written behind them
  ready_on : (out out' : List ℕ) (o o' : ℕ) (l : Exps) → o ≤ o' → take o out' ≡ take o out → Ready out T o l → Ready out' T o' l
  ready_on out out' o o' l h e X = record {
    src = X.src;
    front = take_same out out' (length X.src) o X.behind e ∙ X.front;
    behind = omega (arith, X.behind);
    table = X.table;
    few = X.few;
  }

  -- ── write_rows ──
  module _ (m : Bool) (o : ℕ) (out₀ : List ℕ) where
    -- q is written, and the entries from i on are left
    pub record Laying (out : List ℕ) (p i : ℕ) (l : Exps) (L : Lay out₀ T m o 0 l) : Type 0 where
      pub rest : Exps
      pub rows : Rows L.ready.src T i rest
      pub count : i + size rest ≡ length T
      pub within : i ≤ length T
      pub stands : i < length T → 0 < rise m (power_of T i)
      pub q : List ℕ
      pub wrote : Wrote p out₀ o out p q
      pub left : q ++ row (side m rest) ≡ row (side m l)

    pub laying_first : (i : ℕ) → Next T 0 m i → (l : Exps) (L : Lay out₀ T m o 0 l) → Laying out₀ o i l L
    laying_first i N l L =
        let X = L.ready.table in
        let F = (after_next L.ready.src T m l 0 i N X.rows (omega (arith, X.many))).0 in
        record {
          rest = F.rest;
          rows = F.rows;
          count = F.count;
          within = N.within;
          stands = N.here;
          q = [];
          wrote = wrote_nothing o o out₀;
          left = ap row (sym F.same);
        }

    pub laying_done : (out : List ℕ) (p i : ℕ) (l : Exps) (L : Lay out₀ T m o 0 l) → Laying out p i l L → length T ≤ i → Wrote p out₀ o out p (row (side m l))
    unfolding size side row
    laying_done out p i l L G h = go G.rest refl G.count
      where
        go : (r : Exps) → G.rest ≡ r → i + size r ≡ length T → Wrote p out₀ o out p (row (side m l))
        go empty e c = wrote_same (sym (append-nil G.q) ∙ ap (λ (x : Exps). G.q ++ row (side m x)) (sym e) ∙ G.left) G.wrote
        go (part t k r) e c = absurd (omega (arith, G.within))

    module _ (out : List ℕ) (el : length out ≡ length out₀) (p i : ℕ) (h : i < length T) (H : Small T) (c : ℕ)
        (ec : c ≡ rise m (to_z w64 (of_z w64 (power_of T i)))) (j : ℕ) (N : Next T (i + 1) m j)
        (more : Bool) (em : more ≡ ltb j (length T)) where
      abbrev pub cs : List ℕ
      cs = copies c (bytes_in out (entry T i).start (entry T i).end) more

      module _ (l : Exps) (L : Lay out₀ T m o 0 l) (G : Laying out p i l L) where
        abbrev src : List ℕ
        src = L.ready.src

        X : EntryAt src T m i G.rest
        X = entry_at src T m i G.rest h G.rows G.count

        next : From src T m j X.others × (ltb j (length T) ≡ any (side m X.others))
        next = after_next src T m X.others (i + 1) j N X.rows X.count

        c_is : c ≡ rise m (power_of T i)
        c_is = rises_is T 0 m H i h c ec

        -- the factor stands in the front
        order : (entry T i).start ≤ (entry T i).end
        order = omega (arith, X.there.ends)

        within : (entry T i).end ≤ length src
        within = stands_within X.there (encode_some X.t)

        bytes_are : bytes_in out (entry T i).start (entry T i).end ≡ encode X.t
        bytes_are =
            let R = L.ready in
            let e : take o out ≡ take o out₀ = below_kept (omega (arith, L.fits)) G.wrote in
            let f : take (length src) out ≡ take (length src) src =
            take_same out₀ out (length src) o R.behind e ∙ R.front ∙ sym (take_all (length src) src (omega arith)) in
            part_same src out (length src) (entry T i).start (entry T i).end f order within within (omega (arith, within, R.behind, L.fits)) ∙ stands_part X.there

        laid : row (side m G.rest) ≡ cs ++ row (side m X.others)
        laid =
            ap row X.is ∙ row_times (rise m (power_of T i)) X.t (side m X.others) (G.stands h)
            ∙ rw (sym next.1, sym em, sym bytes_are, sym c_is)

        now_left : G.q ++ (cs ++ row (side m X.others)) ≡ row (side m l)
        now_left = ap (λ (x : List ℕ). G.q ++ x) (sym laid) ∙ G.left

        pub lay_put : (0 < c) × ((entry T i).start ≤ (entry T i).end) × ((entry T i).end ≤ p) × (p + length cs ≤ length out)
        lay_put =
            let rs = row (side m X.others) in (
              omega (arith, c_is, G.stands h),
              order,
              omega (arith, within, L.ready.behind, G.wrote.ends),
              omega (arith, L.fits, G.wrote.ends, sym (ap length now_left), length-append G.q (cs ++ rs), length-append cs rs),
            )

        pub laying_next : (out' : List ℕ) (r : ℕ) → Wrote r out p out' r cs → Laying out' r j l L
        laying_next out' r w =
            let F = next.0 in
            record {
              rest = F.rest;
              rows = F.rows;
              count = F.count;
              within = N.within;
              stands = N.here;
              q = G.q ++ cs;
              wrote = wrote_then (widen r (omega (arith, w.ends)) G.wrote) w;
              left =
                  append_assoc G.q cs (row (side m F.rest))
                  ∙ ap (λ (x : Terms). G.q ++ (cs ++ row x)) (sym F.same) ∙ now_left;
            }

  -- ── write_tagged ──
  module _ (m : Bool) (out : List ℕ) (o tag : ℕ) where
    pub tag_inside : Asks (Lay out T m o 1) → o < length out
    tag_inside J = omega (arith, J.1.fits)

    behind_tag : (l : Exps) → Lay out T m o 1 l → Lay (set out o tag) T m (o + 1) 0 l
    behind_tag l L =
        let i = tag_inside (l, L) in
        record {
          ready = ready_on out (set out o tag) o (o + 1) l (omega arith) (below_kept (omega arith) (wrote_one (o + 1) o tag out (omega arith) i)) L.ready;
          fits = omega (arith, L.fits, length-set out o tag);
        }

    pub tagged_asks : Asks (Lay out T m o 1) → Asks (Lay (set out o tag) T m (o + 1) 0)
    tagged_asks J = (J.0, behind_tag J.0 J.1)

    pub tagged_wrote : (out' : List ℕ) (r : ℕ) → Promises (Lay (set out o tag) T m (o + 1) 0)
        (λ (l : Exps). Wrote r (set out o tag) (o + 1) out' r (row (side m l))) → Promises (Lay out T m o 1)
        (λ (l : Exps). Wrote r out o out' r (tag ∷ row (side m l)))
    tagged_wrote out' r D l L =
        let w = D l (behind_tag l L) in
        tagged r out out' o r tag (row (side m l)) (omega (arith, w.ends)) (tag_inside (l, L)) w

  -- ── write_table ──
  module _ (out : List ℕ) (o : ℕ) where
    lay : (m : Bool) (t : ℕ) (l : Exps) → Both out T o l → o + t + length (row (side m l)) ≤ length out → Lay out T m o t l
    lay m t l B r = record { ready = B.ready; fits = r }

    -- whether the side has factors
    on_side : (m : Bool) (d : ℕ) → Next T 0 m d → (l : Exps) → Both out T o l → ltb d (length T) ≡ any (side m l)
    on_side m d N l B =
        let X = B.ready.table in
        (after_next B.ready.src T m l 0 d N X.rows (omega (arith, X.many))).1

    module _ (d : ℕ) (N : Next T 0 true d) where
      -- no factor has an exponent below zero
      module _ (h : length T ≤ d) where
        ups_only : (l : Exps) → Both out T o l → sides (side false l) (side true l) ≡ row (side false l)
        ups_only l B = sides_up (side false l) (side true l) (sym (on_side true d N l B) ∙ le-ltb d (length T) h)

        up_lay : (l : Exps) → Both out T o l → Lay out T false o 0 l
        up_lay l B = lay false 0 l B (omega (arith, B.fits, ap length (ups_only l B)))

        pub up_asks : Asks (Both out T o) → Asks (Lay out T false o 0)
        up_asks J = (J.0, up_lay J.0 J.1)

        pub up_wrote : (out' : List ℕ) (r : ℕ) → Promises (Lay out T false o 0) (λ (l : Exps). Wrote r out o out' r (row (side false l)))
            → Promises (Both out T o) (λ (l : Exps). Wrote r out o out' r (sides (side false l) (side true l)))
        up_wrote out' r D l B = wrote_same (sym (ups_only l B)) (D l (up_lay l B))

      module _ (h : d < length T) (u : ℕ) (M : Next T 0 false u) where
        -- no factor has one above zero
        module _ (g : length T ≤ u) where
          downs : (l : Exps) → Both out T o l → sides (side false l) (side true l) ≡ inv_tag ∷ row (side true l)
          downs l B = sides_down (side false l) (side true l) (sym (on_side false u M l B) ∙ le-ltb u (length T) g) (sym (on_side true d N l B) ∙ lt-ltb d (length T) h)

          down_lay : (l : Exps) → Both out T o l → Lay out T true o 1 l
          down_lay l B = lay true 1 l B (omega (arith, B.fits, ap length (downs l B)))

          pub down_asks : Asks (Both out T o) → Asks (Lay out T true o 1)
          down_asks J = (J.0, down_lay J.0 J.1)

          pub down_wrote : (out' : List ℕ) (r : ℕ) → Promises (Lay out T true o 1) (λ (l : Exps). Wrote r out o out' r (inv_tag ∷ row (side true l)))
              → Promises (Both out T o) (λ (l : Exps). Wrote r out o out' r (sides (side false l) (side true l)))
          down_wrote out' r D l B = wrote_same (sym (downs l B)) (D l (down_lay l B))

        -- both
        module _ (g : u < length T) where
          boths : (l : Exps) → Both out T o l → sides (side false l) (side true l) ≡ (mul_tag ∷ row (side false l)) ++ (inv_tag ∷ row (side true l))
          boths l B = sides_both (side false l) (side true l) (sym (on_side false u M l B) ∙ lt-ltb u (length T) g) (sym (on_side true d N l B) ∙ lt-ltb d (length T) h)

          fits : (l : Exps) → Both out T o l → o + 2 + length (row (side false l)) + length (row (side true l)) ≤ length out
          fits l B = omega (arith, B.fits, ap length (boths l B), length-append (mul_tag ∷ row (side false l)) (inv_tag ∷ row (side true l)))

          first_lay : (l : Exps) → Both out T o l → Lay out T false o 1 l
          first_lay l B = lay false 1 l B (omega (arith, fits l B))

          pub first_asks : Asks (Both out T o) → Asks (Lay out T false o 1)
          first_asks J = (J.0, first_lay J.0 J.1)

          module _ (out₁ : List ℕ) (i : ℕ) (D : Promises (Lay out T false o 1) (λ (l : Exps). Wrote i out o out₁ i (mul_tag ∷ row (side false l))))
              (el : length out₁ ≡ length out) where
            second_lay : (l : Exps) → Both out T o l → Lay out₁ T true i 1 l
            second_lay l B =
                let w = D l (first_lay l B) in
                record {
                  ready = ready_on out out₁ o i l (omega (arith, w.ends)) (below_kept (omega (arith, B.fits)) w) B.ready;
                  fits = omega (arith, fits l B, w.ends, el);
                }

            pub second_asks : Asks (Both out T o) → Asks (Lay out₁ T true i 1)
            second_asks J = (J.0, second_lay J.0 J.1)

            pub second_wrote : (out₂ : List ℕ) (r : ℕ) → Promises (Lay out₁ T true i 1) (λ (l : Exps). Wrote r out₁ i out₂ r (inv_tag ∷ row (side true l)))
                → Promises (Both out T o) (λ (l : Exps). Wrote r out o out₂ r (sides (side false l) (side true l)))
            second_wrote out₂ r D₂ l B =
                let w = D₂ l (second_lay l B) in
                wrote_same (sym (boths l B)) (wrote_then (widen r (omega (arith, w.ends)) (D l (first_lay l B))) w)
