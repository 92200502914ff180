-- There is at most one list of edges from the earliest sources; it is accepted where no name is made twice; and it is the same by every statement
-- that makes the same facts equal.
use Rattle.std.specs.Prelude.{◌≡◌, refl, Bool, true, List, [], ◌∷◌, ◌++◌, map, ℕ, zero, suc, ◌+◌, ◌≤◌, ◌<◌, take}
use Rattle.std.proofs.Common.{sym, ◌∙◌, ap, ap₂, subst, ⊎_elim, append_assoc, append-nil, arith}
use Rattle.std.proofs.Common.{Some}
use Rattle.std.proofs.lemmas.Option.{none-some, same_Some}
use Rattle.std.specs.Prelude.{slice_get}
use Rattle.lists.specs.Tests.{by_bool, bit_le}
use Rattle.lists.specs.Lists.{◌∈◌, bit, count_by, nth, before}
use Rattle.lists.specs.Lists.Laws.{count_append, count_mem, count_pos, mem_nth}
use Rattle.rewriting.specs.Graph.{Node, Place, Edge, same_place, into, out_of, premise_at, conclusion_at, NamesOnce, Accepted}
use Rattle.rewriting.specs.Graph.Laws.{Implies, joins_as}
use Rattle.rewriting.specs.Places.{Placed, premises_from, count_at}
use Rattle.rewriting.specs.Places.Laws.{place_eq, place_self, placed_stands, stands_placed, placed_all_once}
use Rattle.rewriting.specs.Earliest.{Lower, Lowest, Fits, Earliest}
use Rattle.rewriting.proofs.Earliest.Order.{lowest_unique, lowest_as, Ascends, ascends_nth, nth_ascends, map_mem, mem_map, map_ascends, ascends_map}
use Rattle.rewriting.proofs.Earliest.Order.{ascends_one, place_of, all_ascends}

abbrev pub target : Edge → Place
target e = e.target

module _ {Fact : Type 0} (Same : Fact → Fact → Type 0) (linear : Fact → Bool) (nodes : List (Node Fact)) where
  -- The source of an edge is the lowest that fits behind those written.
  abbrev pub Sourced : List Edge → Edge → Type 0
  Sourced written e = Lowest (λ a. Fits Same linear nodes written (record { source = a; target = e.target })) e.source

  -- Edge after edge.
  abbrev pub Follows : List Edge → List Edge → Type 0
  Follows written [] = Unit {0}
  Follows written (e ∷ es) = Sourced written e × Follows (written ++ (e ∷ [])) es

  pub follows_append : (written es fs : List Edge) → Follows written es → Follows (written ++ es) fs → Follows written (es ++ fs)
  follows_append written [] fs g h = subst (λ l. Follows l fs) (append-nil written) h
  follows_append written (e ∷ es) fs g h =
      (g.0, follows_append (written ++ (e ∷ [])) es fs g.1 (subst (λ l. Follows l fs) (sym (append_assoc written (e ∷ []) es)) h))

  -- The same by numbers.
  follows_at : (written es : List Edge) → Follows written es → (i : ℕ) (e : Edge) → slice_get es i ≡ Some e → Sourced (written ++ take i es) e
  follows_at written [] h i e s = absurd (none-some e s)
  follows_at written (d ∷ es) h zero e s =
      subst (λ (c : Edge). Sourced (written ++ []) c) (same_Some d e s) (subst (λ l. Sourced l d) (sym (append-nil written)) h.0)
  follows_at written (d ∷ es) h (suc i) e s =
      subst (λ l. Sourced l e) (append_assoc written (d ∷ []) (take i es)) (follows_at (written ++ (d ∷ [])) es h.1 i e s)

  at_follows : (written es : List Edge) → ((i : ℕ) (e : Edge) → slice_get es i ≡ Some e → Sourced (written ++ take i es) e) → Follows written es
  at_follows written [] h = tt
  at_follows written (d ∷ es) h = (
    subst (λ l. Sourced l d) (append-nil written) (h 0 d refl),
    at_follows (written ++ (d ∷ [])) es (λ i e s. subst (λ l. Sourced l e) (sym (append_assoc written (d ∷ []) (take i es))) (h (suc i) e s)),
  )

  earliest_follows : (es : List Edge) → Earliest Same linear nodes es → Follows [] es
  earliest_follows es h = at_follows [] es (λ i e s. h.sources (suc i) e s)

  -- The edges go into the premises, in their order.
  into_targets : (a : Place) (es : List Edge) → into a es ≡ count_by (same_place a) (map target es)
  into_targets a [] = refl
  into_targets a (e ∷ es) = omega (arith, into_targets a es)

  places_count : (a : Place) (l : List (Placed Fact)) → count_at a l ≡ count_by (same_place a) (map place_of l)
  places_count a [] = refl
  places_count a (t ∷ l) = omega (arith, places_count a l)

  abbrev premise_places : List Place
  premise_places = map place_of (premises_from 1 nodes)

  earliest_targets : (es : List Edge) → Earliest Same linear nodes es → map target es ≡ premise_places
  earliest_targets es h =
      ascends_one (map target es) premise_places (map_ascends target es (nth_ascends target es h.in_order))
      (map_ascends place_of (premises_from 1 nodes) (all_ascends (λ x. x.premises) 1 nodes))
      (λ a m.
      let (e, i, q) = map_mem target es a m in
      let (j, s) = mem_nth es e i in
      let n = (h.sources j e s).here.joins in
      let t : Placed Fact = record { place = e.target; fact = n.to } in
      subst (λ (b : Place). b ∈ premise_places) q
      (mem_map place_of (premises_from 1 nodes) t (stands_placed (λ x. x.premises) nodes t n.has_target)))
      (λ a m.
      let (t, i, q) = map_mem place_of (premises_from 1 nodes) a m in
      let one = h.one_into t.place t.fact (placed_stands (λ x. x.premises) nodes t i) in
      let (e, k, s) = count_pos (λ (d : Edge). same_place t.place d.target) es (omega (arith, one)) in
      subst (λ (b : Place). b ∈ map target es) (sym (place_eq t.place e.target s) ∙ q) (mem_map target es e k))

  pub targets_earliest : (es : List Edge) → map target es ≡ premise_places → Follows [] es → Earliest Same linear nodes es
  targets_earliest es o h = record { one_into = one; in_order = ordered; sources = sourced }
    where
      one : (a : Place) (f : Fact) → premise_at nodes a ≡ Some f → into a es ≡ 1
      one a f p =
          let t : Placed Fact = record { place = a; fact = f } in
          omega (
            arith,
            into_targets a es,
            ap (count_by (same_place a)) o,
            places_count a (premises_from 1 nodes),
            placed_all_once (λ x. x.premises) a 1 nodes,
            count_mem (λ t. same_place a t.place) (premises_from 1 nodes) t (stands_placed (λ x. x.premises) nodes t p) (place_self a),
          )

      ordered : (i j : ℕ) (d e : Edge) → i < j → nth es i ≡ Some d → nth es j ≡ Some e → Lower d.target e.target
      ordered =
          ascends_nth target es
          (ascends_map target es
          (subst (Ascends (λ (a : Place). a)) (sym o) (map_ascends place_of (premises_from 1 nodes) (all_ascends (λ x. x.premises) 1 nodes))))

      sourced : (j : ℕ) (e : Edge) → nth es j ≡ Some e → Sourced (before j es) e
      sourced zero e s = absurd (none-some e s)
      sourced (suc i) e s = follows_at [] es h i e s

  -- There is one list of edges with given targets of which each takes the lowest source that fits.
  one_list : (written es fs : List Edge) → map target es ≡ map target fs → Follows written es → Follows written fs → es ≡ fs
  one_list written [] [] t g h = refl
  one_list written [] (f ∷ fs) t g h = absurd (let z : ◌≡◌ {A = ℕ} 0 1 = cc in omega arith)
  one_list written (e ∷ es) [] t g h = absurd (let z : ◌≡◌ {A = ℕ} 0 1 = cc in omega arith)
  one_list written (e ∷ es) (f ∷ fs) t g h =
      let a : e.target ≡ f.target = cc in
      let b : map target es ≡ map target fs = cc in
      let s : e.source ≡ f.source =
      lowest_unique (λ c. Fits Same linear nodes written (record { source = c; target = f.target })) e.source f.source
      (subst (λ (k : Place). Lowest (λ c. Fits Same linear nodes written (record { source = c; target = k })) e.source) a g.0) h.0 in
      let i : e ≡ f = (λ j. record { source = s j; target = a j }) in
      ap₂ (λ (c : Edge) (l : List Edge). c ∷ l) i
      (one_list (written ++ (f ∷ [])) es fs b (subst (λ (c : Edge). Follows (written ++ (c ∷ [])) es) i g.1) h.1)

  pub earliest_unique : (es fs : List Edge) → Earliest Same linear nodes es → Earliest Same linear nodes fs → es ≡ fs
  earliest_unique es fs g h =
      one_list [] es fs (earliest_targets es g ∙ sym (earliest_targets fs h)) (earliest_follows es g) (earliest_follows fs h)

  -- A linear conclusion that is used fits no more.
  out_once :
      (a : Place) (f : Fact) → conclusion_at nodes a ≡ Some f → linear f ≡ true → (written es : List Edge) → Follows written es → out_of a written ≤ 1
      → out_of a (written ++ es) ≤ 1
  out_once a f h lf written [] g l = omega (arith, count_append (λ (e : Edge). same_place a e.source) written [])
  out_once a f h lf written (e ∷ es) g l =
      subst (λ l. out_of a l ≤ 1) (append_assoc written (e ∷ []) es) (out_once a f h lf (written ++ (e ∷ [])) es g.1 one)
    where
      more : out_of a (written ++ (e ∷ [])) ≡ out_of a written + bit (same_place a e.source)
      more = omega (arith, count_append (λ (e : Edge). same_place a e.source) written (e ∷ []))

      one : out_of a (written ++ (e ∷ [])) ≤ 1
      one =
          by_bool (same_place a e.source)
          (λ y.
          let at_same = place_eq a e.source y in
          let fit = g.0.here in
          let i : f ≡ fit.joins.from = same_Some _ _ (sym h ∙ ap (conclusion_at nodes) at_same ∙ fit.joins.has_source) in
          let z = fit.unused (ap linear (sym i) ∙ lf) in
          omega (arith, more, ap (λ (b : Place). out_of b written) at_same, bit_le (same_place a e.source)))
          (λ n. omega (arith, more, ap bit n))

  pub earliest_accepted : (es : List Edge) → NamesOnce nodes → Earliest Same linear nodes es → Accepted Same linear nodes es
  earliest_accepted es n h = record {
    joins = λ e m. let (j, s) = mem_nth es e m in (h.sources j e s).here.joins;
    one_into = h.one_into;
    one_out = λ a f p lf. out_once a f p lf [] es (earliest_follows es h) (omega arith);
    names_once = n;
  }

  -- The word "earlier" adds nothing: the lowest source of an earlier node that fits is the lowest of all conclusions that are equal and, if linear,
  -- unused, wherever they stand.
  pub record FitsAnywhere (written : List Edge) (e : Edge) : Type 0 where
    pub from : Fact
    pub to : Fact
    pub has_source : conclusion_at nodes e.source ≡ Some from
    pub has_target : premise_at nodes e.target ≡ Some to
    pub facts_same : Same from to
    pub unused : linear from ≡ true → out_of e.source written ≡ 0

  pub lowest_anywhere :
      (written : List Edge) (e : Edge) → Sourced written e
      → Lowest (λ a. FitsAnywhere written (record { source = a; target = e.target })) e.source
  lowest_anywhere written e h =
      let f = h.here in
      let j = f.joins in
      record {
        here = record {
          from = j.from;
          to = j.to;
          has_source = j.has_source;
          has_target = j.has_target;
          facts_same = j.facts_same;
          unused = f.unused;
        };
        below = λ c low g.
            h.below c low (record {
              joins = record {
                from = g.from;
                to = g.to;
                has_source = g.has_source;
                has_target = g.has_target;
                earlier = ⊎_elim (λ l. omega (arith, j.earlier)) (λ (n, l). omega (arith, j.earlier)) low;
                facts_same = g.facts_same;
              };
              unused = g.unused;
            });
      }

-- ── by another statement ──
module _
    {Fact : Type 0} {Same Other : Fact → Fact → Type 0} (linear : Fact → Bool) {nodes : List (Node Fact)} (there : Implies nodes Same Other)
    (back : Implies nodes Other Same) where
  pub earliest_as : (es : List Edge) → Earliest Same linear nodes es → Earliest Other linear nodes es
  unfolding joins_as
  earliest_as es h = record {
    one_into = h.one_into;
    in_order = h.in_order;
    sources = λ j e s.
        lowest_as (λ a. Fits Same linear nodes (before j es) (record { source = a; target = e.target }))
        (λ a. Fits Other linear nodes (before j es) (record { source = a; target = e.target }))
        (λ a f. record { joins = joins_as there _ f.joins; unused = f.unused }) (λ a f. record { joins = joins_as back _ f.joins; unused = f.unused })
        e.source (h.sources j e s);
  }
