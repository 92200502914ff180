-- The writer takes the earliest sources: of the free conclusions, which ascend, the first that is the same is the lowest that fits.
use Rattle.std.specs.Prelude.{◌≡◌, refl, Bool, true, false, List, [], ◌∷◌, ◌++◌, map, ℕ, suc, ◌+◌, ◌≤◌, ◌<◌, ltb}
use Rattle.std.proofs.Common.{sym, ◌∙◌, ap, ap₂, subst, ⊎_elim, inl, append_assoc, append-nil, arith}
use mathlib.Core.List.Memᴰ
use Rattle.std.proofs.lemmas.List.{map-append}
use Rattle.std.proofs.Common.{Option, Some, None}
use Rattle.std.proofs.lemmas.Option.{same_Some}
use Rattle.lists.specs.Tests.{by_bool, true_false, not_true, leb_le, leb_gt, zero_or_pos}
use Rattle.lists.specs.Lists.{◌∈◌, bit, count_by, first_by, remove_by}
use Rattle.lists.specs.Lists.Laws.{count_append, count_pos, first_mem, first_passes, remove_mem}
use Rattle.rewriting.specs.Facts.{Facts, Tested}
use Rattle.rewriting.specs.Graph.{Node, Place, Edge, same_place, out_of, premise_at, conclusion_at}
use Rattle.rewriting.specs.Table.{Ruling, passed, refused}
use Rattle.rewriting.specs.Table.Laws.{refused_passed, passed_inj}
use Rattle.rewriting.specs.Places.{Placed, placed, premises_from, conclusions_from}
use Rattle.rewriting.specs.Places.Laws.{place_eq, place_self, placed_stands, stands_placed, placed_all_mem, placed_node}
use Rattle.rewriting.specs.Writer.{add_node, take_one, take_all, edges_into, free_after, draw_from}
use Rattle.rewriting.proofs.Writer.Laws.{add_some}
use Rattle.rewriting.specs.Earliest.{Earliest}
use Rattle.rewriting.proofs.Earliest.Order.{Ascends, place_of, ascends_both, placed_ascends, ascends_remove, removed_apart, kept_mem, first_lowest}
use Rattle.rewriting.proofs.Earliest.Laws.{target, Sourced, Follows, follows_append, targets_earliest}

count_none : {A : Type 0} (p : A → Bool) (xs : List A) → ((a : A) → a ∈ xs → p a ≡ true → ⊥) → count_by p xs ≡ 0
count_none p xs h = ⊎_elim (λ z. z) (λ l. let (a, m, e) = count_pos p xs l in absurd (h a m e)) (zero_or_pos (count_by p xs))

-- The edge into premise `i` of node `k`.
abbrev arrow : Place → ℕ → ℕ → Edge
arrow a k i = record { source = a; target = record { node = k; index = i } }

-- One edge more.
out_more : (a b : Place) (k i : ℕ) (written : List Edge) → out_of a (written ++ (arrow b k i ∷ [])) ≡ out_of a written + bit (same_place a b)
out_more a b k i written = let c = count_append (λ (d : Edge). same_place a d.source) written (arrow b k i ∷ []) in omega arith

-- What is drawn of a node and those behind it is drawn of each.
add_drawn :
    (k : ℕ) (o : Option (List Edge)) (d : Ruling (List Edge)) (es : List Edge) → add_node k o d ≡ passed es
    → (es₁ : List Edge) × (es₂ : List Edge) × (o ≡ Some es₁) × (d ≡ passed es₂) × (es ≡ es₁ ++ es₂)
add_drawn k None d es h = absurd (refused_passed 14 k es h)
add_drawn k (Some es₁) (passed es₂) es h = (es₁, es₂, refl, refl, cc)
add_drawn k (Some es₁) (refused n j) es h = absurd (refused_passed n j es h)

module _ (F : Facts) (nodes : List (Node F.Fact)) where
  open F use {Fact, same, linear, same_sym, same_linear}

  -- The free conclusions before node `k`, in order: those that are persistent or that no edge comes from.
  record Held (k : ℕ) (free : List (Placed Fact)) (written : List Edge) : Type 0 where
    ascends : Ascends place_of free
    stands :
        (t : Placed Fact) → t ∈ free
        → (conclusion_at nodes t.place ≡ Some t.fact) × (t.place.node < k) × (linear t.fact ≡ true → out_of t.place written ≡ 0)
    has :
        (t : Placed Fact) → conclusion_at nodes t.place ≡ Some t.fact → t.place.node < k → (linear t.fact ≡ true → out_of t.place written ≡ 0)
        → t ∈ free
    low : (e : Edge) → e ∈ written → e.source.node < k

  module _ (k i : ℕ) (free : List (Placed Fact)) (written : List Edge) (held : Held k free written) (p : Fact) (t : Placed Fact)
      (found : first_by (λ t. same p t.fact) free ≡ Some t) where
    abbrev same_as : Placed Fact → Bool
    same_as u = same p u.fact

    abbrev behind : List Edge
    behind = written ++ (arrow t.place k i ∷ [])

    known : same p t.fact ≡ true
    known = first_passes same_as free t found

    is : (conclusion_at nodes t.place ≡ Some t.fact) × (t.place.node < k) × (linear t.fact ≡ true → out_of t.place written ≡ 0)
    is = held.stands t (first_mem same_as free t found)

    -- The source that is found is the lowest that fits.
    source_lowest : premise_at nodes (record { node = k; index = i }) ≡ Some p → Sourced (Tested F) linear nodes written (arrow t.place k i)
    source_lowest to = record {
      here = record {
        joins = record {
          from = t.fact;
          to = p;
          has_source = is.0;
          has_target = to;
          earlier = is.1;
          facts_same = same_sym p t.fact known;
        };
        unused = is.2;
      };
      below = λ b low f.
          let j = f.joins in
          let u : Placed Fact = record { place = b; fact = j.from } in
          let q : j.to ≡ p = same_Some _ _ (sym j.has_target ∙ to) in
          let s : same p j.from ≡ true = ap (λ (g : Fact). same g j.from) (sym q) ∙ same_sym j.from j.to j.facts_same in
          first_lowest place_of same_as free t u held.ascends found (held.has u j.has_source j.earlier f.unused) s low;
    }

    -- A conclusion at the place of the source is the source's.
    same_fact : (u : Placed Fact) → conclusion_at nodes u.place ≡ Some u.fact → same_place u.place t.place ≡ true → u.fact ≡ t.fact
    same_fact u h y = same_Some _ _ (sym h ∙ (ap (conclusion_at nodes) (place_eq u.place t.place y) ∙ is.0))

    low_next : (e : Edge) → e ∈ behind → e.source.node < k
    low_next e m =
        ⊎_elim (λ n. held.low e n)
        (λ n. ⊎_elim
        (λ (j : e ≡ arrow t.place k i). let z = ap (λ (d : Edge). d.source.node) j in omega (arith, is.1))
        (λ o. absurd (Memᴰ.not-nil o)) (Memᴰ.cases_cons n))
        (Memᴰ.append_cases written m)

    unused_before :
        (u : Placed Fact) → (linear u.fact ≡ true → out_of u.place behind ≡ 0) → linear u.fact ≡ true → out_of u.place written ≡ 0
    unused_before u f l = omega (arith, f l, out_more u.place t.place k i written)

    unused_after : (u : Placed Fact) → same_place u.place t.place ≡ false → out_of u.place written ≡ 0 → out_of u.place behind ≡ 0
    unused_after u n z = omega (arith, out_more u.place t.place k i written, ap bit n)

    -- What is left is free after that edge: without the source if it is linear, else all.
    held_used : linear p ≡ true → Held k (remove_by same_as free) behind
    held_used l = record {
      ascends = ascends_remove place_of same_as free held.ascends;
      stands = λ u m.
          let s = held.stands u (remove_mem same_as free u m) in
          (s.0, s.1, λ lu. unused_after u (removed_apart place_of same_as free t u held.ascends found m) (s.2 lu));
      has = λ u h b f.
          kept_mem same_as free t u found (held.has u h b (unused_before u f))
          (λ (j : u ≡ t).
          let lu : linear u.fact ≡ true = ap (λ (v : Placed Fact). linear v.fact) j ∙ (sym (same_linear p t.fact known) ∙ l) in
          let y : same_place u.place t.place ≡ true = ap (λ (v : Placed Fact). same_place v.place t.place) j ∙ place_self t.place in
          let z = ap bit y in
          omega (arith, f lu, out_more u.place t.place k i written));
      low = low_next;
    }

    held_kept : linear p ≡ false → Held k free behind
    held_kept l = record {
      ascends = held.ascends;
      stands = λ u m.
          let s = held.stands u m in
          let other : linear u.fact ≡ true → same_place u.place t.place ≡ false =
          λ lu. not_true _ (λ y. true_false (linear p) (same_linear p t.fact known ∙ (ap linear (sym (same_fact u s.0 y)) ∙ lu)) l) in
          (s.0, s.1, λ lu. unused_after u (other lu) (s.2 lu));
      has = λ u h b f. held.has u h b (unused_before u f);
      low = low_next;
    }

    held_next : Held k (take_one F p free) behind
    held_next = by_bool (linear p) (λ l. rw l (held_used l)) (λ l. rw l (held_kept l))

  -- The edges of one node.
  record Wrote (k : ℕ) (written es : List Edge) (ws left : List (Placed Fact)) : Type 0 where
    follows : Follows (Tested F) linear nodes written es
    in_order : map target es ≡ map place_of ws
    held : Held k left (written ++ es)

  edges_follow :
      (k i : ℕ) (ps : List Fact) (free : List (Placed Fact)) (written es : List Edge) → Held k free written
      → ((t : Placed Fact) → t ∈ placed k i ps → premise_at nodes t.place ≡ Some t.fact) → edges_into F k i free ps ≡ Some es
      → Wrote k written es (placed k i ps) (take_all F ps free)
  edges_follow k i [] free written es held w h =
      subst (λ l. Wrote k written l [] free) (same_Some [] es h)
      (record { follows = tt; in_order = refl; held = subst (λ l. Held k free l) (sym (append-nil written)) held })
  edges_follow k i (p ∷ ps) free written es held w h =
      let left = take_one F p free in
      let (t, fs, a, b, e) = add_some F (record { node = k; index = i }) (first_by (λ t. same p t.fact) free) (edges_into F k (suc i) left ps) es h in
      let to = w (record { place = record { node = k; index = i }; fact = p }) (Memᴰ.head refl) in
      let d : Edge = arrow t.place k i in
      let ih = edges_follow k (suc i) ps left (written ++ (d ∷ [])) fs (held_next k i free written held p t a) (λ t m. w t (Memᴰ.tail m)) b in
      subst (λ l. Wrote k written l (placed k i (p ∷ ps)) (take_all F (p ∷ ps) free)) (sym e)
      (record {
        follows = (source_lowest k i free written held p t a to, ih.follows);
        in_order = ap (λ (l : List Place). record { node = k; index = i } ∷ l) ih.in_order;
        held = subst (λ l. Held k (take_all F (p ∷ ps) free) l) (append_assoc written (d ∷ []) fs) ih.held;
      })

  -- The conclusions of node `k` are free behind it.
  held_more :
      (k : ℕ) (free : List (Placed Fact)) (written : List Edge) (cs : List Fact) → Held k free written
      → ((t : Placed Fact) → t ∈ placed k 1 cs → conclusion_at nodes t.place ≡ Some t.fact)
      → ((t : Placed Fact) → conclusion_at nodes t.place ≡ Some t.fact → t.place.node ≡ k → t ∈ placed k 1 cs)
      → Held (suc k) (free ++ placed k 1 cs) written
  held_more k free written cs held of has = record {
    ascends = ascends_both place_of free (placed k 1 cs) held.ascends (placed_ascends k 1 cs)
        (λ t u m n. inl (omega (arith, (held.stands t m).1, placed_node k 1 cs u n)));
    stands = λ t m.
        ⊎_elim
        (λ n. let s = held.stands t n in (s.0, omega (arith, s.1), s.2))
        (λ n. (
          of t n,
          omega (arith, placed_node k 1 cs t n),
          λ l. count_none (λ (e : Edge). same_place t.place e.source) written
              (λ e o y. let z = ap (λ (a : Place). a.node) (place_eq t.place e.source y) in omega (arith, held.low e o, placed_node k 1 cs t n)),
        ))
        (Memᴰ.append_cases free m);
    has = λ t h b f.
        by_bool (ltb t.place.node k)
        (λ y. Memᴰ.append_left _ (held.has t h (leb_le (suc t.place.node) k y) f))
        (λ n. Memᴰ.append_right free (has t h (omega (arith, b, leb_gt (suc t.place.node) k n))));
    low = λ e m. omega (arith, held.low e m);
  }

  -- What the writer does to the nodes from `k` on.
  record WroteAll (k : ℕ) (xs : List (Node Fact)) (written es : List Edge) : Type 0 where
    follows : Follows (Tested F) linear nodes written es
    in_order : map target es ≡ map place_of (premises_from k xs)

  nodes_follow :
      (k : ℕ) (xs : List (Node Fact)) (free : List (Placed Fact)) (written es : List Edge) → Held k free written
      → ((t : Placed Fact) → t ∈ conclusions_from k xs → conclusion_at nodes t.place ≡ Some t.fact)
      → ((t : Placed Fact) → conclusion_at nodes t.place ≡ Some t.fact → k ≤ t.place.node → t ∈ conclusions_from k xs)
      → ((t : Placed Fact) → t ∈ premises_from k xs → premise_at nodes t.place ≡ Some t.fact) → draw_from F k free xs ≡ passed es
      → WroteAll k xs written es
  nodes_follow k [] free written es held of has w h =
      subst (λ l. WroteAll k [] written l) (passed_inj [] es h) (record { follows = tt; in_order = refl })
  nodes_follow k (x ∷ xs) free written es held of has w h =
      let (es₁, es₂, a, b, i) = add_drawn k (edges_into F k 1 free x.premises) (draw_from F (suc k) (free_after F k free x) xs) es h in
      let g = edges_follow k 1 x.premises free written es₁ held (λ t m. w t (Memᴰ.append_left _ m)) a in
      let r = nodes_follow (suc k) xs (free_after F k free x) (written ++ es₁) es₂
      (held_more k (take_all F x.premises free) (written ++ es₁) x.conclusions g.held
      (λ t m. of t (Memᴰ.append_left _ m))
      (λ t c n. ⊎_elim (λ m. m)
      (λ m. let (j, z, _) = placed_all_mem (λ x. x.conclusions) (suc k) xs t m in absurd (omega arith))
      (Memᴰ.append_cases (placed k 1 x.conclusions) (has t c (omega arith)))))
      (λ t m. of t (Memᴰ.append_right (placed k 1 x.conclusions) m))
      (λ t c n. ⊎_elim
      (λ m. absurd (omega (arith, placed_node k 1 x.conclusions t m)))
      (λ m. m)
      (Memᴰ.append_cases (placed k 1 x.conclusions) (has t c (omega arith))))
      (λ t m. w t (Memᴰ.append_right (placed k 1 x.premises) m)) b in
      subst (λ l. WroteAll k (x ∷ xs) written l) (sym i)
      (record {
        follows = follows_append (Tested F) linear nodes written es₁ es₂ g.follows r.follows;
        in_order =
            map-append target es₁ es₂
            ∙ ap₂ (λ (l m : List Place). l ++ m) g.in_order r.in_order
            ∙ sym (map-append place_of (placed k 1 x.premises) (premises_from (suc k) xs));
      })

  -- The writer's edges are the earliest.
  pub from_earliest : (es : List Edge) → draw_from F 1 [] nodes ≡ passed es → Earliest (Tested F) linear nodes es
  from_earliest es h =
      let r = nodes_follow 1 nodes [] [] es
      (record {
        ascends = tt;
        stands = λ t m. absurd (Memᴰ.not-nil m);
        has = λ t c l f.
            let (j, z, _) = placed_all_mem (λ x. x.conclusions) 1 nodes t (stands_placed (λ x. x.conclusions) nodes t c) in absurd (omega arith);
        low = λ e m. absurd (Memᴰ.not-nil m);
      })
      (λ t m. placed_stands (λ x. x.conclusions) nodes t m)
      (λ t c l. stands_placed (λ x. x.conclusions) nodes t c)
      (λ t m. placed_stands (λ x. x.premises) nodes t m) h in
      targets_earliest (Tested F) linear nodes es r.in_order r.follows
