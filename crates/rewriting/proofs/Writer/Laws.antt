-- The writer finds a source for each premise just where the machine's test passes.
use Rattle.std.specs.Prelude.{◌≡◌, refl, true, false, ◌||◌, List, [], ◌∷◌, ℕ, suc, ◌+◌, ◌≤◌, leb}
use Rattle.std.proofs.Common.{sym, ◌∙◌, ap, ⊎_elim, arith}
use mathlib.Core.List.Memᴰ
use Rattle.std.proofs.Common.{Option, Some, None}
use Rattle.std.proofs.lemmas.Option.{none-some, same_Some}
use Rattle.lists.specs.Tests.{by_bool, leb_le, le_leb, leb_sum}
use Rattle.lists.specs.Lists.{◌∈◌, bit}
use Rattle.lists.specs.Lists.Laws.{count_append, count_mem, count_remove, count_remove_other, first_some, first_passes, first_mem}
use Rattle.rewriting.specs.Facts.{Facts, count}
use Rattle.rewriting.specs.Facts.Laws.{same_left, not_same, not_same'}
use Rattle.rewriting.specs.Graph.{Node, Place, Edge}
use Rattle.rewriting.specs.Machine.{State, after, lacks}
use Rattle.rewriting.specs.Machine.Laws.{bag_after, set_after}
use Rattle.rewriting.proofs.Machine.Laws.{Respects, enough_lacks, lacks_enough}
use Rattle.rewriting.specs.Places.{Placed, placed, count_placed}
use Rattle.rewriting.specs.Places.Laws.{count_placed_same, placed_count}
use Rattle.rewriting.specs.Writer.{add_edge, take_one, take_all, edges_into, free_after}

module _ (F : Facts) where
  open F use {Fact, same, linear, same_refl, same_linear}

  -- The free conclusions are what is in the state.
  pub record Tracks (free : List (Placed Fact)) (s : State Fact) : Type 0 where
    pub in_bag : (f : Fact) → linear f ≡ true → count_placed F f free ≡ s.bag f
    pub in_set : (f : Fact) → linear f ≡ false → leb 1 (count_placed F f free) ≡ s.set f

  -- Each linear fact stands among `ps` at most as often as in `free`, and each persistent premise stands there.
  pub record Sources (ps : List Fact) (free : List (Placed Fact)) : Type 0 where
    pub linears : (f : Fact) → linear f ≡ true → count F f ps ≤ count_placed F f free
    pub persistents : (p : Fact) → p ∈ ps → linear p ≡ false → 1 ≤ count_placed F p free

  module _ (ps : List Fact) (free : List (Placed Fact)) (s : State Fact) (r : Tracks free s) where
    pub tracks_lacks : Sources ps free → lacks F s ps ≡ false
    tracks_lacks h = enough_lacks F s ps (record {
      linears = λ f lf. omega (arith, h.linears f lf, r.in_bag f lf);
      persistents = λ p m lp. sym (r.in_set p lp) ∙ le_leb 1 (count_placed F p free) (h.persistents p m lp);
    })

    respects : Respects F s
    respects f g lf e = sym (r.in_bag f lf) ∙ (count_placed_same F f g e free ∙ r.in_bag g (sym (same_linear f g e) ∙ lf))

    pub lacks_tracks : lacks F s ps ≡ false → Sources ps free
    lacks_tracks h =
        let g = lacks_enough F s ps respects h in
        record {
          linears = λ f lf. omega (arith, g.linears f lf, r.in_bag f lf);
          persistents = λ p m lp. leb_le 1 (count_placed F p free) (r.in_set p lp ∙ g.persistents p m lp);
        }

  -- A linear fact takes one of its own out of the list.
  pub take_one_counts : (p : Fact) (l : List (Placed Fact)) → linear p ≡ true → 1 ≤ count_placed F p l → (f : Fact) → count_placed F f l ≡ bit (same f p) +
      count_placed F f (take_one F p l)
  take_one_counts p l lp h f =
      let (a, e) = first_some (λ a. same p a.fact) l h in
      let c = count_remove (λ a. same p a.fact) (λ a. same f a.fact) l a e in
      rw lp (rw (same_left F f p a.fact (first_passes _ l a e)) at c)

  -- Persistent facts stay.
  pub take_one_keeps : (p : Fact) (l : List (Placed Fact)) (f : Fact) → linear f ≡ false → count_placed F f (take_one F p l) ≡ count_placed F f l
  take_one_keeps p l f lf =
      by_bool (linear p)
      (λ lp. rw lp (count_remove_other (λ a. same p a.fact) (λ a. same f a.fact)
      (λ a t. not_same' F f a.fact lf (sym (same_linear p a.fact t) ∙ lp)) l))
      (λ lp. rw lp)

  pub take_all_keeps : (ps : List Fact) (l : List (Placed Fact)) (f : Fact) → linear f ≡ false → count_placed F f (take_all F ps l) ≡ count_placed F f l
  take_all_keeps [] l f lf = refl
  take_all_keeps (p ∷ ps) l f lf = take_all_keeps ps (take_one F p l) f lf ∙ take_one_keeps p l f lf

  -- The counting step that the machine and the writer share: one premise less.
  take_one_linears : (p : Fact) (ps : List Fact) (l : List (Placed Fact)) → ((f : Fact) → linear f ≡ true → count F f (p ∷ ps) ≤ count_placed F f l) →
      (f : Fact) → linear f ≡ true → (count F f ps ≤ count_placed F f (take_one F p l)) × (count_placed F f l ≡ bit (same f p) + count_placed F f (take_one F p l))
  take_one_linears p ps l h f lf =
      by_bool (linear p)
      (λ lp.
      let one : 1 ≤ count_placed F p l = (let z = ap bit (same_refl p) in omega (arith, h p lp)) in
      let c = take_one_counts p l lp one f in
      (omega (arith, h f lf), c))
      (λ lp. rw (lp, not_same F f p lf lp) (omega (arith, h f lf), omega arith))

  -- Each linear fact leaves the list exactly as often as it stands among the premises.
  pub take_all_counts : (ps : List Fact) (l : List (Placed Fact)) → ((f : Fact) → linear f ≡ true → count F f ps ≤ count_placed F f l) →
      (f : Fact) → linear f ≡ true → count_placed F f (take_all F ps l) + count F f ps ≡ count_placed F f l
  take_all_counts [] l h f lf = omega arith
  take_all_counts (p ∷ ps) l h f lf =
      let ih = take_all_counts ps (take_one F p l) (λ g lg. (take_one_linears p ps l h g lg).0) f lf in
      let c = (take_one_linears p ps l h f lf).1 in
      omega arith

  -- The writer finds a source for each premise just where there is enough.
  pub add_some : (a : Place) (o : Option (Placed Fact)) (r : Option (List Edge)) (es : List Edge) → add_edge a o r ≡ Some es →
      (t : Placed Fact) × (fs : List Edge) × (o ≡ Some t) × (r ≡ Some fs) × (es ≡ record { source = t.place; target = a } ∷ fs)
  add_some a None r es h = absurd (none-some es h)
  add_some a (Some t) None es h = absurd (none-some es h)
  add_some a (Some t) (Some fs) es h = (t, fs, refl, refl, sym (same_Some _ es h))

  pub edges_sources : (k i : ℕ) (ps : List Fact) (free : List (Placed Fact)) (es : List Edge) → edges_into F k i free ps ≡ Some es → Sources ps free
  edges_sources k i [] free es h = record { linears = λ f lf. omega arith; persistents = λ p m lp. absurd (Memᴰ.not-nil m) }
  edges_sources k i (p ∷ ps) free es h =
      let (t, fs, a, b, c) = add_some _ _ _ es h in
      let ih = edges_sources k (suc i) ps (take_one F p free) fs b in
      let one : 1 ≤ count_placed F p free = count_mem (λ t. same p t.fact) free t (first_mem _ free t a) (first_passes _ free t a) in
      record {
        linears = λ f lf.
            by_bool (linear p)
            (λ lp. omega (arith, ih.linears f lf, take_one_counts p free lp one f))
            (λ lp. rw (not_same F f p lf lp) (let l = ih.linears f lf in omega (arith, rw lp at l)));
        persistents = λ q m lq.
            ⊎_elim
            (λ e. rw e one)
            (λ n. omega (arith, ih.persistents q n lq, take_one_keeps p free q lq))
            (Memᴰ.cases_cons m);
      }

  pub sources_edges : (k i : ℕ) (ps : List Fact) (free : List (Placed Fact)) → Sources ps free → (es : List Edge) × (edges_into F k i free ps ≡ Some es)
  sources_edges k i [] free h = ([], refl)
  sources_edges k i (p ∷ ps) free h =
      let one : 1 ≤ count_placed F p free =
      by_bool (linear p) (λ lp. let z = ap bit (same_refl p) in omega (arith, h.linears p lp)) (λ lp. h.persistents p (Memᴰ.head refl) lp) in
      let (t, a) = first_some (λ t. same p t.fact) free one in
      let (es, b) = sources_edges k (suc i) ps (take_one F p free) (record {
        linears = λ f lf. (take_one_linears p ps free h.linears f lf).0;
        persistents = λ q m lq. omega (arith, h.persistents q (Memᴰ.tail m) lq, take_one_keeps p free q lq);
      }) in
      (record { source = t.place; target = record { node = k; index = i } } ∷ es, rw (a, b))

  -- What a step does to the counts of the writer's free conclusions.
  module _ (k : ℕ) (free : List (Placed Fact)) (x : Node Fact) (h : Sources x.premises free) where
    pub free_linear : (f : Fact) → linear f ≡ true → count_placed F f (free_after F k free x) + count F f x.premises ≡ count_placed F f free + count F f
        x.conclusions
    free_linear f lf =
        omega (
          arith,
          count_append (λ t. same f t.fact) (take_all F x.premises free) (placed k 1 x.conclusions),
          take_all_counts x.premises free h.linears f lf,
          placed_count F f k 1 x.conclusions,
        )

    pub free_persistent : (f : Fact) → linear f ≡ false → count_placed F f (free_after F k free x) ≡ count_placed F f free + count F f x.conclusions
    free_persistent f lf =
        omega (
          arith,
          count_append (λ t. same f t.fact) (take_all F x.premises free) (placed k 1 x.conclusions),
          take_all_keeps x.premises free f lf,
          placed_count F f k 1 x.conclusions,
        )

  pub tracks_next : (k : ℕ) (x : Node Fact) (free : List (Placed Fact)) (s : State Fact) → Tracks free s → Sources x.premises free → Tracks
      (free_after F k free x) (after F s x)
  tracks_next k x free s r h = record {
    in_bag = λ f lf. omega (arith, free_linear k free x h f lf, h.linears f lf, r.in_bag f lf, bag_after F s x f lf);
    in_set = λ f lf. leb_sum (count_placed F f free) (count F f x.conclusions) (count_placed F f (free_after F k free x)) (free_persistent k free x h f lf) ∙
        (ap (λ b. b || leb 1 (count F f x.conclusions)) (r.in_set f lf) ∙ sym (set_after F s x f lf));
  }
