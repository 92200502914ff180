-- The nodes of an accepted graph are a run: each linear fact is wanted at most as often as it is given, by counting the edges.
use Rattle.std.specs.Prelude.{◌≡◌, refl, Bool, true, false, ◌&&◌, ◌||◌, List, [], ◌∷◌, ◌++◌, ℕ, suc, ◌+◌, ◌≤◌, ◌<◌, leb}
use Rattle.std.proofs.Math.Path.{sym, ap}
use Rattle.std.proofs.Common.{◌∙◌, subst, append_assoc, arith}
use Rattle.std.proofs.Math.Logic.{⊎_elim}
use mathlib.Core.List.Memᴰ
use Rattle.std.proofs.Common.{Some}
use Rattle.std.proofs.lemmas.Option.{same_Some}
use Rattle.lists.specs.Tests.{and_split, and_both, le_leb, leb_sum}
use Rattle.lists.specs.Lists.{◌∈◌, count_by, any_by}
use Rattle.lists.specs.Lists.Laws.{count_append, count_pos, count_mem, any_mem, any_pos}
use Rattle.lists.specs.Lists.Pairing.{covers, packs}
use Rattle.rewriting.specs.Facts.{Facts, count, Tested}
use Rattle.rewriting.specs.Graph.{Node, Place, Edge, same_place, name_of, names_of, premise_at, conclusion_at, Accepted}
use Rattle.rewriting.specs.Machine.{State, start, ran, made_already, after, run_from, IsRun}
use Rattle.rewriting.specs.Machine.Laws.{bag_after, set_after}
use Rattle.rewriting.proofs.Machine.Laws.{enough_lacks}
use Rattle.rewriting.specs.Places.{Placed, placed, premises_from, conclusions_from, count_at, count_placed}
use Rattle.rewriting.specs.Places.Laws.{place_eq, place_self, placed_all_mem, placed_stands, stands_placed}
use Rattle.rewriting.specs.Places.Laws.{placed_all_once, once_apart, placed_node, placed_count}
use Rattle.rewriting.specs.Names.{fresh_name}

module _ (F : Facts) (nodes : List (Node F.Fact)) (edges : List Edge) (acc : Accepted (Tested F) F.linear nodes edges) where
  open F use {Fact, same, linear, same_refl, same_sym, same_trans, same_linear}

  -- `ws` are premises of nodes up to `k`, and `ms` are all conclusions of the nodes before it.
  module _ (k : ℕ) (ws ms : List (Placed Fact))
      (wanted : (w : Placed Fact) → w ∈ ws → (premise_at nodes w.place ≡ Some w.fact) × (w.place.node ≤ k))
      (once : (a : Place) → count_at a ws ≤ 1)
      (given : (t : Placed Fact) → t ∈ ms → conclusion_at nodes t.place ≡ Some t.fact)
      (earlier : (t : Placed Fact) → conclusion_at nodes t.place ≡ Some t.fact → t.place.node < k → t ∈ ms)
      (f : Fact) where
    -- The edges into those premises that are the same as `f`.
    feeds : Edge → Bool
    feeds e = any_by (λ w. same f w.fact && same_place w.place e.target) ws

    fed_count : count_placed F f ws ≤ count_by feeds edges
    unfolding feeds
    fed_count =
        covers (λ w e. same_place w.place e.target) (λ w. same f w.fact) edges ws (once_apart (λ e. e.target) ws once)
        (λ w m t. omega (arith, acc.one_into w.place w.fact (wanted w m).0))
        feeds
        (λ w m t e u. any_mem (λ w. same f w.fact && same_place w.place e.target) ws w m (and_both _ _ t u))

    source_of : (e : Edge) → e ∈ edges → feeds e ≡ true → (t : Placed Fact) × (t ∈ ms) × (same f t.fact ≡ true) × (same_place t.place e.source ≡ true)
    unfolding feeds
    source_of e m h =
        let (w, n, u) = any_pos (λ w. same f w.fact && same_place w.place e.target) ws h in
        let (a, b) = and_split (same f w.fact) (same_place w.place e.target) u in
        let j = acc.joins e m in
        let at = place_eq w.place e.target b in
        let is : j.to ≡ w.fact = same_Some _ _ (sym j.has_target ∙ (ap (λ p. premise_at nodes p) (sym at) ∙ (wanted w n).0)) in
        let low : e.target.node ≤ k = (let z = ap (λ p. p.node) at in let y = (wanted w n).1 in omega arith) in
        let t : Placed Fact = record { place = e.source; fact = j.from } in (
          t,
          earlier t j.has_source (let z = j.earlier in omega arith),
          same_trans f w.fact j.from a (same_sym j.from w.fact (ap (λ g. same j.from g) (sym is) ∙ j.facts_same)),
          place_self e.source,
        )

    -- A linear fact is wanted at most as often as it is given, and a fact that is wanted is given.
    linear_bound : linear f ≡ true → count_placed F f ws ≤ count_placed F f ms
    linear_bound lf =
        let p = packs (λ t e. same_place t.place e.source) (λ t. same f t.fact) edges ms
        (λ t m u. acc.one_out t.place t.fact (given t m) (sym (same_linear f t.fact u) ∙ lf))
        feeds source_of in
        omega (arith, fed_count)

    any_bound : 1 ≤ count_placed F f ws → 1 ≤ count_placed F f ms
    any_bound h =
        let (e, m, u) = count_pos feeds edges (omega (arith, fed_count)) in
        let (t, n, v, _) = source_of e m u in
        count_mem (λ t. same f t.fact) ms t n v

  -- Where the machine stands before node `k`: the premises and the conclusions so far, and what they leave in the state.
  record Reached (k : ℕ) (rest : List (Node Fact)) (s : State Fact) : Type 0 where
    ws : List (Placed Fact)
    ms : List (Placed Fact)
    all_premises : premises_from 1 nodes ≡ ws ++ premises_from k rest
    all_conclusions : conclusions_from 1 nodes ≡ ms ++ conclusions_from k rest
    all_names : names_of nodes ≡ s.made ++ names_of rest
    before : (w : Placed Fact) → w ∈ ws → w.place.node < k
    in_bag : (f : Fact) → linear f ≡ true → s.bag f + count_placed F f ws ≡ count_placed F f ms
    in_set : (f : Fact) → linear f ≡ false → s.set f ≡ leb 1 (count_placed F f ms)

  module _ (k : ℕ) (x : Node Fact) (rest : List (Node Fact)) (s : State Fact) (r : Reached k (x ∷ rest) s) where
    now : List (Placed Fact)
    now = placed k 1 x.premises

    ws' : List (Placed Fact)
    unfolding now
    ws' = r.ws ++ now

    all_premises' : premises_from 1 nodes ≡ ws' ++ premises_from (suc k) rest
    unfolding ws'
    all_premises' = r.all_premises ∙ sym (append_assoc r.ws (placed k 1 x.premises) (premises_from (suc k) rest))

    wanted' : (w : Placed Fact) → w ∈ ws' → (premise_at nodes w.place ≡ Some w.fact) × (w.place.node ≤ k)
    unfolding ws'
    wanted' w m = (
      placed_stands (λ x. x.premises) nodes w (subst (λ l. w ∈ l) (sym all_premises') (Memᴰ.append_left _ m)),
      ⊎_elim (λ n. omega (arith, r.before w n)) (λ n. omega (arith, placed_node k 1 x.premises w n)) (Memᴰ.append_cases r.ws m),
    )

    once' : (a : Place) → count_at a ws' ≤ 1
    once' a =
        let l = placed_all_once (λ x. x.premises) a 1 nodes in
        let c = rw all_premises' at l in
        omega (arith, rw count_append at c)

    given' : (t : Placed Fact) → t ∈ r.ms → conclusion_at nodes t.place ≡ Some t.fact
    given' t m = placed_stands (λ x. x.conclusions) nodes t (subst (λ l. t ∈ l) (sym r.all_conclusions) (Memᴰ.append_left _ m))

    earlier' : (t : Placed Fact) → conclusion_at nodes t.place ≡ Some t.fact → t.place.node < k → t ∈ r.ms
    earlier' t h low =
        ⊎_elim
        (λ n. n)
        (λ n. let (j, a, _) = placed_all_mem (λ x. x.conclusions) k (x ∷ rest) t n in absurd (omega arith))
        (Memᴰ.append_cases r.ms (subst (λ l. t ∈ l) r.all_conclusions (stands_placed (λ x. x.conclusions) nodes t h)))

    ws'_count : (f : Fact) → count_placed F f ws' ≡ count_placed F f r.ws + count F f x.premises
    unfolding ws'
    ws'_count f = omega (arith, count_append (λ t. same f t.fact) r.ws (placed k 1 x.premises), placed_count F f k 1 x.premises)

    enough : (f : Fact) → linear f ≡ true → count F f x.premises ≤ s.bag f
    enough f lf = omega (arith, linear_bound k ws' r.ms wanted' once' given' earlier' f lf, ws'_count f, r.in_bag f lf)

    there : (p : Fact) → p ∈ x.premises → linear p ≡ false → s.set p ≡ true
    there p m lp =
        let c = count_mem (same p) x.premises p m (same_refl p) in
        r.in_set p lp ∙ le_leb 1 (count_placed F p r.ms) (any_bound k ws' r.ms wanted' once' given' earlier' p (omega (arith, ws'_count p)))

    ms'_count : (f : Fact) → count_placed F f (r.ms ++ placed k 1 x.conclusions) ≡ count_placed F f r.ms + count F f x.conclusions
    ms'_count f = omega (arith, count_append (λ t. same f t.fact) r.ms (placed k 1 x.conclusions), placed_count F f k 1 x.conclusions)

    not_already : made_already s.made x.makes ≡ false
    not_already = fresh_name s.made (names_of rest) x.makes (λ m. rw r.all_names at (acc.names_once m))

    next : Reached (suc k) rest (after F s x)
    next = record {
      ws = ws';
      ms = r.ms ++ placed k 1 x.conclusions;
      all_premises = all_premises';
      all_conclusions = r.all_conclusions ∙ sym (append_assoc r.ms (placed k 1 x.conclusions) (conclusions_from (suc k) rest));
      all_names = r.all_names ∙ sym (append_assoc s.made (name_of x.makes) (names_of rest));
      before = λ w m. omega (arith, (wanted' w m).1);
      in_bag = λ f lf. omega (arith, enough f lf, r.in_bag f lf, ws'_count f, ms'_count f, bag_after F s x f lf);
      in_set = λ f lf.
          set_after F s x f lf ∙ (ap (λ b. b || leb 1 (count F f x.conclusions)) (r.in_set f lf) ∙
          sym (leb_sum (count_placed F f r.ms) (count F f x.conclusions) (count_placed F f (r.ms ++ placed k 1 x.conclusions)) (ms'_count f)));
    }

  runs_from : (k : ℕ) (rest : List (Node Fact)) (s : State Fact) → Reached k rest s → (s' : State Fact) × (run_from F k s rest ≡ ran s')
  runs_from k [] s r = (s, refl)
  runs_from k (x ∷ rest) s r =
      let (s', e) = runs_from (suc k) rest (after F s x) (next k x rest s r) in
      (s', rw (not_already k x rest s r, enough_lacks F s x.premises (record { linears = enough k x rest s r; persistents = there k x rest s r })) e)

  pub accepted_runs : IsRun F nodes
  accepted_runs = runs_from 1 nodes start (record {
    ws = [];
    ms = [];
    all_premises = refl;
    all_conclusions = refl;
    all_names = refl;
    before = λ w m. absurd (Memᴰ.not-nil m);
    in_bag = λ f lf. refl;
    in_set = λ f lf. refl;
  })
