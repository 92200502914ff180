-- A run is drawn, from the earliest sources; what is drawn is accepted, and where the writer refuses no edges whatever are.
use Rattle.std.specs.Prelude.{◌≡◌, refl, ◌↔◌, List, [], ◌∷◌, ℕ, suc}
use Rattle.std.proofs.Common.{sym, ◌∙◌, ap}
use Rattle.std.proofs.Common.{Some, None}
use Rattle.lists.specs.Tests.{by_bool, by_option, true_false}
use Rattle.rewriting.specs.Facts.{Facts, Tested}
use Rattle.rewriting.specs.Graph.{Node, Edge, NamesOnce, Accepted}
use Rattle.rewriting.specs.Machine.{State, start, Outcome, ran, failed, lacks, after, run_from, run, IsRun}
use Rattle.rewriting.specs.Machine.Laws.{failed_ran}
use Rattle.rewriting.specs.Table.{Ruling, passed, refused}
use Rattle.rewriting.specs.Table.Laws.{refused_passed}
use Rattle.rewriting.specs.Places.{Placed}
use Rattle.rewriting.specs.Writer.{name_twice_from, first_name_twice, add_node, edges_into, free_after, draw_from, draw}
use Rattle.rewriting.proofs.Writer.Laws.{Tracks, tracks_lacks, lacks_tracks, tracks_next, edges_sources, sources_edges}
use Rattle.rewriting.specs.Names.{twice_step, names_once, run_once}
use Rattle.rewriting.proofs.Runs.{accepted_runs}
use Rattle.rewriting.specs.Earliest.{Earliest}
use Rattle.rewriting.proofs.Earliest.Laws.{earliest_unique, earliest_accepted}
use Rattle.rewriting.proofs.Earliest.Drawn.{from_earliest}

module _ (F : Facts) where
  open F use {Fact, linear}

  -- The writer and the machine agree: both go through, or both stop at the same node.
  abbrev pub Agree : Ruling (List Edge) → Outcome Fact → Type 0
  Agree (passed es) o = (s : State Fact) × (o ≡ ran s)
  Agree (refused n k) o = o ≡ failed k

  agree_add : (k : ℕ) (es : List Edge) (d : Ruling (List Edge)) (o : Outcome Fact) → Agree d o → Agree (add_node k (Some es) d) o
  agree_add k es (passed fs) o h = h
  agree_add k es (refused n j) o h = h

  follow : (k : ℕ) (xs : List (Node Fact)) (free : List (Placed Fact)) (s : State Fact) → Tracks F free s → name_twice_from k s.made xs ≡ None →
      Agree (draw_from F k free xs) (run_from F k s xs)
  follow k [] free s r n = (s, refl)
  follow k (x ∷ xs) free s r n =
      let (a, b) = twice_step k s.made x xs n in
      by_bool (lacks F s x.premises)
      (λ l.
      by_option (edges_into F k 1 free x.premises)
      (λ e. rw (e, a, l) refl)
      (λ es e. true_false _ l (tracks_lacks F x.premises free s r (edges_sources F k 1 x.premises free es e))))
      (λ l.
      let h = lacks_tracks F x.premises free s r l in
      let (es, e) = sources_edges F k 1 x.premises free h in
      rw (e, a, l)
      (agree_add k es (draw_from F (suc k) (free_after F k free x) xs) (run_from F (suc k) (after F s x) xs)
      (follow (suc k) xs (free_after F k free x) (after F s x) (tracks_next F k x free s r h) b)))

  -- Where no name is made twice, the writer and the machine agree.
  pub from_agrees : (nodes : List (Node Fact)) → first_name_twice nodes ≡ None → Agree (draw_from F 1 [] nodes) (run F nodes)
  from_agrees nodes n = follow 1 nodes [] start (record { in_bag = λ f lf. refl; in_set = λ f lf. refl }) n

  draw_agrees : (nodes : List (Node Fact)) → first_name_twice nodes ≡ None → Agree (draw F nodes) (run F nodes)
  draw_agrees nodes n = rw n (from_agrees nodes n)

  -- "draws a graph exactly when the whole list is such a run", and what it draws is accepted.
  pub run_draws : (nodes : List (Node Fact)) → IsRun F nodes → (es : List Edge) × (draw F nodes ≡ passed es)
  run_draws nodes (s, r) = go (draw F nodes) refl (draw_agrees nodes (run_once F 1 nodes start s r))
    where
      go : (d : Ruling (List Edge)) → draw F nodes ≡ d → Agree d (run F nodes) → (es : List Edge) × (draw F nodes ≡ passed es)
      go (passed es) e a = (es, e)
      go (refused n k) e a = absurd (failed_ran k s (sym a ∙ r))

  -- What is drawn has no name twice, and the edges that are drawn from it.
  named_once : (nodes : List (Node Fact)) (es : List Edge) → draw F nodes ≡ passed es → NamesOnce nodes × (draw_from F 1 [] nodes ≡ passed es)
  named_once nodes es h =
      by_option (first_name_twice nodes) (λ n. (names_once nodes n, rw n at h)) (λ k e. absurd (refused_passed 9 k es (rw e at h)))

  pub drawn_accepts : (nodes : List (Node Fact)) (es : List Edge) → draw F nodes ≡ passed es → Accepted (Tested F) linear nodes es
  drawn_accepts nodes es h = let (n, d) = named_once nodes es h in earliest_accepted (Tested F) linear nodes es n (from_earliest F nodes es d)

  pub draws_exactly : (nodes : List (Node Fact)) → ((es : List Edge) × (draw F nodes ≡ passed es)) ↔ IsRun F nodes
  draws_exactly nodes = ((λ (es, e). accepted_runs F nodes es (drawn_accepts nodes es e)), run_draws nodes)

  -- Where the writer refuses, the nodes are no run, and no edges whatever are accepted.
  pub refused_no_run : (nodes : List (Node Fact)) (n k : ℕ) → draw F nodes ≡ refused n k → IsRun F nodes → ⊥
  refused_no_run nodes n k h r = let (es, e) = run_draws nodes r in refused_passed n k es (sym h ∙ e)

  pub refused_none : (nodes : List (Node Fact)) (n k : ℕ) → draw F nodes ≡ refused n k → (es : List Edge) → Accepted (Tested F) F.linear nodes es → ⊥
  refused_none nodes n k h es acc = refused_no_run nodes n k h (accepted_runs F nodes es acc)

  -- The writer draws just the earliest sources.
  pub draws_earliest : (nodes : List (Node Fact)) (es : List Edge) → (draw F nodes ≡ passed es) ↔ (NamesOnce nodes × Earliest (Tested F) linear nodes es)
  draws_earliest nodes es = (
    (λ h. let (n, d) = named_once nodes es h in (n, from_earliest F nodes es d)),
    (λ (n, g).
        let (fs, e) = run_draws nodes (accepted_runs F nodes es (earliest_accepted (Tested F) linear nodes es n g)) in
        e ∙ ap {B = Ruling (List Edge)} passed (earliest_unique (Tested F) linear nodes fs es (from_earliest F nodes fs (named_once nodes fs e).1) g)),
  )

  -- "Steps that could be drawn before can still be drawn": there are earliest sources just where the nodes are a run.
  pub run_earliest : (nodes : List (Node Fact)) → IsRun F nodes ↔ (NamesOnce nodes × ((es : List Edge) × Earliest (Tested F) linear nodes es))
  run_earliest nodes = (
    (λ r. let (es, e) = run_draws nodes r in let (n, g) = (draws_earliest nodes es).0 e in (n, (es, g))),
    (λ (n, (es, g)). accepted_runs F nodes es (earliest_accepted (Tested F) linear nodes es n g)),
  )
