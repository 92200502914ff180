-- The whole list of nodes: what the writer draws and refuses, in the table's words.
use Rattle.std.specs.Prelude.{◌≡◌, refl, ◌⊎◌, Bool, true, ◌||◌, List, [], ◌∷◌, ◌++◌, ℕ, suc}
use Rattle.std.proofs.Common.{sym, ◌∙◌, ap, inl, inr}
use Rattle.std.proofs.Common.{Option, Some, None}
use Rattle.lists.specs.Tests.{by_bool}
use Rattle.lists.specs.Lists.{nth, before, leaves, scan}
use Rattle.rewriting.specs.Facts.{Facts, Tested}
use Rattle.rewriting.specs.Graph.{Node, Edge, NamesOnce, Accepted}
use Rattle.rewriting.specs.Machine.{State, start, ran, made_already, lacks, fails, after, run, IsRun}
use Rattle.rewriting.specs.Machine.Laws.{stop, stop_scan, clear_ran, ran_left, made_left}
use Rattle.rewriting.specs.Table.{Ruling, passed, refused, Row, row, Least, Ruled, Says, Finds}
use Rattle.rewriting.specs.Table.Laws.{refused_passed, finds_least, ruled_then, ruled_says}
use Rattle.rewriting.specs.Table.Scans.{Hit, scan_finds, least_clear}
use Rattle.rewriting.specs.Causes.{NameTwice}
use Rattle.rewriting.specs.Places.{Placed}
use Rattle.rewriting.specs.Writer.{add_node, edges_into, free_after, draw_from, draw}
use Rattle.rewriting.specs.Names.{already_earlier, absent_none, name_pass, run_names}
use Rattle.rewriting.specs.Earliest.{Earliest}
use Rattle.rewriting.proofs.Earliest.Drawn.{from_earliest}
use Rattle.rewriting.proofs.Draws.{Agree, from_agrees, drawn_accepts, draws_exactly, draws_earliest, refused_no_run, refused_none}

module _ (F : Facts) where
  open F use {Fact, linear}

  -- 14 as the machine finds it: it has gone through the nodes before `k`, and its state lacks a premise of `k`.
  pub record Lacking (nodes : List (Node Fact)) (k : ℕ) : Type 0 where
    pub node : Node Fact
    pub state : State Fact
    pub stands : nth nodes k ≡ Some node
    pub reached : run F (before k nodes) ≡ ran state
    pub missing : lacks F state node.premises ≡ true

  abbrev pub machine_rows : List (Node Fact) → List Row
  machine_rows nodes = row 9 (NameTwice nodes) ∷ row 14 (Lacking nodes) ∷ []

  -- Where no name is made twice, the machine stops at the first node whose premises are missing.
  stops : (nodes : List (Node Fact)) → ((k : ℕ) → NameTwice nodes k → ⊥) → Finds (Lacking nodes) (stop F (run F nodes))
  stops nodes once =
      rw (stop_scan F 1 start nodes)
      (finds_least (Hit bad (after F) start nodes) (Lacking nodes) to fro (scan bad (after F) 1 start nodes) (scan_finds bad (after F) start nodes))
    where
      bad : ℕ → State Fact → Node Fact → Bool
      bad k s x = fails F s x

      left : ℕ → State Fact
      left k = leaves (after F) start (before k nodes)

      to : (k : ℕ) → Least (Hit bad (after F) start nodes) k → Lacking nodes k
      to k h =
          let g = h.here in
          by_bool (lacks F (left k) g.which.premises)
          (λ l. record {
            node = g.which;
            state = left k;
            stands = g.stands;
            reached = clear_ran F 1 start (before k nodes) (least_clear bad (after F) start nodes k h);
            missing = l;
          })
          (λ l.
          let b = g.is_bad in
          let a : made_already (left k).made g.which.makes ≡ true = rw l at b in
          absurd (once k (already_earlier nodes k g.which g.stands (ap (λ m. made_already m g.which.makes) (sym (made_left F start (before k nodes)))
          ∙ a))))

      fro : (k : ℕ) → Lacking nodes k → Hit bad (after F) start nodes k
      fro k h =
          let l : lacks F (left k) h.node.premises ≡ true = ap (λ s. lacks F s h.node.premises)
          (ran_left F 1 start (before k nodes) h.state h.reached) ∙ h.missing in
          record { which = h.node; stands = h.stands; is_bad = ap (λ b. b || made_already (left k).made h.node.makes) l }

  -- Behind the pass over the names, the writer refuses with 14 alone.
  add_number : (k : ℕ) (o : Option (List Edge)) (d : Ruling (List Edge)) → ((n j : ℕ) → d ≡ refused n j → n ≡ 14) → (n j : ℕ) → add_node k o d ≡ refused n j → n
      ≡ 14
  add_number k None d h n j e = cc
  add_number k (Some es) (passed fs) h n j e = absurd (refused_passed n j (es ++ fs) (sym e))
  add_number k (Some es) (refused m i) h n j e = h n j e

  draw_number : (k : ℕ) (xs : List (Node Fact)) (free : List (Placed Fact)) (n j : ℕ) → draw_from F k free xs ≡ refused n j → n ≡ 14
  draw_number k [] free n j e = absurd (refused_passed n j [] (sym e))
  draw_number k (x ∷ xs) free n j e =
      add_number k (edges_into F k 1 free x.premises) (draw_from F (suc k) (free_after F k free x) xs) (draw_number (suc k) xs (free_after F k free x)) n j e

  -- "Drawing: .. 9, 14": the writer's answer is what the table says, 9 over the whole list before 14, the first such node;
  -- and what it draws has the earliest sources.
  pub draw_table : (nodes : List (Node Fact)) → Ruled (machine_rows nodes) (Earliest (Tested F) linear nodes) (draw F nodes)
  draw_table nodes =
      ruled_then (Earliest (Tested F) linear nodes) (name_pass nodes ∷ []) (row 14 (Lacking nodes) ∷ []) (draw_from F 1 [] nodes)
      (λ n. premises n.0 (draw_from F 1 [] nodes) refl (from_agrees F nodes (absent_none nodes n.0)))
    where
      premises : ((k : ℕ) → NameTwice nodes k → ⊥) → (d : Ruling (List Edge)) → draw_from F 1 [] nodes ≡ d → Agree F d (run F nodes) →
          Ruled (row 14 (Lacking nodes) ∷ []) (Earliest (Tested F) linear nodes) d
      premises n (passed es) e (s, r) = let f = stops nodes n in inl (
        (rw r at f),
        (es, from_earliest F nodes es e, refl),
      )
      premises n (refused m k) e a =
          let f = stops nodes n in
          inr (k, (rw a at f), ap {B = Ruling (List Edge)} (λ m. refused m k) (draw_number 1 nodes [] m k e))

  -- Demand 3 over facts, one statement about the whole list of nodes. "draws a graph exactly when the whole list is such a run.
  -- That graph .. is accepted":
  pub record IsDrawn (nodes : List (Node Fact)) : Type 0 where
    pub edges : List Edge
    pub is_drawn : draw F nodes ≡ passed edges
    pub is_run : IsRun F nodes
    pub no_name_twice : NamesOnce nodes
    pub is_accepted : Accepted (Tested F) linear nodes edges
    pub is_earliest : Earliest (Tested F) linear nodes edges

  -- "If the list is no run, then the writer refuses it .. with 9 or 14 .., and no graph of these steps in this order is accepted,
  -- whatever its edges":
  pub record IsRefused (nodes : List (Node Fact)) : Type 0 where
    pub number : ℕ
    pub item : ℕ
    pub is_refused : draw F nodes ≡ refused number item
    pub says : Says (machine_rows nodes) number item
    pub no_run : IsRun F nodes → ⊥
    pub no_graph : (edges : List Edge) → Accepted (Tested F) linear nodes edges → ⊥

  pub whole : (nodes : List (Node Fact)) → IsDrawn nodes ⊎ IsRefused nodes
  whole nodes = go (draw F nodes) refl (draw_table nodes)
    where
      go : (d : Ruling (List Edge)) → draw F nodes ≡ d → Ruled (machine_rows nodes) (Earliest (Tested F) linear nodes) d → IsDrawn nodes ⊎ IsRefused nodes
      go (passed es) e t =
          let r = (draws_exactly F nodes).0 (es, e) in
          inl (record {
            edges = es;
            is_drawn = e;
            is_run = r;
            no_name_twice = run_names F nodes r;
            is_accepted = drawn_accepts F nodes es e;
            is_earliest = ((draws_earliest F nodes es).0 e).1;
          })
      go (refused n k) e t =
          inr (record {
            number = n;
            item = k;
            is_refused = e;
            says = ruled_says (Earliest (Tested F) linear nodes) (machine_rows nodes) n k t;
            no_run = refused_no_run F nodes n k e;
            no_graph = refused_none F nodes n k e;
          })
