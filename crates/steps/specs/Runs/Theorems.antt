-- The theorems of crate rewriting at the facts of a protocol, by the test of facts; by the equations they are in Equations.antt.
use Rattle.std.specs.Prelude.{ℕ, List, ◌⊎◌, ◌↔◌, ◌≡◌, length}
use Rattle.rewriting.specs.Graph.{Edge}
use Rattle.rewriting.specs.Table.{Ruling, passed, refused, Absent, Ruled}
use Rattle.rewriting.specs.Facts.{Tested}
use Rattle.rewriting.specs.Causes.{graph_rows}
use Rattle.rewriting.specs.Earliest.{Earliest}
use Rattle.rewriting.specs.Checker.{check_graph}
use Rattle.rewriting.specs.Writer.{draw}
use Rattle.rewriting.specs.Machine as machine
use Rattle.rewriting.proofs.Runs as runs
use Rattle.rewriting.proofs.Draws as draws
use Rattle.rewriting.specs.Names as names
use Rattle.rewriting.proofs.Acceptance as acceptance
use Rattle.rewriting.proofs.Whole as whole
use Rattle.rewriting.specs.Size as size
use Rattle.protocol.specs.Protocol.{Protocol}
use Rattle.steps.specs.Nodes.{Node}
use Rattle.steps.specs.Facts.{is_linear}
use Rattle.steps.specs.Runs.{protocol_facts, rewrittens, Accepted, NamesOnce}

module _ (p : Protocol) (xs : List Node) where
  -- the machine, with the test of facts, goes through all these nodes
  abbrev pub IsRun : Type 0
  IsRun = machine.IsRun (protocol_facts p) (rewrittens p xs)

  -- ── a graph of these nodes ──
  -- "if the graph is accepted, then its nodes in file order are a run .., no fresh name made twice"
  pub accepted_runs : (edges : List Edge) → Accepted p xs edges → IsRun
  accepted_runs edges acc = runs.accepted_runs (protocol_facts p) (rewrittens p xs) edges acc

  pub run_names : IsRun → NamesOnce p xs
  run_names r = names.run_names (protocol_facts p) (rewrittens p xs) r

  -- 9 to 13 are absent just where the graph is accepted
  pub absent_exactly : (edges : List Edge) → Absent (graph_rows (Tested (protocol_facts p)) (is_linear p) (rewrittens p xs) edges) ↔ Accepted p xs edges
  absent_exactly edges = acceptance.absent_exactly (protocol_facts p) (rewrittens p xs) edges

  -- the passes of 9 to 13 answer what the table says, and let through just the accepted graphs
  pub check_table :
      {A : Type 0} (edges : List Edge) (a : A) (Good : A → Type 0) → (Accepted p xs edges → Good a)
      → Ruled (graph_rows (Tested (protocol_facts p)) (is_linear p) (rewrittens p xs) edges) Good (check_graph (protocol_facts p) (rewrittens p xs) edges a)
  check_table edges a Good h = acceptance.check_table (protocol_facts p) (rewrittens p xs) edges a Good h

  pub check_accepted :
      {A : Type 0} (edges : List Edge) (a : A)
      → (check_graph (protocol_facts p) (rewrittens p xs) edges a ≡ passed a) ↔ Accepted p xs edges
  check_accepted edges a = acceptance.check_accepted (protocol_facts p) (rewrittens p xs) edges a

  -- an accepted graph has as many edges as premises
  pub accepted_size : (edges : List Edge) → Accepted p xs edges → length edges ≡ size.premise_count (rewrittens p xs)
  accepted_size edges acc = size.accepted_size (protocol_facts p) (rewrittens p xs) edges acc

  -- ── drawing these nodes ──
  abbrev pub drawn : Ruling (List Edge)
  drawn = draw (protocol_facts p) (rewrittens p xs)

  -- the earliest sources, by the test of facts
  abbrev pub EarliestTested : List Edge → Type 0
  EarliestTested edges = Earliest (Tested (protocol_facts p)) (is_linear p) (rewrittens p xs) edges

  -- "Drawing: .. 9, 14", and what is drawn has the earliest sources
  pub draw_table : Ruled (whole.machine_rows (protocol_facts p) (rewrittens p xs)) EarliestTested drawn
  draw_table = whole.draw_table (protocol_facts p) (rewrittens p xs)

  -- "draws a graph exactly when the whole list is such a run"
  pub draws_exactly : ((edges : List Edge) × (drawn ≡ passed edges)) ↔ IsRun
  draws_exactly = draws.draws_exactly (protocol_facts p) (rewrittens p xs)

  pub drawn_accepts : (edges : List Edge) → drawn ≡ passed edges → Accepted p xs edges
  drawn_accepts edges h = draws.drawn_accepts (protocol_facts p) (rewrittens p xs) edges h

  pub draws_earliest : (edges : List Edge) → (drawn ≡ passed edges) ↔ (NamesOnce p xs × EarliestTested edges)
  draws_earliest edges = draws.draws_earliest (protocol_facts p) (rewrittens p xs) edges

  -- "If the list is no run, .. no graph of these steps in this order is accepted, whatever its edges"
  pub refused_no_run : (n k : ℕ) → drawn ≡ refused n k → IsRun → ⊥
  refused_no_run n k h = draws.refused_no_run (protocol_facts p) (rewrittens p xs) n k h

  pub refused_none : (n k : ℕ) → drawn ≡ refused n k → (edges : List Edge) → Accepted p xs edges → ⊥
  refused_none n k h = draws.refused_none (protocol_facts p) (rewrittens p xs) n k h

  -- the two together, one statement about the whole list
  pub whole_list : whole.IsDrawn (protocol_facts p) (rewrittens p xs) ⊎ whole.IsRefused (protocol_facts p) (rewrittens p xs)
  whole_list = whole.whole (protocol_facts p) (rewrittens p xs)
