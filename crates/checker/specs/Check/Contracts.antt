-- What the functions inside the call check are asked, and what they promise.
use Rattle.std.specs.Prelude.{ℕ, ◌≤◌, List, ◌≡◌, replicate}
use Rattle.lists.specs.Lists.{count_by}
use Rattle.rewriting.specs.Table.{passed}
use Rattle.protocol.specs.Protocol.{Protocol, fact_arities}
use Rattle.prepared.specs.Prepared.{Prepared}
use Rattle.steps.specs.Nodes.{Node}
use Rattle.steps.specs.Table.{RowsOf, table_length}
use Rattle.graph.specs.Table.{FieldsOf, edge_table}
use Rattle.property.specs.Formula.{Formula}
use Rattle.property.specs.Layout as layouts
use Rattle.property.specs.Causes.Laws.{Passing}
use Rattle.trace.specs.Active.{is_active}
use Rattle.trace.specs.Truth.{truth}
use Rattle.checker.specs.Check.{Checked, Answer, ruled, check_outcome}

-- a prepared protocol, and a property that passes under it
pub record Under (p property : List ℕ) (P : Protocol) (f : Formula) : Type 0 where
  pub prepared : Prepared p P
  pub passing : Passing (layouts.property property (fact_arities P.symbols)) f

-- the verdict on n nodes and m edges
abbrev pub verdict_on : ℕ → ℕ → Protocol → List Node → Formula → Checked
verdict_on n m P xs f = record { holds = truth P xs f; nodes = n; active = count_by (is_active P) xs; edges = m }

abbrev pub Told : ℕ → ℕ → Answer → Protocol → List Node → Formula → Type 0
Told n m r P xs f = ruled r ≡ passed (verdict_on n m P xs f)

-- tables of so many numbers are long enough for a file, and no longer than those for every file
pub record Long (graph : List ℕ) (rows fields : ℕ) : Type 0 where
  pub nodes : RowsOf graph 0 (replicate rows 0)
  pub edges : FieldsOf graph (replicate fields 0)
  pub rows_few : rows ≤ table_length
  pub fields_few : fields ≤ edge_table

-- ── the call, with any work area that is long enough ──
abbrev pub Inside : List ℕ → List ℕ → List ℕ → Answer → ℕ → Type 0
Inside protocol property graph r work = ruled r ≡ check_outcome protocol property graph work
