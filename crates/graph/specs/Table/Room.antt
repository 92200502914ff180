-- Tables of edges that are long enough for a file.
use Rattle.std.specs.Prelude.{ℕ, ◌≤◌, List, length}
use Rattle.std.proofs.Common.{arith}
use Rattle.graph.specs.Table.{edge_table, FieldsOf}

-- one for the most edges
pub all_fields : (s edges : List ℕ) → edge_table ≤ length edges → FieldsOf s edges
all_fields s edges h m few short = omega arith

-- one as long as the file
pub few_fields_lem : (s edges : List ℕ) → length s ≤ length edges → FieldsOf s edges
few_fields_lem s edges h m few short = omega arith
