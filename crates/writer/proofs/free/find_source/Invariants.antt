-- The scan goes from mark to mark, and the kept fact stays; none before is the same: another mark is another fact, and the rest were compared.
use Rattle.writer.specs.Search.{Searching, is_same}
use Rattle.writer.specs.Free.Laws.{NoneTo}
use Rattle.writer.specs.Free.{entry_placed}
use Rattle.facts.specs.declared.nodes.FactId.{FactId}
use Rattle.steps.specs.Nodes.{Node}
use Rattle.protocol.specs.Protocol.{Protocol}
use Rattle.lists.specs.Asks.{Promises₂}
use Rattle.std.proofs.Common.{Some, unwrap_or}
use Prim.Native.Nat.{ℕ, ◌-◌, ◌+◌, ◌<◌}
use lib.ListN.{length, get_or, take}
use mathlib.Core.List.{List}
use mathlib.Core.Path.{◌≡◌}
use Rattle.writer.proofs.free.find_source.Given as goal

abbrev pub invariant-loop-next : goal.invariant-loop-next
invariant-loop-next l = record {
  long : length l.work ≡ length l.initial.work;
  stays : take l.kept.end l.work ≡ take l.kept.end l.initial.work;
  marked : (v : ℕ) → l.next ≡ Some v → (v < l.end) × (get_or l.free v 0 ≡ l.kept.mark + 1);
  before : (a : FactId) → Promises₂ (Searching l.p l.s l.nodes l.free a l.initial.work l.kept)
      (λ (P : Protocol) (xs : List Node). NoneTo (entry_placed P xs) (is_same P xs a) l.free (unwrap_or l.next l.end));
}

abbrev pub decreases-loop-next : goal.decreases-loop-next
decreases-loop-next l =
    l.end - unwrap_or l.next l.end
