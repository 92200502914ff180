-- The invariant is that the first i flags are turned and spliced in; each turn adds one.
use borrow.Author.Rules.{rules}
use Rattle.prepared.specs.Filling.Lists.{linear_more}
use Rattle.prepared.specs.Prepared.{linear}
use Rattle.octets.specs.Splice.Laws.{splice_nil}
use Rattle.octets.specs.Splice.{splice}
use lib.Seq.{take_all}
use lib.ListN.{length-set}
use native.Mathlib.Omega.{arith}
use Prim.Native.Nat.{ℕ}
use mathlib.Core.List.{List, map}
use mathlib.Core.Path.{ap, sym, ◌∙◌}
use Rattle.prepared.proofs.filling.linears_into.Goals as goal

pub loop-i-init : goal.loop-i-init
loop-i-init c =
    (search rules, sym (splice_nil _ _))

pub loop-i-preserved : goal.loop-i-preserved
loop-i-preserved c = (
  simp length-set c.loop-i.invariant.0,
  linear_more c.args.out.now _ c.args.flags.now _ (omega arith) c.requires c.loop-i.invariant.1
      _ c.linear_of.ensures,
)

pub returns : goal.returns
returns c =
    c.loop-i.invariant.1 ∙ ap (λ (l : List ℕ). splice c.args.out.now 0 (map linear l))
    (take_all c.loop-i.i c.args.flags.now (omega arith))
