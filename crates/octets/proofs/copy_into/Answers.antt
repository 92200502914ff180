-- The invariant is that the slice is its entry with the first i bytes of the source spliced in; each turn adds one.
use lib.Seq.{take_all}
use lib.ListN.{set, get_or, length-set}
use native.Mathlib.Omega.{arith}
use mathlib.Core.Path.{ap, sym, ◌∙◌}
use mathlib.Core.List.{List}
use Prim.Native.Nat.{ℕ, ◌+◌}
use Rattle.octets.specs.Splice.Laws.{splice_copy, splice_nil}
use borrow.Author.Rules.{rules}
use Rattle.octets.specs.Splice.{splice}
use Rattle.octets.proofs.copy_into.Goals as goal

pub loop-i-init : goal.loop-i-init
loop-i-init c = (search rules, search rules, sym (splice_nil _ _))

pub loop-i-preserved : goal.loop-i-preserved
loop-i-preserved c =
    let a = c.args in
    let l = c.loop-i in (
      search rules,
      simp length-set l.invariant.1,
      ap (λ (m : List ℕ). set m (a.at + l.i) (get_or a.src.now l.i 0)) l.invariant.2
          ∙ splice_copy 0 a.out.now a.at a.src.now l.i (omega arith) (omega arith),
    )

pub returns : goal.returns
returns c =
    let a = c.args in
    let l = c.loop-i in
    record { next = search rules; wrote = l.invariant.2 ∙ ap (splice a.out.now a.at) (take_all l.i a.src.now c.loop-i-test.false) }
