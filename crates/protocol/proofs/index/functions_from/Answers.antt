-- The invariant is that the first j arities are read and that the table is `tag_arities` of them; each turn sets one slot.
use borrow.Author.Rules.{rules}
use Rattle.protocol.specs.Index.Fill.{Slotting, slots_begin, slots_next}
use Rattle.number.specs.Reading.Many.{many_stop}
use Rattle.number.specs.Reading.{as_read}
use mathlib.Core.Path.{◌≡◌, ap, sym, ◌∙◌, subst}
use Prim.Native.Nat.{ℕ, ◌<◌}
use lib.ListN.{length-set}
use native.Mathlib.Omega.{arith}
use Rattle.protocol.specs.Protocol.Walks.{below_small}
use Rattle.protocol.proofs.index.functions_from.Goals as goal

pub loop-j-init : goal.loop-j-init
loop-j-init c =
    (search rules, slots_begin _ _ c.args.arities.now c.requires.2)

pub overflow_cast-arities : goal.overflow_cast-arities
overflow_cast-arities c =
    omega (arith, below_small _ _ _ (sym c.below.ensures ∙ ap as_read c.in_ok-v.was))

pub loop-j-preserved : goal.loop-j-preserved
loop-j-preserved c =
    let l : c.loop-j.j < 16 = omega arith in
    (simp length-set (omega arith), slots_next _ _ _ _ _ _ _ c.loop-j.invariant.1 (sym c.below.ensures ∙ ap as_read c.in_ok-v.was) l)

pub returns-in_err-v : goal.returns-in_err-v
returns-in_err-v c =
    record {
      kept = search rules;
      told = rw c.from_residual.ensures (many_stop _ _ _ _ _ _ c.loop-j.invariant.1.there (sym c.below.ensures ∙ ap as_read c.in_err-v.was)
          c.loop-j-test.true);
    }

pub returns : goal.returns
returns c =
    let m : c.loop-j.j ≡ c.args.n = omega arith in
    let o : Slotting c.args.file.now c.args.at c.args.n c.loop-j.i c.loop-j.arities = subst
    (λ (k : ℕ). Slotting c.args.file.now c.args.at k c.loop-j.i c.loop-j.arities) m c.loop-j.invariant.1 in
    record { kept = search rules; told = record { item = o.items; there = o.there; says = o.slotted } }
