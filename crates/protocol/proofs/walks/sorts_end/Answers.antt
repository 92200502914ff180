-- The invariant is that j sorts were read up to i; each turn reads one more.
use Rattle.protocol.specs.Figures.{sort_count}
use Rattle.protocol.specs.Protocol.Walks.{sorts_came, sorts_stop}
use Rattle.number.specs.Reading.Many.{Came, came_none, came_more, came_stop}
use Rattle.number.specs.Reading.{below, as_read}
use mathlib.Core.Path.{◌≡◌, ap, sym, ◌∙◌, subst}
use Prim.Native.Nat.{ℕ}
use native.Mathlib.Omega.{arith}
use Rattle.protocol.proofs.walks.sorts_end.Goals as goal

pub loop-j-init : goal.loop-j-init
loop-j-init c =
    came_none _ _

pub loop-j-preserved : goal.loop-j-preserved
loop-j-preserved c =
    came_more _ _ _ _ _ _ c.loop-j.invariant (sym c.below.ensures ∙ ap as_read c.in_ok-e.was)

pub returns-in_err-e : goal.returns-in_err-e
returns-in_err-e c =
    rw c.from_residual.ensures (sym (sorts_stop _ _ _ (came_stop _ _ _ _ _ c.loop-j.invariant (sym c.below.ensures ∙ ap as_read c.in_err-e.was)
    c.loop-j-test.true)))

pub returns : goal.returns
returns c =
    let m : c.loop-j._j ≡ c.args.n = omega arith in
    sym (sorts_came _ _ _ (subst (λ (k : ℕ). Came (below c.args.file.now sort_count) c.args.at k c.loop-j.i) m c.loop-j.invariant))
