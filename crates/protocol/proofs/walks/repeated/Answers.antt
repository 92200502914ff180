-- Each turn is one step of those that are left; where a step finds nothing, so do all of them.
use mathlib.Core.Path.{◌≡◌, ap, sym, ◌∙◌}
use mathlib.Core.Bool.{false}
use Prim.Native.Nat.{ℕ, ◌-◌}
use native.Mathlib.Omega.{arith}
use Rattle.protocol.specs.Protocol.Walks.{walks_on, walks_end, walks_turn, walks_stop}
use Rattle.protocol.proofs.walks.repeated.Goals as goal

pub loop-j-init : goal.loop-j-init
loop-j-init g c =
    λ h k. let m : c.args.n ≡ c.args.n - 0 = omega arith in ap (λ (n : ℕ). walks_on h n false c.args.at) m

pub loop-j-preserved : goal.loop-j-preserved
loop-j-preserved g c =
    λ h k. c.loop-j.invariant h k ∙ walks_turn h _ _ c.loop-j.found c.loop-j.i _ _ (omega arith)
    (sym (k c.loop-j.i _ c.in_ok-e.ensures))

pub returns-in_err-e : goal.returns-in_err-e
returns-in_err-e g c =
    λ h k. rw c.from_residual.ensures (sym (c.loop-j.invariant h k ∙ walks_stop h _ c.loop-j.found c.loop-j.i (omega arith)
    (sym (k c.loop-j.i _ c.in_err-e.ensures))))

pub returns : goal.returns
returns g c =
    λ h k. sym (c.loop-j.invariant h k ∙ walks_end h _ c.loop-j.found c.loop-j.i (omega arith))
