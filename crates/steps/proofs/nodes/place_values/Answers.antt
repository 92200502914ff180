-- The invariant is that v values are read up to i, their places and sizes entered, their variables told; each turn adds a value.
use Rattle.std.specs.Result.{result_ok}
use Rattle.steps.specs.Nodes.Code.{fault_of}
use Rattle.steps.specs.Nodes.Filling.{Placing, placing_none, placing_more, placing_fault, values_read, values_broken, ValuesRead}
use Prim.Native.Nat.{ℕ, ◌+◌, ◌<◌}
use Rattle.number.specs.Groups.{number_limit}
use Rattle.std.proofs.Common.{Ok}
use Rattle.std.specs.Int.{from_bool}
use mathlib.Core.Bool.{Bool, true, false}
use Rattle.steps.specs.Table.{place_count, held_flag}
use Rattle.protocol.specs.Figures.{most_variables}
use lib.ListN.{set, length-set}
use mathlib.Core.Path.{◌≡◌, ap, refl, sym, ◌∙◌, subst}
use native.Mathlib.Omega.{arith}
use Rattle.steps.proofs.nodes.place_values.Goals as goal

pub loop-v-init : goal.loop-v-init
loop-v-init c =
    (refl, placing_none _ _ _ _ _)

pub loop-v-preserved : goal.loop-v-preserved
unfolding number_limit
loop-v-preserved c =
    let m : c.loop-v.v < 16 = omega (arith, c.requires.1, c.loop-v-test.true) in (
      simp length-set c.loop-v.invariant.0,
      placing_more _ _ _ _ _ c.loop-v.v c.loop-v.i c.loop-v.held c.loop-v.nodes m
          (omega (arith, c.requires.2, c.loop-v.invariant.0)) c.loop-v.invariant.1 _
          (sym c.walk_term.ensures ∙ (c.ok_or.ensures.ok_part ∙ ap result_ok c.in_ok-w.was)),
    )

pub returns-in_err-w : goal.returns-in_err-w
unfolding number_limit
returns-in_err-w c =
    let m : c.loop-v.v < 16 = omega (arith, c.requires.1, c.loop-v-test.true) in
    let (z, none) = fault_of c.walk_term.result c.from_residual.result c.from_residual.ensures.1 c.in_err-w.was c.ok_or.ensures.value in
    rw z
    (values_broken _ _ _ _ _ c.args.k c.loop-v.nodes (placing_fault _ _ _ _ _ c.loop-v.v c.loop-v.i c.loop-v.held c.loop-v.nodes m
    (omega (arith, c.requires.2, c.loop-v.invariant.0)) c.loop-v.invariant.1 c.args.k c.loop-v-test.true
    (sym c.walk_term.ensures ∙ none)) c.loop-v.invariant.1.before)

as_flag : (b : Bool) → held_flag b ≡ from_bool b
as_flag true = refl
as_flag false = refl

pub returns : goal.returns
returns c =
    let z : c.loop-v.v ≡ c.args.k = omega (arith, c.loop-v-test.false, c.loop-v.auto.v-end) in
    subst (λ (f : ℕ). ValuesRead c.args.s.now c.args.arities.now c.args.at c.args.k c.args.nodes.now
    (set (set c.loop-v.nodes (c.args.to + c.args.k) c.loop-v.i) (c.args.to + place_count + most_variables) f)
    c.args.to (Ok c.loop-v.i)) (as_flag c.loop-v.held ∙ sym c.from.ensures)
    (values_read _ _ _ _ _ c.args.k c.loop-v.i c.loop-v.held c.loop-v.nodes c.requires.1
    (omega (arith, c.requires.2, c.loop-v.invariant.0)) (subst (λ (w : ℕ). Placing c.args.s.now c.args.arities.now c.args.at
    c.args.to c.args.nodes.now w c.loop-v.i c.loop-v.held c.loop-v.nodes) z
    c.loop-v.invariant.1))
