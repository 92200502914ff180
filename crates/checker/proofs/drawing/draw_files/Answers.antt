-- Case by case: each size, the protocol's verdict, then the steps under the protocol that was prepared.
use Rattle.checker.specs.Answer.{refusal}
use Rattle.std.specs.Prelude.{ℕ}
use borrow.Author.Rules.{rules}
use Rattle.std.specs.Prelude.{◌≡◌, Err}
use Rattle.rules.specs.declared.fit.Unfit.TheVariants as un
use Rattle.checker.specs.Draw.Inside.{inside_refused, inside_prepared}
use Rattle.checker.specs.Draw.Cases.{protocol_over, steps_over, no_protocol}
use Rattle.checker.specs.Check.Inside.{its}
use Rattle.checker.specs.Files.Verdict.{ruled_malformed, ruled_broken}
use Rattle.rules.specs.Fit.Meaning.Verdicts.{broken_place}
use Rattle.rules.specs.Fit.Laws.{verdict_of}
use lib.ListN.{length}
use mathlib.Core.Path.{ap, sym, ◌∙◌}
use native.Mathlib.Omega.{arith}
use Rattle.checker.specs.Answer.{written_refused}
use Rattle.checker.proofs.drawing.draw_files.Goals as goal

pub returns-then-protocol-gt-PROTOCOL_LIMIT : goal.returns-then-protocol-gt-PROTOCOL_LIMIT
returns-then-protocol-gt-PROTOCOL_LIMIT c =
    inside_refused c.args.protocol.now c.args.steps.now c.args.output.now _ 2 1
    (λ work l. protocol_over c.args.protocol.now c.args.steps.now (length c.args.output.now) work l c.if-protocol-gt-PROTOCOL_LIMIT.true)
    (written_refused c.refuse.ensures)

pub returns-then-steps-gt-STEPS_LIMIT : goal.returns-then-steps-gt-STEPS_LIMIT
returns-then-steps-gt-STEPS_LIMIT c =
    inside_refused c.args.protocol.now c.args.steps.now c.args.output.now _ 2 5
    (λ work l. steps_over c.args.protocol.now c.args.steps.now (length c.args.output.now) work l c.if-protocol-gt-PROTOCOL_LIMIT.false
    c.if-steps-gt-STEPS_LIMIT.true) (written_refused c.refuse-then-steps-gt-STEPS_LIMIT.ensures)

pub draw_steps-requires : goal.draw_steps-requires
draw_steps-requires c =
    let i = its c.args.protocol.now c.args.steps.now c.args.steps.now _ c.prepare.result c.prepare.ensures.told
    c.in-Ok.is c.prepare.ensures.made in ((i.its, i.is), c.if-steps-gt-STEPS_LIMIT.false, c.requires)

pub refuse-requires-in-Err-Broken : goal.refuse-requires-in-Err-Broken
refuse-requires-in-Err-Broken c =
    let e : c.prepare.result ≡ Err (un.Broken c.in-Err-Broken.k) = search rules in
    let b = broken_place c.args.protocol.now (λ i. (c.type_inv.protocol i).fits) _
    (sym c.prepare.ensures.told ∙ ap verdict_of e) in (omega arith, omega (arith, b.small))

pub returns-in-Ok : goal.returns-in-Ok
returns-in-Ok c =
    inside_prepared c.args.protocol.now c.args.steps.now c.args.output.now c.draw_steps.result c.if-protocol-gt-PROTOCOL_LIMIT.false c.if-steps-gt-STEPS_LIMIT.false _
    _ c.prepare.result _ c.prepare.ensures.told c.in-Ok.is c.prepare.ensures.made c.draw_steps.ensures

pub returns-in-Err-Broken : goal.returns-in-Err-Broken
returns-in-Err-Broken c =
    let q : c.refuse-in-Err-Broken.result ≡ refusal 4 c.in-Err-Broken.k = c.refuse-in-Err-Broken.ensures ∙ ap (λ (i : ℕ). refusal 4 i) (omega arith) in
    let e : c.prepare.result ≡ Err (un.Broken c.in-Err-Broken.k) = search rules in
    inside_refused c.args.protocol.now c.args.steps.now c.args.output.now _ 4 _
    (λ work l. no_protocol c.args.protocol.now c.args.steps.now (length c.args.output.now) work l c.if-protocol-gt-PROTOCOL_LIMIT.false c.if-steps-gt-STEPS_LIMIT.false 4
    _ (ruled_broken c.args.protocol.now _ (sym c.prepare.ensures.told ∙ ap verdict_of e))) (written_refused q)

pub returns-in-Err-Fault : goal.returns-in-Err-Fault
returns-in-Err-Fault c =
    let e : c.prepare.result ≡ Err un.Fault = search rules in
    inside_refused c.args.protocol.now c.args.steps.now c.args.output.now _ 3 1
    (λ work l. no_protocol c.args.protocol.now c.args.steps.now (length c.args.output.now) work l c.if-protocol-gt-PROTOCOL_LIMIT.false c.if-steps-gt-STEPS_LIMIT.false 3
    1 (ruled_malformed c.args.protocol.now (sym c.prepare.ensures.told ∙ ap verdict_of e))) (written_refused c.refuse-in-Err-Fault.ensures)
