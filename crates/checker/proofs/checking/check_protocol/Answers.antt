-- A sound protocol is prepared, and the rest is ruled under it; a broken one is 4, a fault 3.
use Rattle.checker.specs.Answer.{refusal}
use Rattle.std.specs.Prelude.{ℕ}
use borrow.Author.Rules.{rules}
use Rattle.std.specs.Prelude.{◌≡◌, Err}
use Rattle.rules.specs.declared.fit.Unfit.TheVariants as un
use native.Mathlib.Omega.{arith}
use mathlib.Core.Path.{ap, sym, ◌∙◌}
use Rattle.rules.specs.Fit.Laws.{verdict_of}
use Rattle.rules.specs.Fit.Meaning.Verdicts.{broken_place}
use Rattle.checker.specs.Files.Verdict.{ruled_malformed, ruled_broken}
use Rattle.checker.specs.Check.Inside.{its, protocol_judged, protocol_turned}
use Rattle.checker.specs.Check.{ruled_refused}
use Rattle.checker.proofs.checking.check_protocol.Goals as goal

pub check_property-requires : goal.check_property-requires
check_property-requires c =
    let i = its c.args.protocol.now c.args.property.now c.args.graph.now _ c.prepare.result c.prepare.ensures.told
    c.in-Ok.is c.prepare.ensures.made in
    ((i.its, i.is), c.requires.1, c.requires.2)

pub refuse-requires : goal.refuse-requires
refuse-requires c =
    let e : c.prepare.result ≡ Err (un.Broken c.in-Err-Broken.k) = search rules in
    let b = broken_place c.args.protocol.now (λ i. (c.type_inv.protocol i).fits) _
    (sym c.prepare.ensures.told ∙ ap verdict_of e) in
    (omega arith, omega (arith, b.small))

pub returns-in-Ok : goal.returns-in-Ok
returns-in-Ok c =
    protocol_judged c.args.protocol.now c.args.property.now c.args.graph.now _ c.prepare.result c.prepare.ensures.told
    c.in-Ok.is c.prepare.ensures.made c.check_property.ensures

pub returns-in-Err-Broken : goal.returns-in-Err-Broken
returns-in-Err-Broken c =
    let q : c.refuse.result ≡ refusal 4 c.in-Err-Broken.k = c.refuse.ensures ∙ ap (λ (i : ℕ). refusal 4 i) (omega arith) in
    let e : c.prepare.result ≡ Err (un.Broken c.in-Err-Broken.k) = search rules in
    protocol_turned c.args.protocol.now c.args.property.now c.args.graph.now
    (ruled_broken c.args.protocol.now _ (sym c.prepare.ensures.told ∙ ap verdict_of e)) (ruled_refused q)

pub returns-in-Err-Fault : goal.returns-in-Err-Fault
returns-in-Err-Fault c =
    let e : c.prepare.result ≡ Err un.Fault = search rules in
    protocol_turned c.args.protocol.now c.args.property.now c.args.graph.now
    (ruled_malformed c.args.protocol.now (sym c.prepare.ensures.told ∙ ap verdict_of e)) (ruled_refused c.refuse-in-Err-Fault.ensures)
