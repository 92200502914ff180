-- The causes in the table's order: two lengths, the protocol's verdict, then the term under a sound protocol.
use Rattle.checker.specs.Answer.{refusal}
use Rattle.std.specs.Prelude.{ℕ}
use borrow.Author.Rules.{rules}
use Rattle.std.specs.Prelude.{◌≡◌, Err}
use Rattle.rules.specs.declared.fit.Unfit.TheVariants as un
use Rattle.checker.specs.Canonical.Inside.{inside_refused}
use Rattle.checker.specs.Canonical.Cases.{protocol_over, term_over, no_protocol}
use Rattle.rules.specs.Fit.Meaning.Verdicts.{broken_place}
use Rattle.checker.specs.Canonical.Whole.{sound_asks, sound_inside}
use Rattle.checker.specs.Files.Verdict.{ruled_malformed, ruled_broken}
use Rattle.rules.specs.Fit.Laws.{verdict_of}
use mathlib.Core.Path.{ap, sym, ◌∙◌}
use native.Mathlib.Omega.{arith}
use lib.ListN.{length}
use Rattle.checker.specs.Answer.{written_refused}
use Rattle.checker.proofs.canonical_inside.Goals as goal

pub returns-then-protocol-gt-PROTOCOL_LIMIT : goal.returns-then-protocol-gt-PROTOCOL_LIMIT
returns-then-protocol-gt-PROTOCOL_LIMIT c =
    inside_refused c.args.protocol.now c.args.term.now c.args.output.now _ 2 1
    (λ work l. protocol_over c.args.protocol.now c.args.term.now (length c.args.output.now) work l c.if-protocol-gt-PROTOCOL_LIMIT.true)
    (written_refused c.refuse.ensures)

pub returns-then-term-gt-TERM_LIMIT : goal.returns-then-term-gt-TERM_LIMIT
returns-then-term-gt-TERM_LIMIT c =
    inside_refused c.args.protocol.now c.args.term.now c.args.output.now _ 2 4
    (λ work l. term_over c.args.protocol.now c.args.term.now (length c.args.output.now) work l c.if-protocol-gt-PROTOCOL_LIMIT.false
    c.if-term-gt-TERM_LIMIT.true) (written_refused c.refuse-then-term-gt-TERM_LIMIT.ensures)

pub under_protocol-requires : goal.under_protocol-requires
under_protocol-requires c = (
  c.requires,
  sound_asks c.args.protocol.now _ _ _ _ c.args.term.now c.judge.result _ c.in-Ok.is
      c.judge.ensures.index (λ i. (c.type_inv.term i).fits) c.if-term-gt-TERM_LIMIT.false,
)

pub refuse-requires-in-Err-Broken : goal.refuse-requires-in-Err-Broken
refuse-requires-in-Err-Broken c =
    let e : c.judge.result ≡ Err (un.Broken c.in-Err-Broken.k) = search rules in
    let b = broken_place c.args.protocol.now (λ i. (c.type_inv.protocol i).fits) _
    (sym c.judge.ensures.told ∙ ap verdict_of e) in
    (omega arith, omega (arith, b.small))

pub returns-in-Ok : goal.returns-in-Ok
returns-in-Ok c =
    sound_inside c.args.protocol.now _ _ _ _ c.args.term.now c.judge.result _ c.in-Ok.is c.judge.ensures.told
    c.judge.ensures.index (λ i. (c.type_inv.term i).fits) c.if-protocol-gt-PROTOCOL_LIMIT.false c.if-term-gt-TERM_LIMIT.false c.args.output.now _
    c.under_protocol.result c.under_protocol.ensures

pub returns-in-Err-Broken : goal.returns-in-Err-Broken
returns-in-Err-Broken c =
    let q : c.refuse-in-Err-Broken.result ≡ refusal 4 c.in-Err-Broken.k = c.refuse-in-Err-Broken.ensures ∙ ap (λ (i : ℕ). refusal 4 i) (omega arith) in
    let e : c.judge.result ≡ Err (un.Broken c.in-Err-Broken.k) = search rules in
    inside_refused c.args.protocol.now c.args.term.now c.args.output.now _ 4 _
    (λ work l. no_protocol c.args.protocol.now c.args.term.now (length c.args.output.now) work l c.if-protocol-gt-PROTOCOL_LIMIT.false c.if-term-gt-TERM_LIMIT.false
    4 _ (ruled_broken c.args.protocol.now _ (sym c.judge.ensures.told ∙ ap verdict_of e))) (written_refused q)

pub returns-in-Err-Fault : goal.returns-in-Err-Fault
returns-in-Err-Fault c =
    let e : c.judge.result ≡ Err un.Fault = search rules in
    inside_refused c.args.protocol.now c.args.term.now c.args.output.now _ 3 1
    (λ work l. no_protocol c.args.protocol.now c.args.term.now (length c.args.output.now) work l c.if-protocol-gt-PROTOCOL_LIMIT.false c.if-term-gt-TERM_LIMIT.false
    3 1 (ruled_malformed c.args.protocol.now (sym c.judge.ensures.told ∙ ap verdict_of e))) (written_refused c.refuse-in-Err-Fault.ensures)
