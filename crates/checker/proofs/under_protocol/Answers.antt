-- A small term is written; one that does not read, or is too large, is refused as `term_ruling` says.
use Rattle.checker.specs.Canonical.Inside.{holds_term, no_term, form_of_lem, judges_refused, judges_formed}
use Rattle.checker.specs.Files.{term_ruling}
use Rattle.std.proofs.lemmas.Result.{err_from_is_err_and}
use Rattle.std.specs.Prelude.{Err}
use Rattle.checker.specs.Answer.{written}
use mathlib.Core.Path.{ap, sym, ◌∙◌}
use Rattle.checker.proofs.under_protocol.Goals as goal

pub write_form-requires : goal.write_form-requires
write_form-requires c =
    let h = holds_term c.args.arities.now c.args.term.now (sym c.term_file.ensures ∙ c.in_ok-term_file.was) in
    (c.requires.0, (c.requires.1.0, h.term, form_of_lem c.args.arities.now c.args.term.now c.requires.1.0 c.requires.1.1 h))

pub returns : goal.returns
returns c =
    λ free u. let h = holds_term c.args.arities.now c.args.term.now (sym c.term_file.ensures ∙ c.in_ok-term_file.was) in
    judges_formed (term_ruling c.args.arities.now c.args.term.now) h.term c.args.output.now _ c.write_form.result
    h.is (c.write_form.ensures free h.term (form_of_lem c.args.arities.now c.args.term.now free u h))

pub returns-in_err-term_file : goal.returns-in_err-term_file
returns-in_err-term_file c =
    λ free u.
    let p = err_from_is_err_and c.from_residual.result c.from_residual.ensures.1 in
    judges_refused (term_ruling c.args.arities.now c.args.term.now) _ _ c.args.output.now _
    (no_term c.args.arities.now c.args.term.now c.in_err-term_file.field-0.0 (sym c.term_file.ensures ∙ c.in_err-term_file.was))
    (ap written (p.1 ∙ ap Err p.2))
