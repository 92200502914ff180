-- Leftover bytes or a variable, too many symbols, none of these, or no term: the clauses of `term_ruling`.
use Rattle.number.specs.Groups.{number_limit}
use Rattle.std.specs.Prelude.{Err}
use mathlib.Core.Path.{ap, sym, ◌∙◌}
use Rattle.checker.specs.Files.Answers.{file_fault, file_leftover, file_variable, file_large, file_small}
use Rattle.checker.proofs.term_file.Goals as goal
use Rattle.checker.proofs.term_file.Goals.{then-w-term-via-then-w-term, then-w-term-via-else-w-term+then-w}

pub returns-then-w-term : goal.returns-then-w-term
unfolding number_limit
returns-then-w-term c =
    let i = sym c.walk_term.ensures ∙ c.in-Some.is in
    ap Err c.refuse.ensures ∙ sym (elim c.then-w-term.branch [
      | then-w-term-via-then-w-term w ↦ file_leftover c.args.arities.now c.args.term.now c.in-Some.w.end c.in-Some.w.size c.in-Some.w.hit i w.if-w-term.true
      | then-w-term-via-else-w-term+then-w w ↦ file_variable c.args.arities.now c.args.term.now c.in-Some.w.end c.in-Some.w.size c.in-Some.w.hit i w.if-w-term.false w.if-w.true
    ])

pub returns-then-w-gt-MOST_SYMBOLS : goal.returns-then-w-gt-MOST_SYMBOLS
unfolding number_limit
returns-then-w-gt-MOST_SYMBOLS c =
    ap Err c.refuse-then-w-gt-MOST_SYMBOLS.ensures ∙ sym (file_large c.args.arities.now c.args.term.now c.in-Some.w.end c.in-Some.w.size c.in-Some.w.hit (sym c.walk_term.ensures ∙ c.in-Some.is)
    c.if-w-term.false c.if-w.false c.if-w-gt-MOST_SYMBOLS.true)

pub returns-else-w-gt-MOST_SYMBOLS : goal.returns-else-w-gt-MOST_SYMBOLS
unfolding number_limit
returns-else-w-gt-MOST_SYMBOLS c =
    sym (file_small c.args.arities.now c.args.term.now c.in-Some.w.end c.in-Some.w.size c.in-Some.w.hit (sym c.walk_term.ensures ∙ c.in-Some.is) c.if-w-term.false
    c.if-w.false c.if-w-gt-MOST_SYMBOLS.false)

pub returns-in-None : goal.returns-in-None
unfolding number_limit
returns-in-None c =
    ap Err c.refuse-in-None.ensures ∙ sym (file_fault c.args.arities.now c.args.term.now (sym c.walk_term.ensures ∙ c.in-None.is))
