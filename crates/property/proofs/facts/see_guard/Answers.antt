-- A symbol that reads and is declared, its arity's many terms, a time variable; or a fault in one of them.
use Rattle.property.specs.Walk.Facts.{guard_got, from_undeclared, from_fault, from_end, timed_end, timed_none}
use Rattle.std.proofs.Common.{map}
use Rattle.number.specs.Reading.{as_read, read_number}
use mathlib.Core.Path.{ap, sym, ◌∙◌}
use Rattle.property.proofs.facts.see_guard.Goals as goal

pub returns-in_err-count : goal.returns-in_err-count
returns-in_err-count g c =
    λ ars t. rw c.from_residual-in_err-count.ensures
    (guard_got (map g.S.AsSort.meaning c.args.sorts.now) c.args.file.bytes.now ars c.args.at (ap as_read (sym c.in_ok-symbol.was) ∙ c.read_number.ensures)
    (from_undeclared t (map g.S.AsSort.meaning c.args.sorts.now) c.args.file.bytes.now _ _ (sym c.arity_of.ensures ∙ c.in_err-count.was)))

pub returns-in_err-i : goal.returns-in_err-i
returns-in_err-i g c =
    λ ars t. rw c.from_residual-in_err-i.ensures
    (guard_got (map g.S.AsSort.meaning c.args.sorts.now) c.args.file.bytes.now ars c.args.at (ap as_read (sym c.in_ok-symbol.was) ∙ c.read_number.ensures)
    (from_fault t (map g.S.AsSort.meaning c.args.sorts.now) c.args.file.bytes.now _ _ (sym c.arity_of.ensures ∙ c.in_ok-count.was)
    (sym c.in_err-i.was ∙ c.fit_terms.ensures)))

pub returns-in_err-time : goal.returns-in_err-time
returns-in_err-time g c =
    λ ars t. rw c.from_residual-in_err-time.ensures
    (guard_got (map g.S.AsSort.meaning c.args.sorts.now) c.args.file.bytes.now ars c.args.at (ap as_read (sym c.in_ok-symbol.was) ∙ c.read_number.ensures)
    (from_end t (map g.S.AsSort.meaning c.args.sorts.now) c.args.file.bytes.now _ _ (sym c.arity_of.ensures ∙ c.in_ok-count.was)
    (sym c.in_ok-i.was ∙ c.fit_terms.ensures)
    (timed_none (map g.S.AsSort.meaning c.args.sorts.now) _ _ _ (read_number c.args.file.bytes.now c.in_ok-i.i)
    (ap as_read (sym c.in_err-time.was) ∙ c.read_number-2.ensures))))

pub returns : goal.returns
returns g c =
    λ ars t.
    guard_got (map g.S.AsSort.meaning c.args.sorts.now) c.args.file.bytes.now ars c.args.at (ap as_read (sym c.in_ok-symbol.was) ∙ c.read_number.ensures)
    (from_end t (map g.S.AsSort.meaning c.args.sorts.now) c.args.file.bytes.now _ _ (sym c.arity_of.ensures ∙ c.in_ok-count.was)
    (sym c.in_ok-i.was ∙ c.fit_terms.ensures)
    (timed_end (map g.S.AsSort.meaning c.args.sorts.now) _ _ _ (read_number c.args.file.bytes.now c.in_ok-i.i)
    (ap as_read (sym c.in_ok-time.was) ∙ c.read_number-2.ensures) c.has_sort.ensures))
