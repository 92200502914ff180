-- Together, by recursion over the levels left: each clause of `formula_at` and `fit` is the answer of the call for that tag.
use Rattle.property.specs.Walk.Formulas.{copied, quant_room, quant_end}
use Rattle.property.specs.Walk.Formulas.{body_atom, level_none, level_tag, level_fault}
use Rattle.property.specs.Walk.{sort_of, scope_of, HeadIs}
use Rattle.property.specs.Layout.{scoped_at, formula_at}
use Rattle.number.specs.Reading.{as_read}
use Rattle.property.specs.Fit.{fit}
use Rattle.property.specs.Formula.{Sort}
use Rattle.number.specs.Reading.{seen}
use Rattle.std.proofs.Common.{ℕ, List, ◌≤◌, take, length}
use Rattle.std.proofs.lemmas.List.{length-take-le, take-map}
use native.Mathlib.Omega.{arith}
use mathlib.Core.Path.{ap, sym, ◌∙◌, subst}
use Rattle.property.proofs.formulas.+see_body_see_formula_see_pair_see_quantifier.Goals as goal

pub see_body-returns-then-tag-lt-AND : goal.see_body-returns-then-tag-lt-AND
see_body-returns-then-tag-lt-AND t c =
    λ ars t. body_atom c.args.file.bytes.now ars (formula_at c.args.file.bytes.now ars c.args.levels) (length c.args.sorts.now) c.args.tag c.args.at
    (scope_of c.args.sorts.now) c.if-tag-eq-FALSE.false c.if-tag-lt-AND.true (c.see_atom.ensures ars t)

pub see_formula-returns-then-levels-eq0 : goal.see_formula-returns-then-levels-eq0
see_formula-returns-then-levels-eq0 t c =
    λ ars t. level_none c.args.file.bytes.now ars (length c.args.sorts.now) c.args.at (scope_of c.args.sorts.now) c.args.levels c.if-levels-eq0.true

pub see_formula-returns : goal.see_formula-returns
see_formula-returns t c =
    λ ars t. level_tag c.args.file.bytes.now ars (length c.args.sorts.now) c.args.at (scope_of c.args.sorts.now) c.args.levels c.if-levels-eq0.false
    (ap as_read (sym c.in_ok-tag.was) ∙ c.below.ensures) (c.see_body.ensures ars t)

pub see_formula-returns-in_err-tag : goal.see_formula-returns-in_err-tag
see_formula-returns-in_err-tag t c =
    λ ars t. rw c.from_residual.ensures
    (level_fault c.args.file.bytes.now ars (length c.args.sorts.now) c.args.at (scope_of c.args.sorts.now) c.args.levels c.if-levels-eq0.false
    (ap as_read (sym c.in_err-tag.was) ∙ c.below.ensures))

pub see_quantifier-returns-in_err-e : goal.see_quantifier-returns-in_err-e
see_quantifier-returns-in_err-e t c =
    λ ars t q.
    let h = subst (HeadIs (scoped_at c.args.file.bytes.now ars (length c.args.sorts.now) c.args.at) (length c.args.sorts.now) _ _) c.in_ok-head.was
    (c.see_head.ensures ars t) in
    let room = quant_room c.args.file.bytes.now ars (formula_at c.args.file.bytes.now ars c.args.levels) (length c.args.sorts.now) c.args.at _ _ h in
    let inside : c.in_ok-head.head.count ≤ length c.see_head.new.sorts = omega arith in
    rw c.from_residual-in_err-e.ensures
    (quant_end c.args.file.bytes.now ars (formula_at c.args.file.bytes.now ars c.args.levels) (length c.args.sorts.now) c.args.at _ _ q
    (scope_of c.args.sorts.now)
    (take-map sort_of (length c.args.sorts.now) _ ∙ ap scope_of (copied _ c.args.sorts.now _ c.copy_from_slice.ensures.after)) h
    (sym c.in_err-e.was ∙ c.see_formula.ensures ars t ∙ ap
    (λ (n : ℕ). seen (fit (scope_of (take c.in_ok-head.head.count c.see_head.new.sorts))) (formula_at c.args.file.bytes.now ars c.args.levels n c.in_ok-head.head.end))
    (length-take-le c.in_ok-head.head.count c.see_head.new.sorts inside)
    ∙ ap (λ (s : List Sort). seen (fit s) (formula_at c.args.file.bytes.now ars c.args.levels c.in_ok-head.head.count c.in_ok-head.head.end))
    (sym (take-map sort_of c.in_ok-head.head.count c.see_head.new.sorts))))

pub see_quantifier-returns : goal.see_quantifier-returns
see_quantifier-returns t c =
    λ ars t q.
    let h = subst (HeadIs (scoped_at c.args.file.bytes.now ars (length c.args.sorts.now) c.args.at) (length c.args.sorts.now) _ _) c.in_ok-head.was
    (c.see_head.ensures ars t) in
    let room = quant_room c.args.file.bytes.now ars (formula_at c.args.file.bytes.now ars c.args.levels) (length c.args.sorts.now) c.args.at _ _ h in
    let inside : c.in_ok-head.head.count ≤ length c.see_head.new.sorts = omega arith in
    quant_end c.args.file.bytes.now ars (formula_at c.args.file.bytes.now ars c.args.levels) (length c.args.sorts.now) c.args.at _ _ q
    (scope_of c.args.sorts.now)
    (take-map sort_of (length c.args.sorts.now) _ ∙ ap scope_of (copied _ c.args.sorts.now _ c.copy_from_slice.ensures.after)) h
    (sym c.in_ok-e.was ∙ c.see_formula.ensures ars t ∙ ap
    (λ (n : ℕ). seen (fit (scope_of (take c.in_ok-head.head.count c.see_head.new.sorts))) (formula_at c.args.file.bytes.now ars c.args.levels n c.in_ok-head.head.end))
    (length-take-le c.in_ok-head.head.count c.see_head.new.sorts inside)
    ∙ ap (λ (s : List Sort). seen (fit s) (formula_at c.args.file.bytes.now ars c.args.levels c.in_ok-head.head.count c.in_ok-head.head.end))
    (sym (take-map sort_of c.in_ok-head.head.count c.see_head.new.sorts)))
