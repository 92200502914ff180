-- The term's end lies within the slice, so the part is there, and its bytes are those between place and end.
use mathlib.Core.Path.{sym, ◌∙◌}
use Rattle.term.specs.Walk.Exact.{end_within, part_bytes, none_bytes}
use native.Mathlib.Omega.{arith}
use Rattle.term.proofs.term_part.Goals as goal

pub slice_bounds-result-count : goal.slice_bounds-result-count
slice_bounds-result-count c =
    let w = end_within c.args.file.now c.args.arities.now (λ i. (c.type_inv.file i).fits) c.args.at _ _
    (sym c.term_end.ensures ∙ c.in-Some.is) in
    omega arith

pub slice_bounds-result-start : goal.slice_bounds-result-start
slice_bounds-result-start c =
    let w = end_within c.args.file.now c.args.arities.now (λ i. (c.type_inv.file i).fits) c.args.at _ _
    (sym c.term_end.ensures ∙ c.in-Some.is) in
    omega arith

pub slice_bounds-result-end : goal.slice_bounds-result-end
slice_bounds-result-end c =
    let w = end_within c.args.file.now c.args.arities.now (λ i. (c.type_inv.file i).fits) c.args.at _ _
    (sym c.term_end.ensures ∙ c.in-Some.is) in
    omega arith

pub returns-in-Some : goal.returns-in-Some
returns-in-Some c =
    part_bytes c.args.file.now c.args.arities.now (λ i. (c.type_inv.file i).fits) c.args.at _ _
    (sym c.term_end.ensures ∙ c.in-Some.is)

pub returns-in-None : goal.returns-in-None
returns-in-None c =
    none_bytes c.args.file.now c.args.arities.now (λ i. (c.type_inv.file i).fits) c.args.at
    (sym c.term_end.ensures ∙ c.in-None.is)
