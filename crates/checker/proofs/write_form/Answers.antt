-- The form stands in the work area; it is copied where the output holds it, else its length is the need of 15.
use Rattle.checker.specs.Canonical.Forms.{message_asks, form_stands, form_fits, formed_short, formed_written}
use mathlib.Core.Path.{sym, subst}
use native.Mathlib.Omega.{arith}
use lib.Seq.{length-take-le}
use Rattle.checker.specs.Canonical.Contracts.{Formed}
use Rattle.std.specs.Prelude.{Ok}
use Rattle.checker.specs.Answer.{written_refused}
use Rattle.checker.proofs.write_form.Goals as goal

pub canonical_term-n-requires : goal.canonical_term-n-requires
canonical_term-n-requires c =
    (omega (arith, c.requires.0), omega (arith, c.requires.0), message_asks _ _ c.requires.1)

pub refuse-requires : goal.refuse-requires
refuse-requires c =
    let f = form_fits _ _ _ _ c.canonical_term-n.ensures c.requires.1 in
    (omega arith, omega (arith, f.0))

pub returns-then-output-n : goal.returns-then-output-n
returns-then-output-n c =
    λ free t h. formed_short t _ _ (form_stands _ _ _ _ c.canonical_term-n.ensures free t h)
    c.args.output.now _ c.if-output-n.true (written_refused c.refuse.ensures)

pub slice_bounds-copy_into-end : goal.slice_bounds-copy_into-end
slice_bounds-copy_into-end c =
    (form_fits _ _ _ _ c.canonical_term-n.ensures c.requires.1).1

pub slice_bounds-copy_into-end-2 : goal.slice_bounds-copy_into-end-2
slice_bounds-copy_into-end-2 c =
    sym (length-take-le _ _ (form_fits _ _ _ _ c.canonical_term-n.ensures c.requires.1).1)

pub copy_into-requires : goal.copy_into-requires
copy_into-requires c =
    let l = length-take-le c.canonical_term-n.result c.canonical_term-n.new.out (form_fits _ _ _ _ c.canonical_term-n.ensures c.requires.1).1 in
    omega (arith, l, c.if-output-n.false)

pub overflow_cast-result : goal.overflow_cast-result
overflow_cast-result c =
    let f = form_fits _ _ _ _ c.canonical_term-n.ensures c.requires.1 in
    record { fits = omega (arith, f.0) }

pub returns : goal.returns
returns c =
    λ free t h. subst (λ z. Formed t c.args.output.now z (Ok c.canonical_term-n.result)) (sym c.copy_into.ensures.wrote)
    (formed_written t _ _ (form_stands _ _ _ _ c.canonical_term-n.ensures free t h) c.args.output.now c.if-output-n.false)
