-- The argument's canonical form is written at the start of the work area, and its number is that part's.
use Rattle.trace.specs.Numbers.Forms.{form_in}
use Rattle.facts.specs.Marks.{put_inside}
use Rattle.facts.specs.Calls.{argument_at}
use Rattle.message.specs.Canon.{canon}
use native.Mathlib.Omega.{arith}
use mathlib.Core.Path.{sym}
use lib.Seq.{length-take-le}
use Rattle.trace.proofs.numbers.argument_number.Goals as goal

pub slice_bounds-form_number-end : goal.slice_bounds-form_number-end
slice_bounds-form_number-end c =
    let (P, m, f) = c.requires.1 in put_inside _ _ _ _ (c.write_fact-a.ensures P m f).put (omega (arith, c.requires.2.enough))

pub slice_bounds-form_number-end-2 : goal.slice_bounds-form_number-end-2
slice_bounds-form_number-end-2 c =
    let (P, m, f) = c.requires.1 in sym (length-take-le _ _ (put_inside _ _ _ _ (c.write_fact-a.ensures P m f).put (omega (arith, c.requires.2.enough))))

pub form_number-requires : goal.form_number-requires
form_number-requires c =
    let (P, m, f) = c.requires.1 in (
      canon (argument_at P c.args.x.id.list c.args.x.id.number c.args.j m),
      form_in f _ _ _
          (c.write_fact-a.ensures P m f).put,
    )

pub returns : goal.returns
returns c =
    λ P m f. c.form_number.ensures (canon (argument_at P c.args.x.id.list c.args.x.id.number c.args.j m))
    (form_in f _ _ _ (c.write_fact-a.ensures P m f).put)
