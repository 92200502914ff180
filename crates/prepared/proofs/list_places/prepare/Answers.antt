-- The body is prepared in the slice's front and the table entered behind it, which leaves the body; the verdict is the body's.
use mathlib.Core.Path.{ap, sym, ◌∙◌, subst}
use native.Mathlib.Omega.{arith}
use lib.Seq.{length-take-le}
use Rattle.rules.specs.Fit.Laws.{verdict_of}
use Rattle.prepared.specs.Sections.{body_length}
use Rattle.prepared.specs.Filling.{BodyAs}
use Rattle.prepared.specs.Lists.Whole.{joined_long, joined_as, joined_ready, all_prepared}
use Rattle.std.proofs.lemmas.Result.{err_from_is_err_and}
use Rattle.prepared.proofs.list_places.prepare.Goals as goal

pub slice_bounds-prepare_body-end-2 : goal.slice_bounds-prepare_body-end-2
slice_bounds-prepare_body-end-2 c =
    sym (length-take-le body_length c.args.p.now (omega (arith, c.requires.1)))

pub prepare_body-requires : goal.prepare_body-requires
prepare_body-requires c =
    (c.requires.0, length-take-le body_length c.args.p.now (omega (arith, c.requires.1)))

pub enter_table-requires : goal.enter_table-requires
enter_table-requires c =
    let q = c.prepare_body.new.p in let n = length-take-le body_length c.args.p.now (omega (arith, c.requires.1)) in (
      joined_ready q c.args.p.now (omega (arith, c.prepare_body.auto.p, n)) c.requires.1 c.args.file.now
          c.in_ok-counts.was c.prepare_body.ensures.made,
      joined_long q c.args.p.now (omega (arith, c.prepare_body.auto.p, n))
          c.requires.1,
    )

pub returns : goal.returns
returns c =
    let q = c.prepare_body.new.p in let n = length-take-le body_length c.args.p.now (omega (arith, c.requires.1)) in let l = joined_long q
    c.args.p.now (omega (arith, c.prepare_body.auto.p, n)) c.requires.1 in record {
      told = sym (ap verdict_of c.in_ok-counts.was) ∙ c.prepare_body.ensures.told;
      made = all_prepared c.args.file.now _
          (omega (arith, c.enter_table.auto, l)) (λ k. (c.type_inv.p k).fits)
          (subst (BodyAs c.args.file.now _) (sym c.enter_table.ensures.body)
          (joined_as q c.args.p.now (omega (arith, c.prepare_body.auto.p, n)) c.requires.1 c.args.file.now c.in_ok-counts.was
          c.prepare_body.ensures.made)) c.enter_table.ensures.all;
    }

pub returns-in_err-counts : goal.returns-in_err-counts
returns-in_err-counts c =
    let p = err_from_is_err_and c.from_residual.result c.from_residual.ensures.1 in
    rw (p.1, p.2)
    record { told = sym (ap verdict_of c.in_err-counts.was) ∙ c.prepare_body.ensures.told; made = tt }
