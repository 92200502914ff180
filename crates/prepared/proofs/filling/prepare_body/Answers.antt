-- The verdict is judge's own; where it is sound, its index is what `lay` asks, and its body what is promised.
use Rattle.prepared.specs.Filling.Whole.{sound_symbols, laid_front, body_front}
use Rattle.rules.specs.Fit.Laws.{verdict_of}
use lib.ListN.{length-take}
use native.Mathlib.Omega.{arith}
use mathlib.Core.Path.{ap, sym, ◌∙◌}
use Rattle.std.proofs.lemmas.Result.{err_from_is_err_and}
use Rattle.prepared.proofs.filling.prepare_body.Goals as goal

pub slice_bounds-ars-end : goal.slice_bounds-ars-end
slice_bounds-ars-end c =
    let b = sound_symbols c.args.file.now c.judge.new.arities c.judge.new.ars c.judge.new.flags
    c.judge.new.places c.judge.result _ c.in_ok-counts.was c.judge.ensures.index (λ k. (c.type_inv.file k).fits)
    c.requires.0 in
    omega (arith, b, c.judge.auto.ars)

pub slice_bounds-lay-end-2 : goal.slice_bounds-lay-end-2
slice_bounds-lay-end-2 c =
    let b = sound_symbols c.args.file.now c.judge.new.arities c.judge.new.ars c.judge.new.flags
    c.judge.new.places c.judge.result _ c.in_ok-counts.was c.judge.ensures.index (λ k. (c.type_inv.file k).fits)
    c.requires.0 in
    simp length-take (omega (arith, b, c.judge.auto.ars))

pub slice_bounds-flags-end : goal.slice_bounds-flags-end
slice_bounds-flags-end c =
    let b = sound_symbols c.args.file.now c.judge.new.arities c.judge.new.ars c.judge.new.flags
    c.judge.new.places c.judge.result _ c.in_ok-counts.was c.judge.ensures.index (λ k. (c.type_inv.file k).fits)
    c.requires.0 in
    omega (arith, b, c.judge.auto.flags)

pub slice_bounds-lay-end-3 : goal.slice_bounds-lay-end-3
slice_bounds-lay-end-3 c =
    let b = sound_symbols c.args.file.now c.judge.new.arities c.judge.new.ars c.judge.new.flags
    c.judge.new.places c.judge.result _ c.in_ok-counts.was c.judge.ensures.index (λ k. (c.type_inv.file k).fits)
    c.requires.0 in
    simp length-take (omega (arith, b, c.judge.auto.flags))

pub lay-requires : goal.lay-requires
lay-requires c = (
  c.requires.1,
  laid_front c.args.file.now c.judge.new.arities c.judge.new.ars
      c.judge.new.flags c.judge.new.places c.judge.result _ c.in_ok-counts.was c.judge.ensures.index
      (λ k. (c.type_inv.file k).fits) c.requires.0 (omega (arith, c.judge.auto.places)),
)

pub returns : goal.returns
returns c =
    record {
      told = sym (ap verdict_of c.in_ok-counts.was) ∙ c.judge.ensures.told;
      made = body_front c.args.file.now c.judge.new.arities
          c.judge.new.ars c.judge.new.flags c.judge.new.places c.judge.result _ c.in_ok-counts.was
          c.judge.ensures.index (λ k. (c.type_inv.file k).fits) c.requires.0 (omega (arith, c.judge.auto.places)) _ c.lay.ensures;
    }

pub returns-in_err-counts : goal.returns-in_err-counts
returns-in_err-counts c =
    let p = err_from_is_err_and c.from_residual.result c.from_residual.ensures.1 in
    rw (p.1, p.2)
    record { told = sym (ap verdict_of c.in_err-counts.was) ∙ c.judge.ensures.told; made = tt }
