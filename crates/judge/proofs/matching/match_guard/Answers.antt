-- Where what is known differs nothing matches; else the new variables are bound, and agreement under these values decides.
use Rattle.judge.specs.Judging.Guards.{matching_known, matching_made, matching_missed}
use Rattle.property.specs.Figures.{most_scope}
use Rattle.std.proofs.Common.{◌≡◌, length, arith}
use Rattle.judge.proofs.matching.match_guard.Goals as goal

pub returns-then-not-timed-agree : goal.returns-then-not-timed-agree
returns-then-not-timed-agree c =
    let long : length c.args.bound.now.values ≡ most_scope = omega arith in
    matching_known c.args.classes.now c.args.base c.args.fact.now c.args.node c.args.e c.args.bound.now.count
    c.args.bound.now.values long c.slot.ensures c.agree.ensures c.if-not-timed-agree.true

pub returns-then-slot-number : goal.returns-then-slot-number
returns-then-slot-number c =
    let long : length c.args.bound.now.values ≡ most_scope = omega arith in
    λ symbols here x ok. matching_made c.args.classes.now c.args.base c.args.fact.now c.args.node c.args.e c.args.bound.now.count
    c.args.bound.now.values long _ _ c.bind.ensures c.put.ensures c.slot-2.ensures c.agree-all.ensures symbols here x ok c.if-slot-number.true

pub returns : goal.returns
returns c =
    let long : length c.args.bound.now.values ≡ most_scope = omega arith in
    λ symbols here x ok. matching_missed c.args.classes.now c.args.base c.args.fact.now c.args.node c.args.e c.args.bound.now.count
    c.args.bound.now.values long _ _ c.bind.ensures c.put.ensures c.slot-2.ensures c.agree-all.ensures symbols here x ok c.if-slot-number.false
