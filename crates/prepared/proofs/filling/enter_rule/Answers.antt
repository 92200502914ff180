-- What find_rule answers, written, placed or nothing, is entered as such: the three cases of `Enters`.
use Rattle.prepared.specs.Filling.Numbers.{written_few, place_small, as_written, as_placed, as_none, enters_written, enters_own, enters_none}
use lib.Seq.{length-take-le}
use mathlib.Core.Path.{ap, sym, ◌∙◌}
use Rattle.std.proofs.Common.{Some}
use native.Mathlib.Omega.{arith}
use Rattle.prepared.proofs.filling.enter_rule.Goals as goal

pub slice_bounds-own-end : goal.slice_bounds-own-end
slice_bounds-own-end c =
    let f = c.requires.3 in
    let w = as_written f c.args.n c.requires.0 c.find_rule.result c.find_rule.new.out
    (c.find_rule.ensures f.file f.ns f.ars f.flags f.entries) (c.in-Some-Written.is ∙ ap Some c.in-Some-Written.field-0-is) in
    omega (arith, w.holds.short, c.find_rule.auto.out)

pub slice_bounds-put_rule-end : goal.slice_bounds-put_rule-end
slice_bounds-put_rule-end c =
    let f = c.requires.3 in
    let w = as_written f c.args.n c.requires.0 c.find_rule.result c.find_rule.new.out
    (c.find_rule.ensures f.file f.ns f.ars f.flags f.entries) (c.in-Some-Written.is ∙ ap Some c.in-Some-Written.field-0-is) in
    sym (length-take-le _ _ w.holds.short)

pub put_rule-requires : goal.put_rule-requires
put_rule-requires c =
    let f = c.requires.3 in
    let w = as_written f c.args.n c.requires.0 c.find_rule.result c.find_rule.new.out
    (c.find_rule.ensures f.file f.ns f.ars f.flags f.entries) (c.in-Some-Written.is ∙ ap Some c.in-Some-Written.field-0-is) in
    (c.requires.0, w.has_slot, c.requires.1, written_few w c.find_rule.auto.out)

pub overflow_add-k : goal.overflow_add-k
overflow_add-k c =
    let f = c.requires.3 in
    let k = place_small f c.args.n c.requires.0 _ (as_placed f c.args.n c.requires.0 c.find_rule.result c.find_rule.new.out
    (c.find_rule.ensures f.file f.ns f.ars f.flags f.entries) (c.in-Some-At.is ∙ ap Some c.in-Some-At.field-0-is)) in
    omega (arith, k)

pub put_place-requires : goal.put_place-requires
put_place-requires c =
    let f = c.requires.3 in
    let k = place_small f c.args.n c.requires.0 _ (as_placed f c.args.n c.requires.0 c.find_rule.result c.find_rule.new.out
    (c.find_rule.ensures f.file f.ns f.ars f.flags f.entries) (c.in-Some-At.is ∙ ap Some c.in-Some-At.field-0-is)) in
    (c.requires.0, c.requires.1, k)

pub returns-in-Some-Written : goal.returns-in-Some-Written
returns-in-Some-Written c =
    λ f.
    enters_written f c.args.n c.requires.0 _ c.requires.1 _ _ c.find_rule.new.out c.find_rule.auto.out
    (as_written f c.args.n c.requires.0 c.find_rule.result c.find_rule.new.out
    (c.find_rule.ensures f.file f.ns f.ars f.flags f.entries) (c.in-Some-Written.is ∙ ap Some c.in-Some-Written.field-0-is)) c.put_rule.ensures

pub returns-in-Some-At : goal.returns-in-Some-At
returns-in-Some-At c =
    λ f.
    enters_own f c.args.n c.requires.0 _ c.requires.1 _ _ (as_placed f c.args.n c.requires.0 c.find_rule.result
    c.find_rule.new.out (c.find_rule.ensures f.file f.ns f.ars f.flags f.entries) (c.in-Some-At.is ∙ ap Some c.in-Some-At.field-0-is))
    c.put_place.ensures

pub returns-in-None : goal.returns-in-None
returns-in-None c =
    λ f.
    enters_none f c.args.n c.requires.0 _ c.requires.1 _ (as_none f c.args.n c.requires.0 c.find_rule.result
    c.find_rule.new.out (c.find_rule.ensures f.file f.ns f.ars f.flags f.entries) c.in-None.is)
    c.put_place-in-None.ensures
