-- A property that passes is what check_graph asks; a refusal is handed on.
use Rattle.checker.specs.Check.Inside.{property_passed, property_under_lem, property_judged, property_turned, property_limits}
use Rattle.checker.specs.Check.{ruled_refused}
use native.Mathlib.Omega.{arith}
use Rattle.checker.proofs.checking.check_property.Goals as goal

pub check_graph-requires : goal.check_graph-requires
check_graph-requires c =
    let (P, i) = c.requires.0 in
    let a = c.rule_property.ensures P i.body in (
      (
        P,
        (property_passed P c.args.property.now c.rule_property.result a c.in-Ok.is).0,
        property_under_lem P
            c.args.property.now c.rule_property.result a i c.in-Ok.is,
      ),
      c.requires.1,
      c.requires.2,
    )

pub refuse-requires : goal.refuse-requires
refuse-requires c =
    let (P, i) = c.requires.0 in
    let b = property_limits P c.args.property.now c.rule_property.result (c.rule_property.ensures P i.body) c.in-Err.is in
    (omega (arith, b.0), omega (arith, b.1))

pub returns-in-Ok : goal.returns-in-Ok
returns-in-Ok c =
    λ P i.
    let a = c.rule_property.ensures P i.body in
    property_judged P c.args.property.now c.rule_property.result a c.args.graph.now c.in-Ok.is
    (c.check_graph.ensures P _ (property_under_lem P c.args.property.now c.rule_property.result a i c.in-Ok.is))

pub returns-in-Err : goal.returns-in-Err
returns-in-Err c =
    λ P i.
    property_turned P c.args.property.now c.rule_property.result (c.rule_property.ensures P i.body) c.args.graph.now
    c.in-Err.is (ruled_refused c.refuse.ensures)
