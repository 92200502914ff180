-- A prepared protocol has what rule_property asks; of a property that it lets pass some formula passes.
use Rattle.cases_properties.specs.Passes.{good_passes}
use Rattle.cases_properties.proofs.judge_case.Goals as goal

pub rule_property-requires : goal.rule_property-requires
rule_property-requires c =
    let (P, prepared) = c.in_ok-prepare_case.ensures in (P, prepared.body)

pub judge_list-requires : goal.judge_list-requires
judge_list-requires c =
    (c.in_ok-prepare_case.ensures, good_passes c.args.file.now c.in_ok-rule_property.was c.rule_property.ensures, c.requires)
