-- A name is canonical and small, so its sort alone decides; any other value fits the sort message only, by message_ok.
use Rattle.steps.specs.Values.Code.{fresh_ok, public_ok, other_sort, not_sorted}
use Rattle.std.proofs.Common.{Some, ne_eqb}
use mathlib.Core.Path.{ap, ◌∙◌}
use Rattle.steps.proofs.values.value_ok.Goals as goal

pub returns-in-Some-FreshName : goal.returns-in-Some-FreshName
returns-in-Some-FreshName c =
    λ t v. fresh_ok _ _ _ (λ i. (c.type_inv.s i).fits) t _ v.is.there c.args.sort c.name_at.result c.name_at.ensures _
    (c.in-Some-FreshName.is ∙ ap Some c.in-Some-FreshName.field-0-is) c.fresh_fits.ensures

pub returns-in-Some-PublicName : goal.returns-in-Some-PublicName
returns-in-Some-PublicName c =
    λ t v. public_ok _ _ _ (λ i. (c.type_inv.s i).fits) t _ v.is.there c.args.sort c.name_at.result c.name_at.ensures _
    (c.in-Some-PublicName.is ∙ ap Some c.in-Some-PublicName.field-0-is) c.public_fits.ensures

pub returns-else-sort-eq-MESSAGE_SORT : goal.returns-else-sort-eq-MESSAGE_SORT
returns-else-sort-eq-MESSAGE_SORT c =
    λ t v. ne_eqb _ _ c.if-sort-eq-MESSAGE_SORT.false ∙ not_sorted _ _ _ t _ v.is c.args.sort (other_sort _ _ _ (λ i. (c.type_inv.s i).fits) t _ v.is.there c.args.sort
    c.name_at.result c.name_at.ensures c.in-None.is c.if-sort-eq-MESSAGE_SORT.false)
