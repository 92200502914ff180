-- A canonical form that begins as a public name is that name; any other has the mark of its bytes.
use borrow.Author.Rules.{rules}
use Rattle.std.specs.Prelude.{◌≡◌, Some}
use Rattle.steps.specs.declared.values.Name.TheVariants.{FreshName, PublicName}
use Rattle.lists.specs.Choice.{clash}
use Rattle.std.proofs.lemmas.Option.{none-some}
use native.Mathlib.Omega.{arith}
use mathlib.Core.Path.{sym, refl, ◌∙◌}
use Rattle.prepared.specs.Prepared.Laws.{slots_length}
use Rattle.trace.specs.Numbers.Forms.{public_small, public_number_lem, no_number}
use Rattle.trace.proofs.numbers.form_number.Goals as goal

pub slice_bounds-name_at-end : goal.slice_bounds-name_at-end
slice_bounds-name_at-end c =
    sym (slots_length c.args.p.now (omega (arith, c.requires.1.long)))

pub overflow_add-result : goal.overflow_add-result
overflow_add-result c =
    let e : c.name_at.result ≡ Some (PublicName c.in-Some-PublicName.name) = search rules in
    omega (arith, public_small c.requires.1 c.name_at.result c.name_at.ensures e)

pub returns-in-Some-PublicName : goal.returns-in-Some-PublicName
returns-in-Some-PublicName c =
    λ t f.
    let e : c.name_at.result ≡ Some (PublicName c.in-Some-PublicName.name) = search rules in
    public_number_lem f c.name_at.result c.name_at.ensures e _ refl

pub returns-in-Some-FreshName : goal.returns-in-Some-FreshName
returns-in-Some-FreshName c =
    λ t f.
    let h : c.name_at.result ≡ Some (FreshName c.in-Some-FreshName._name) = search rules in
    no_number f c.name_at.result c.name_at.ensures (λ y e. clash (cc)) _ c.mark_bytes.ensures

pub returns-in-None : goal.returns-in-None
returns-in-None c =
    λ t f. no_number f c.name_at.result c.name_at.ensures (λ y e. none-some _ (sym c.in-None.is ∙ e)) _ c.mark_bytes-in-None.ensures
