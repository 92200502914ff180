-- Where something that says a sort stands at x, the test is of that sort; elsewhere none does.
use Rattle.property.specs.Walk.Terms.{scope_at, scope_out}
use Rattle.property.specs.Walk.{sort_of}
use Rattle.property.specs.Fit.{sort_is}
use Rattle.property.specs.Formula as formula
use Rattle.property.specs.declared.terms.Sort.{Sort}
use Rattle.property.specs.declared.terms.Sort.TheVariants as sort
use Rattle.property.specs.contracts.terms.Sort.{the_type}
use denote.Enum.Bare.{sameb}
use Rattle.std.proofs.Common.{ltb-true, ltb-false, ◌≡◌, ap, sym, ◌∙◌, refl}
use Rattle.property.proofs.terms.has_sort.Goals as goal

same : (a b : Sort) → sameb the_type a b ≡ sort_is (sort_of a) (sort_of b)
same sort.Message sort.Message = refl
same sort.Message sort.Time = refl
same sort.Time sort.Message = refl
same sort.Time sort.Time = refl

pub returns-in-Some : goal.returns-in-Some
returns-in-Some g c =
    let e = c.in-Some.ensures.lookup in
    c.eq.ensures ∙ same c.sort.result c.args.sort
    ∙ ap (λ (v : formula.Sort). sort_is v (sort_of c.args.sort)) (c.sort.ensures ∙ ap g.S.AsSort.meaning e.1)
    ∙ sym (scope_at g.S.AsSort.meaning c.args.sorts.now c.args.x (sort_of c.args.sort) c.in-Some.s.now (ltb-true c.args.x _ (sym e.0)))

pub returns-in-None : goal.returns-in-None
returns-in-None g c =
    scope_out g.S.AsSort.meaning c.args.sorts.now c.args.x (sort_of c.args.sort) (ltb-false c.args.x _ (sym c.in-None.ensures.lookup.0))
