-- The invariant is that the terms left, from the place on, decide and end where the fact ends; each begins behind the one before.
use native.Mathlib.Omega.{arith}
use Prim.Native.Nat.{◌+◌, ◌-◌, ◌<◌}
use mathlib.Core.Path.{◌≡◌, ap, ap₂, sym, ◌∙◌}
use mathlib.Core.Bool.{Bool}
use Rattle.prepared.specs.Prepared.Laws.{slots_length, arities_length}
use Rattle.steps.specs.Values.Weights.{size_in, term_small, small_to}
use Rattle.steps.specs.Values.Parts.{left_starts, left_reads, left_more, left_bad, left_ends, plain_term, symbol_inside, terms_start}
use Rattle.steps.proofs.sizes.fact_small.Goals as goal

pub arity_of-terms-requires : goal.arity_of-terms-requires
arity_of-terms-requires c =
    let (f, e, h) = c.requires.0 in
    let b = symbol_inside _ _ _ (λ k. (c.type_inv.p k).fits) _ f (record { next = e; reads = h }) in
    (omega (arith, b, c.symbol_of.ensures, arities_length c.args.p.now (omega (arith, c.requires.1))), omega (arith, c.requires.1))

pub loop-init : goal.loop-init
loop-init c =
    let l : c.arity_of-terms.result ≡ c.arity_of-terms.result - 0 = omega arith in
    λ f e h. left_starts _ _ _ e _ _ (terms_start _ _ _ (λ k. (c.type_inv.p k).fits) _ f
    (record { next = e; reads = h }) _ _ _ c.symbol_of.ensures (sym l ∙ c.arity_of-terms.ensures) c.term_at-at.ensures)

pub slice_bounds-term_small-end : goal.slice_bounds-term_small-end
slice_bounds-term_small-end c =
    sym (slots_length c.args.p.now (omega (arith, c.requires.1)))

pub term_small-requires : goal.term_small-requires
term_small-requires c =
    let (f, e, h) = c.requires.0 in
    let l : 0 < c.arity_of-terms.result - c.loop.counter = omega arith in
    let (t, d, x) = left_reads _ _ f.terms e _ _ l (c.loop.invariant f e h) in
    ((t, d, plain_term _ _ _ d t x), omega (arith, c.requires.1), c.requires.2)

pub loop-preserved : goal.loop-preserved
loop-preserved c =
    let l : c.arity_of-terms.result - (c.loop.counter + 1) + 1 ≡ c.arity_of-terms.result - c.loop.counter = omega arith in
    λ f e h. left_more _ (term_small (size_in c.args.sizes.now)) f.terms e _ _ _ _ l (c.loop.invariant f e h)
    (λ t d x. sym c.in_ok-at.was ∙ c.term_small.ensures t d (plain_term _ _ _ d t x))

pub returns-in_err-at : goal.returns-in_err-at
returns-in_err-at c =
    let l : 0 < c.arity_of-terms.result - c.loop.counter = omega arith in
    rw c.from_residual.ensures
    (λ f e h. ap (λ (b : Bool). small_to b e) (left_bad _ (term_small (size_in c.args.sizes.now)) f.terms e _ _ l
    (c.loop.invariant f e h) (λ t d x. sym c.in_err-at.was ∙ c.term_small.ensures t d (plain_term _ _ _ d t x))))

pub returns : goal.returns
returns c =
    λ f e h. let (a, b) = left_ends _ (term_small (size_in c.args.sizes.now)) f.terms e _ _
    (omega (arith, c.loop-test.false)) (c.loop.invariant f e h) in ap₂ small_to a b
