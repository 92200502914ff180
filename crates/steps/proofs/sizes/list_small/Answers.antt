-- The invariant is that the facts left, from the place on, decide; each begins behind the one before.
use native.Mathlib.Omega.{arith}
use Prim.Native.Nat.{◌+◌, ◌-◌, ◌<◌}
use mathlib.Core.Path.{◌≡◌, sym, ◌∙◌}
use Rattle.steps.specs.Values.Weights.{size_in}
use Rattle.steps.specs.Values.Parts.{left_starts, left_reads, left_more, left_bad, left_ends, fact_small, facts_start}
use Rattle.steps.proofs.sizes.list_small.Goals as goal

pub loop-init : goal.loop-init
loop-init c =
    let l : c.count_of-facts.result ≡ c.count_of-facts.result - 0 = omega arith in
    λ fs e h. left_starts _ _ fs e _ _ (facts_start _ _ _ _ fs (record { next = e; reads = h }) _ _ (sym l ∙ c.count_of-facts.ensures) c.first_fact-at.ensures)

pub fact_small-requires : goal.fact_small-requires
fact_small-requires c =
    let (fs, h) = c.requires.0 in
    let l : 0 < c.count_of-facts.result - c.loop.counter = omega arith in
    (left_reads _ _ fs _ _ _ l (c.loop.invariant fs h.next h.reads), c.requires.1, c.requires.2)

pub loop-preserved : goal.loop-preserved
loop-preserved c =
    let l : c.count_of-facts.result - (c.loop.counter + 1) + 1 ≡ c.count_of-facts.result - c.loop.counter = omega arith in
    λ fs e h. left_more _ (fact_small (size_in c.args.sizes.now)) fs e _ _ _ _ l (c.loop.invariant fs e h)
    (λ f d x. sym c.in-Some.is ∙ c.fact_small.ensures f d x)

pub returns-in-None : goal.returns-in-None
returns-in-None c =
    let l : 0 < c.count_of-facts.result - c.loop.counter = omega arith in
    λ fs h. left_bad _ (fact_small (size_in c.args.sizes.now)) fs _ _ _ l (c.loop.invariant fs h.next h.reads)
    (λ f d x. sym c.in-None.is ∙ c.fact_small.ensures f d x)

pub returns : goal.returns
returns c =
    λ fs h. (left_ends _ (fact_small (size_in c.args.sizes.now)) fs _ _ _
    (omega (arith, c.loop-test.false)) (c.loop.invariant fs h.next h.reads)).0
