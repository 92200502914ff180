-- The invariant is that the first i places are entered and the walk stands at the next; the end of a fact is the place of the one behind it.
use Prim.Native.Nat.{ℕ}
use lib.Seq.{length-take-le}
use native.Mathlib.Omega.{arith}
use mathlib.Core.Path.{◌≡◌, ap, sym, ◌∙◌, subst}
use mathlib.Core.List.{List}
use Rattle.protocol.specs.Places.{place_of}
use Rattle.prepared.specs.Sections.{body_length}
use Rattle.prepared.specs.Prepared.{body_of, prepared_fact, fact_place_in}
use Rattle.prepared.specs.Lists.Entries.{facts_none, facts_small, facts_next, facts_more}
use Rattle.prepared.specs.Lists.{FactsEntered}
use Rattle.prepared.proofs.list_places.enter_facts.Goals as goal

pub slice_bounds-first_fact-end-2 : goal.slice_bounds-first_fact-end-2
slice_bounds-first_fact-end-2 c =
    sym (length-take-le body_length c.args.p.now (omega (arith, c.requires.1)))

pub loop-i-init : goal.loop-i-init
loop-i-init c =
    (c.requires.1, c.first_fact-at.ensures, facts_none _ _ _)

pub put_entry-requires : goal.put_entry-requires
put_entry-requires c = (
  omega (arith, c.requires.0, c.loop-i-test.true),
  c.loop-i.invariant.0,
  omega (
    arith,
    c.loop-i.invariant.1,
    facts_small c.args.p.now (λ k. (c.slice_known-1.given k).fits) c.requires.1 _ _ c.requires.2 _
        c.loop-i-test.true,
  ),
)

pub slice_bounds-fact_end-end : goal.slice_bounds-fact_end-end
slice_bounds-fact_end-end c =
    omega (arith, c.put_entry.auto, c.loop-i.invariant.0)

pub slice_bounds-fact_end-end-in-loop-i : goal.slice_bounds-fact_end-end-in-loop-i
slice_bounds-fact_end-end-in-loop-i c =
    sym (length-take-le body_length c.put_entry.new.p (omega (arith, c.put_entry.auto, c.loop-i.invariant.0)))

pub fact_end-at-requires : goal.fact_end-at-requires
fact_end-at-requires c =
    let n = length-take-le body_length c.put_entry.new.p (omega (arith, c.put_entry.auto, c.loop-i.invariant.0)) in (omega (arith, n), omega (arith, n))

pub loop-i-preserved : goal.loop-i-preserved
loop-i-preserved c =
    let f = facts_more _ _ _ _ _ _ _ c.loop-i.invariant.0 (omega (arith, c.requires.0, c.loop-i-test.true)) c.loop-i.invariant.2 c.loop-i.invariant.1
    c.put_entry.ensures in (
      omega (arith, c.put_entry.auto, c.loop-i.invariant.0),
      facts_next c.args.p.now
          (λ k. (c.slice_known-1.given k).fits) c.requires.1 _ _ c.requires.2 _ _ _ c.loop-i-test.true c.loop-i.invariant.1
          (c.fact_end-at.ensures ∙ ap (λ (b : List ℕ). place_of (prepared_fact b c.loop-i.at)) f.body),
      f,
    )

pub returns : goal.returns
returns c =
    let z : c.loop-i.i ≡ c.args.count = omega arith in record {
      behind = c.loop-i.invariant.1 ∙ ap (fact_place_in (body_of c.args.p.now) c.args.list) z;
      done = subst
          (FactsEntered c.args.list c.args.p.now _ c.args.row) z c.loop-i.invariant.2;
    }
