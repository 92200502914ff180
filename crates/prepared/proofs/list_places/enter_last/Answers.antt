-- A list without facts has its entry only; else the facts before the last are entered, and the place behind them is that of the last.
use lib.Seq.{length-take-le}
use native.Mathlib.Omega.{arith}
use mathlib.Core.Path.{ap, sym, ◌∙◌, subst}
use mathlib.Core.List.{List}
use Prim.Native.Nat.{ℕ, ◌-◌}
use Rattle.lists.specs.Asks.{Asks}
use Rattle.prepared.specs.Sections.{body_length}
use Rattle.prepared.specs.Prepared.{fact_place_in}
use Rattle.prepared.specs.Lists.Entries.{list_small_lem, count_few, first_facts, first_body, last_small, list_empty, list_last}
use Rattle.prepared.specs.Lists.{FirstFacts}
use Rattle.prepared.proofs.list_places.enter_last.Goals as goal

pub slice_bounds-count_of-end-2 : goal.slice_bounds-count_of-end-2
slice_bounds-count_of-end-2 c =
    sym (length-take-le body_length c.args.p.now (omega (arith, c.requires.1)))

pub put_entry-requires : goal.put_entry-requires
put_entry-requires c =
    (omega (arith, c.requires.0), c.requires.1, list_small_lem c.args.p.now (λ k. (c.slice_known-1.given k).fits) c.requires.1 _ c.requires.2.0 c.requires.2.1)

pub returns-then-count-eq0 : goal.returns-then-count-eq0
returns-then-count-eq0 c =
    list_empty _ _ c.args.p.now _ c.count_of-count.ensures _ c.requires.0 c.requires.1 c.put_entry.ensures c.if-count-eq0.true

pub enter_facts-last-requires : goal.enter_facts-last-requires
enter_facts-last-requires c =
    let n = count_few c.args.p.now _ _ c.count_of-count.ensures (λ k. (c.slice_known-1.given k).fits) c.requires.1 c.requires.2 in (
      omega (arith, c.requires.0, n),
      omega (arith, c.put_entry.auto, c.requires.1),
      subst
          (λ (b : List ℕ). Asks (FirstFacts b c.args.list (c.count_of-count.result - 1)))
          (sym (first_body _ _ c.args.p.now _ c.count_of-count.ensures _ c.requires.0 c.requires.1 c.put_entry.ensures))
          (first_facts c.args.p.now _ _ c.count_of-count.ensures c.requires.2 _ (omega arith)),
    )

pub overflow_add-row-2 : goal.overflow_add-row-2
overflow_add-row-2 c =
    omega (arith, c.requires.0, count_few c.args.p.now _ _ c.count_of-count.ensures (λ k. (c.slice_known-1.given k).fits) c.requires.1 c.requires.2)

pub put_entry-requires-2 : goal.put_entry-requires-2
put_entry-requires-2 c =
    let n = count_few c.args.p.now _ _ c.count_of-count.ensures (λ k. (c.slice_known-1.given k).fits) c.requires.1 c.requires.2 in let e =
    first_body _ _ c.args.p.now _ c.count_of-count.ensures _ c.requires.0 c.requires.1 c.put_entry.ensures in (
      omega (arith, c.requires.0, c.if-count-eq0.false, n),
      omega (arith, c.put_entry.auto, c.enter_facts-last.auto, c.requires.1),
      last_small c.args.p.now
          _ _ c.count_of-count.ensures (λ k. (c.slice_known-1.given k).fits) c.requires.1 c.requires.2 _ _
          (c.enter_facts-last.ensures.behind ∙ ap (λ (b : List ℕ). fact_place_in b c.args.list (c.count_of-count.result - 1)) e) (omega (arith, c.if-count-eq0.false)),
    )

pub returns : goal.returns
returns c =
    let n = count_few c.args.p.now _ _ c.count_of-count.ensures (λ k. (c.slice_known-1.given k).fits) c.requires.1 c.requires.2 in list_last _ _
    c.args.p.now _ c.count_of-count.ensures _ c.requires.0 c.requires.1 c.put_entry.ensures _ _ _ _
    (omega (arith, c.put_entry.auto, c.enter_facts-last.auto, c.requires.1)) (omega (arith, c.if-count-eq0.false)) n c.enter_facts-last.ensures.done
    c.enter_facts-last.ensures.behind c.put_entry-2.ensures
