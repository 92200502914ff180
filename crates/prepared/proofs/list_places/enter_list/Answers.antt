-- The list's entry is before its facts' row, so both stand; behind all its facts the list ends.
use lib.Seq.{length-take-le}
use native.Mathlib.Omega.{arith}
use mathlib.Core.Path.{ap, sym, ◌∙◌, subst}
use mathlib.Core.List.{List}
use Prim.Native.Nat.{ℕ}
use Rattle.lists.specs.Asks.{Asks}
use Rattle.prepared.specs.Sections.{body_length}
use Rattle.prepared.specs.Prepared.{fact_place_in}
use Rattle.prepared.specs.Lists.Entries.{list_small_lem, count_few, first_facts, first_body, list_behind, list_entered}
use Rattle.prepared.specs.Lists.{FirstFacts}
use Rattle.prepared.proofs.list_places.enter_list.Goals as goal

pub slice_bounds-count_of-end-2 : goal.slice_bounds-count_of-end-2
slice_bounds-count_of-end-2 c =
    sym (length-take-le body_length c.args.p.now (omega (arith, c.requires.1)))

pub put_entry-requires : goal.put_entry-requires
put_entry-requires c =
    (omega (arith, c.requires.0), c.requires.1, list_small_lem c.args.p.now (λ k. (c.slice_known-1.given k).fits) c.requires.1 _ c.requires.2.0 c.requires.2.1)

pub enter_facts-requires : goal.enter_facts-requires
enter_facts-requires c =
    let n = count_few c.args.p.now _ _ c.count_of-count.ensures (λ k. (c.slice_known-1.given k).fits) c.requires.1 c.requires.2 in (
      omega (arith, c.requires.0, n),
      omega (arith, c.put_entry.auto, c.requires.1),
      subst
          (λ (b : List ℕ). Asks (FirstFacts b c.args.list c.count_of-count.result))
          (sym (first_body _ _ c.args.p.now _ c.count_of-count.ensures _ c.requires.0 c.requires.1 c.put_entry.ensures))
          (first_facts c.args.p.now _ _ c.count_of-count.ensures c.requires.2 _ (omega arith)),
    )

pub returns : goal.returns
returns c =
    let e = first_body _ _ c.args.p.now _ c.count_of-count.ensures _ c.requires.0 c.requires.1 c.put_entry.ensures in record {
      behind = list_behind c.args.p.now _ _ c.count_of-count.ensures c.requires.2 _
          (c.enter_facts.ensures.behind ∙ ap (λ (b : List ℕ). fact_place_in b c.args.list c.count_of-count.result) e);
      done = list_entered _ _
          c.args.p.now _ c.count_of-count.ensures _ c.requires.0 c.requires.1 c.put_entry.ensures _ c.enter_facts.ensures.done;
    }
