-- The node's row has the places of its values, so the rule's fact is written with them filled in: the node's fact.
use Prim.Native.Nat.{◌+◌, ◌-◌}
use Rattle.steps.specs.Table.{place_count, places_at}
use Rattle.facts.specs.Rules.{symbol_is}
use Rattle.facts.specs.Calls.Laws.{wanted_ready, wanted_done}
use native.Mathlib.Omega.{arith}
use Rattle.facts.proofs.nodes.write_fact.Goals as goal

pub symbol_of-symbol-requires : goal.symbol_of-symbol-requires
symbol_of-symbol-requires c =
    omega (arith, c.requires.1.2.node.prepared.long)

pub overflow_mul-first : goal.overflow_mul-first
overflow_mul-first c =
    omega (arith, c.requires.1.2.node.few)

pub overflow_add-first : goal.overflow_add-first
overflow_add-first c =
    omega (arith, c.requires.1.2.node.few)

pub overflow_add-starts : goal.overflow_add-starts
overflow_add-starts c =
    omega (arith, c.requires.1.2.node.few)

pub offset_bounds-nodes-first : goal.offset_bounds-nodes-first
offset_bounds-nodes-first c =
    omega (arith, c.requires.1.2.node.few)

pub slice_bounds-starts-count : goal.slice_bounds-starts-count
slice_bounds-starts-count c =
    omega (arith, c.requires.1.2.node.few)

pub slice_bounds-starts-start : goal.slice_bounds-starts-start
slice_bounds-starts-start c =
    omega (arith, c.requires.1.2.node.few)

pub slice_bounds-starts-end : goal.slice_bounds-starts-end
slice_bounds-starts-end c =
    omega (arith, c.requires.1.2.node.few, c.requires.1.2.node.long)

pub wanted_into-end-requires : goal.wanted_into-end-requires
wanted_into-end-requires c =
    let (P, m, f) = c.requires.1 in
    wanted_ready f (λ k. (c.type_inv.p k).fits) (λ k. (c.type_inv.s k).fits)
    (places_at c.args.x.id.node + place_count - places_at c.args.x.id.node) (omega arith) _ c.requires.0 _ _ c.requires.2

pub returns : goal.returns
returns c =
    λ P m f. record {
      symbols = symbol_is f.node _ _ f.listed _ _ c.requires.0 c.symbol_of-symbol.ensures;
      put = wanted_done f (λ k. (c.type_inv.p k).fits) (λ k. (c.type_inv.s k).fits)
          (places_at c.args.x.id.node + place_count - places_at c.args.x.id.node) (omega arith) _ c.requires.0 _ _ _ _ c.requires.2
          c.wanted_into-end.ensures;
    }
