-- A public name keeps its number; a place found in the chain gives its class; one not found begins a class and its chain's new head.
use Prim.Native.Nat.{◌<◌}
use Rattle.trace.specs.Classes.Places.{classing_small, classing_walkable, class_past, class_new, class_found, found_small}
use Rattle.trace.specs.Chains.Laws.{chain_small}
use Rattle.trace.specs.Tables.{base}
use lib.ListN.{length, get_or}
use lib.Seq.{lt-length-set}
use native.Mathlib.Omega.{arith}
use Rattle.trace.proofs.classes.class_place.Goals as goal

pub offset_bounds-classes-q : goal.offset_bounds-classes-q
offset_bounds-classes-q c =
    omega (arith, classing_small c.requires.0.3)

pub bounds-classes-q : goal.bounds-classes-q
bounds-classes-q c =
    omega (arith, c.requires.2)

pub returns-then-mark-ge-BASE : goal.returns-then-mark-ge-BASE
returns-then-mark-ge-BASE c =
    λ raw P xs g. class_past g c.if-mark-ge-BASE.true

pub offset_bounds-chains-chain : goal.offset_bounds-chains-chain
offset_bounds-chains-chain c =
    omega (arith, c.head_place-chain.ensures, chain_small (length c.args.chains.now) (get_or c.args.classes.now c.args.q 0))

pub bounds-chains-chain : goal.bounds-chains-chain
bounds-chains-chain c =
    omega (arith, c.head_place-chain.ensures, (c.requires.3 (get_or c.args.classes.now c.args.q 0)).1)

pub earlier-requires : goal.earlier-requires
earlier-requires c =
    let (raw, P, xs, g) = c.requires.0 in
    ((P, xs, classing_walkable g (omega (arith, c.if-mark-ge-BASE.false)) _), c.requires.1, omega (arith, c.requires.3 0))

pub overflow_cast-classes : goal.overflow_cast-classes
overflow_cast-classes c =
    omega (
      arith,
      classing_small c.requires.0.3,
    )

pub offset_bounds-classes-q-in-None : goal.offset_bounds-classes-q-in-None
offset_bounds-classes-q-in-None c =
    omega (
      arith,
      classing_small c.requires.0.3,
    )

pub bounds-classes-q-in-None : goal.bounds-classes-q-in-None
bounds-classes-q-in-None c =
    omega (
      arith,
      c.requires.2,
    )

pub offset_bounds-chains-q : goal.offset_bounds-chains-q
offset_bounds-chains-q c =
    omega (
      arith,
      classing_small c.requires.0.3,
    )

pub bounds-chains-q : goal.bounds-chains-q
bounds-chains-q c =
    omega (
      arith,
      c.requires.3 0,
    )

pub overflow_add-chains : goal.overflow_add-chains
overflow_add-chains c =
    omega (
      arith,
      classing_small c.requires.0.3,
    )

pub overflow_cast-chains : goal.overflow_cast-chains
overflow_cast-chains c =
    omega (
      arith,
      classing_small c.requires.0.3,
    )

pub offset_bounds-chains-chain-in-None : goal.offset_bounds-chains-chain-in-None
offset_bounds-chains-chain-in-None c =
    omega (arith, c.head_place-chain.ensures, chain_small (length c.args.chains.now) (get_or c.args.classes.now c.args.q 0))

pub bounds-chains-chain-in-None : goal.bounds-chains-chain-in-None
bounds-chains-chain-in-None c =
    let k : c.head_place-chain.result < length c.args.chains.now = omega (
      arith,
      c.head_place-chain.ensures,
      (c.requires.3
          (get_or c.args.classes.now c.args.q 0)).1,
    ) in
    lt-length-set c.args.chains.now _ _ k

pub returns-in-None : goal.returns-in-None
returns-in-None c =
    λ raw P xs g. let k : get_or c.args.classes.now c.args.q 0 < base = omega (arith, c.if-mark-ge-BASE.false) in
    class_new g k c.requires.2 _ (c.earlier.ensures P xs (classing_walkable g k _)) c.head_place-chain.ensures c.in-None.is c.requires.3

pub offset_bounds-classes-r : goal.offset_bounds-classes-r
offset_bounds-classes-r c =
    let (raw, P, xs, g) = c.requires.0 in
    let k : get_or c.args.classes.now c.args.q 0 < base = omega (arith, c.if-mark-ge-BASE.false) in
    omega (arith, classing_small g, (found_small g k c.requires.2 _ (c.earlier.ensures P xs (classing_walkable g k _)) _ c.in-Some.is).0)

pub bounds-classes-r : goal.bounds-classes-r
bounds-classes-r c =
    let (raw, P, xs, g) = c.requires.0 in
    let k : get_or c.args.classes.now c.args.q 0 < base = omega (arith, c.if-mark-ge-BASE.false) in
    omega (arith, (found_small g k c.requires.2 _ (c.earlier.ensures P xs (classing_walkable g k _)) _ c.in-Some.is).1)

pub returns-in-Some : goal.returns-in-Some
returns-in-Some c =
    λ raw P xs g.
    let k : get_or c.args.classes.now c.args.q 0 < base = omega (arith, c.if-mark-ge-BASE.false) in
    class_found g k c.requires.2 _ (c.earlier.ensures P xs (classing_walkable g k _)) _ c.in-Some.is
