-- The invariant is that the first k nodes are entered up to `from`, where the next node's actions begin.
use borrow.Author.Rules.{rules}
use Rattle.trace.specs.Entries.Laws.{entering_none, entering_begun, entering_room, entering_more, entering_all, from_small}
use native.Mathlib.Omega.{arith}
use Rattle.trace.proofs.entries.enter_nodes.Goals as goal

pub loop-k-init : goal.loop-k-init
loop-k-init c =
    (search rules, search rules, λ s P xs r. entering_none r)

pub overflow_cast-starts : goal.overflow_cast-starts
overflow_cast-starts c =
    let (s, P, xs, r) = c.requires.0 in
    omega (arith, from_small r (c.loop-k.invariant.2 s P xs r))

pub bounds-starts-k : goal.bounds-starts-k
bounds-starts-k c =
    omega (arith, c.loop-k.invariant.0, c.requires.1, c.loop-k-test.true)

pub enter_actions-from-requires : goal.enter_actions-from-requires
enter_actions-from-requires c =
    let (s, P, xs, r) = c.requires.0 in
    let g = c.loop-k.invariant.2 s P xs r in (
      (s, P, xs, entering_begun r g c.loop-k-test.true),
      omega (
        arith,
        entering_room r g c.loop-k-test.true,
        c.loop-k.invariant.1,
        c.requires.2,
      ),
    )

pub loop-k-preserved : goal.loop-k-preserved
loop-k-preserved c = (
  search rules,
  search rules,
  λ s P xs r.
      let g = c.loop-k.invariant.2 s P xs r in
      entering_more r g (omega (arith, c.loop-k.invariant.0, c.requires.1, c.loop-k-test.true))
      (c.enter_actions-from.ensures s P xs (entering_begun r g c.loop-k-test.true)),
)

pub overflow_cast-starts-2 : goal.overflow_cast-starts-2
overflow_cast-starts-2 c =
    let (s, P, xs, r) = c.requires.0 in
    omega (arith, from_small r (c.loop-k.invariant.2 s P xs r))

pub bounds-starts-n : goal.bounds-starts-n
bounds-starts-n c =
    omega (arith, c.loop-k.invariant.0, c.requires.1)

pub returns : goal.returns
returns c =
    λ s P xs r. entering_all r (c.loop-k.invariant.2 s P xs r) (omega arith)
    (omega (arith, c.loop-k.invariant.0, c.requires.1))
