-- The rule's bytes and then its place: the second write is `placed` of the first.
use Rattle.octets.specs.Splice.{splice}
use native.Mathlib.Omega.{arith}
use mathlib.Core.Path.{ap, ◌∙◌}
use mathlib.Core.List.{List}
use Prim.Native.Nat.{ℕ, ◌+◌, ◌*◌}
use Rattle.rules.specs.Numbered.Slots.{slot_few}
use Rattle.rules.specs.Numbered.{rule_room}
use Rattle.prepared.specs.Sections.{written_at, rules_at}
use Rattle.prepared.specs.Filling.{placed}
use Rattle.prepared.proofs.filling.put_rule.Goals as goal

pub slot_of-requires : goal.slot_of-requires
slot_of-requires c =
    c.requires.1

pub overflow_mul-at : goal.overflow_mul-at
overflow_mul-at c =
    omega (arith, c.slot_of.ensures, slot_few (c.args.n + 1) (omega (arith, c.requires.0)), c.requires.1)

pub overflow_add-at : goal.overflow_add-at
overflow_add-at c =
    omega (arith, c.slot_of.ensures, slot_few (c.args.n + 1) (omega (arith, c.requires.0)), c.requires.1)

pub copy_into-requires : goal.copy_into-requires
copy_into-requires c =
    omega (arith, c.slot_of.ensures, slot_few (c.args.n + 1) (omega (arith, c.requires.0)), c.requires.1, c.requires.2, c.requires.3)

pub put_place-requires : goal.put_place-requires
put_place-requires c = (
  c.requires.0,
  omega (arith, c.copy_into.auto, c.requires.2),
  omega (
    arith,
    c.slot_of.ensures,
    slot_few (c.args.n + 1) (omega (arith, c.requires.0)),
    c.requires.1,
  ),
)

pub returns : goal.returns
returns c =
    c.put_place.ensures ∙ ap (λ (l : List ℕ). placed l c.args.n (rules_at + rule_room * c.slot_of.result)) c.copy_into.ensures.wrote
    ∙ ap (λ (k : ℕ). placed (splice c.args.p.now (written_at k) c.args.rule.now) c.args.n (written_at k)) c.slot_of.ensures
