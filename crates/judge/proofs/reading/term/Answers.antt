-- Tag and number: a variable's code is its number, a name's lies 16 above.
use Rattle.judge.specs.Reading.Parts.{tells_term, number_room}
use Rattle.judge.specs.Reading.{TermIs}
use Rattle.property.specs.Figures.{most_scope}
use Rattle.term.specs.Tags.{variable_tag}
use Rattle.lists.specs.Choice.{pick}
use borrow.Author.Tests.{eq-eqb, ne_eqb}
use native.Mathlib.Omega.{arith}
use Prim.Native.Nat.{◌+◌}
use mathlib.Core.Bool.{Bool}
use mathlib.Core.Path.{subst}
use Rattle.judge.proofs.reading.term.Goals as goal

pub returns-then-tag-eq-VARIABLE : goal.returns-then-tag-eq-VARIABLE
returns-then-tag-eq-VARIABLE c =
    subst (λ (z : Bool). TermIs c.args.file.now c.args.at (record {
      value = pick z c.read-n.result.value
          (most_scope + c.read-n.result.value);
      next = c.read-n.result.next;
    }))
    (eq-eqb c.read-tag.result.value variable_tag c.if-tag-eq-VARIABLE.true) (tells_term c.args.file.now c.read-tag.ensures
    c.read-n.ensures)

pub overflow_add-result : goal.overflow_add-result
overflow_add-result c =
    omega (arith, number_room c.read-n.ensures)

pub returns : goal.returns
returns c =
    subst (λ (z : Bool). TermIs c.args.file.now c.args.at (record {
      value = pick z c.read-n.result.value
          (most_scope + c.read-n.result.value);
      next = c.read-n.result.next;
    })) (ne_eqb c.read-tag.result.value variable_tag c.if-tag-eq-VARIABLE.false)
    (tells_term c.args.file.now c.read-tag.ensures c.read-n.ensures)
