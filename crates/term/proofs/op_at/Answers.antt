-- The slot is 255 exactly where `arity` gives none.
use Prim.Native.Nat.{ℕ}
use Rattle.term.specs.declared.Symbol.TheVariants.{Op}
use Rattle.std.proofs.lemmas.Grind.{common_steps}
use native.Mathlib.Omega.{arith}
use lib.ListN.{get_or}
use Rattle.term.specs.Arity.{undeclared}
use mathlib.Core.Path.{◌≡◌, ap, sym, ◌∙◌}
use Rattle.std.proofs.Common.{Option, Some}
use Rattle.term.specs.Reader.{op_at}
use Rattle.term.specs.Arity.Laws.{arity_none, arity_some}
use Rattle.term.proofs.op_at.Goals as goal

pub returns-then-k : goal.returns-then-k
returns-then-k c =
    let a = c.args in
    let slot : c.unwrap_or-k.result ≡ get_or a.arities.now a.tag undeclared = grind (arith, common_steps) in
    sym (ap (λ (o : Option ℕ). op_at a.tag o a.next) (arity_none a.arities.now a.tag (sym slot ∙ c.if-k.true)))

pub returns : goal.returns
returns c =
    let a = c.args in
    let slot : c.unwrap_or-k.result ≡ get_or a.arities.now a.tag undeclared = grind (arith, common_steps) in
    ap (λ (k : ℕ). Some (Op a.tag k a.next)) slot
    ∙ sym (ap (λ (o : Option ℕ). op_at a.tag o a.next) (arity_some a.arities.now a.tag c.requires
    (λ e. c.if-k.false (slot ∙ e))))
