-- The invariant is that j own symbols are read and stand in both tables behind the four built-in ones; each turn adds one.
use borrow.Author.Rules.{rules}
use Rattle.protocol.specs.Index.Fill.{Owned, as_own, own_begins, own_more, own_small}
use Rattle.number.specs.Reading.Many.{many_stop, many_length}
use mathlib.Core.Path.{◌≡◌, ap, sym, ◌∙◌, subst}
use Prim.Native.Nat.{ℕ, ◌+◌, ◌<◌}
use lib.ListN.{length, length-set}
use native.Mathlib.Omega.{arith}
use Rattle.protocol.proofs.index.symbols_from.Goals as goal

pub loop-j-init : goal.loop-j-init
loop-j-init c = (
  search rules,
  search rules,
  own_begins _ _ _ _ c.args.ars.now c.args.flags.now c.copy_into.ensures.wrote
      c.copy_into-2.ensures.wrote (omega arith) (omega arith),
)

pub overflow_cast-ars : goal.overflow_cast-ars
overflow_cast-ars c =
    omega (arith, own_small _ _ (λ i. (c.type_inv.file i).fits) (sym c.own_at.ensures ∙ ap as_own c.in_ok-a.was))

pub bounds-ars-k : goal.bounds-ars-k
bounds-ars-k c =
    omega (arith, c.copy_into.auto)

pub overflow_cast-flags : goal.overflow_cast-flags
overflow_cast-flags c =
    omega (arith, own_small _ _ (λ i. (c.type_inv.file i).fits) (sym c.own_at.ensures ∙ ap as_own c.in_ok-a.was))

pub bounds-flags-k : goal.bounds-flags-k
bounds-flags-k c =
    omega (arith, c.copy_into-2.auto)

pub loop-j-preserved : goal.loop-j-preserved
loop-j-preserved c =
    let x : c.loop-j.j + 4 < length c.loop-j.ars = omega (arith, c.copy_into.auto) in
    let y : c.loop-j.j + 4 < length c.loop-j.flags = omega (arith, c.copy_into-2.auto) in (
      simp length-set (omega arith),
      simp length-set (omega arith),
      own_more _ _ _ _ _ _ _ _ _ c.loop-j.invariant.2
          (sym c.own_at.ensures ∙ ap as_own c.in_ok-a.was) x y,
    )

pub returns-in_err-a : goal.returns-in_err-a
returns-in_err-a c =
    record {
      kept = (omega (arith, c.copy_into.auto), omega (arith, c.copy_into-2.auto));
      told = rw c.from_residual.ensures (many_stop _ _ _ _ _ _ c.loop-j.invariant.2.there
          (sym c.own_at.ensures ∙ ap as_own c.in_err-a.was) c.loop-j-test.true);
    }

pub returns : goal.returns
returns c =
    let m : c.loop-j.j ≡ c.args.n = omega arith in
    let o : Owned c.args.file.now c.args.at c.args.n c.loop-j.i c.loop-j.ars c.loop-j.flags = subst
    (λ (k : ℕ). Owned c.args.file.now c.args.at k c.loop-j.i c.loop-j.ars c.loop-j.flags) m
    c.loop-j.invariant.2 in record {
      kept = (omega (arith, c.copy_into.auto), omega (arith, c.copy_into-2.auto));
      told = record {
        item = o.items;
        there = o.there;
        says = record {
          count = many_length _ _ _ _ _ o.there;
          few = omega arith;
          arities = o.arities;
          flagged = o.flagged;
        };
      };
    }
