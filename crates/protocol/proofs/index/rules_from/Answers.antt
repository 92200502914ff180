-- The invariant is that j rules are read up to i and each earlier place is that of its rule; a turn enters one place.
use borrow.Author.Rules.{rules}
use Rattle.protocol.specs.Index.Fill.{places_more, places_end}
use Rattle.protocol.specs.Protocol.{empty_rule, rule}
use Rattle.number.specs.Reading.Many.{Came, came_none, came_more, came_stop}
use Rattle.protocol.specs.Protocol.Walks.{cut_ended, ended_none}
use mathlib.Core.Path.{◌≡◌, sym, ◌∙◌, subst}
use Prim.Native.Nat.{ℕ, ◌<◌}
use lib.ListN.{length, length-set}
use native.Mathlib.Omega.{arith}
use Rattle.protocol.proofs.index.rules_from.Goals as goal

pub loop-j-init : goal.loop-j-init
loop-j-init c =
    (search rules, (λ k l. absurd (omega arith)), came_none _ _)

pub loop-j-preserved : goal.loop-j-preserved
loop-j-preserved c =
    let b : c.loop-j.j < length c.loop-j.places = omega arith in (
      simp length-set (omega arith),
      places_more (rule c.args.x.now.file.now c.args.x.now.arities.now c.args.x.now.ars.now) c.args.at
          c.loop-j.j c.loop-j.i c.loop-j.places c.loop-j.invariant.1 c.loop-j.invariant.2 b,
      cut_ended
          (rule c.args.x.now.file.now c.args.x.now.arities.now c.args.x.now.ars.now c.loop-j.i) (sym c.one_rule.ensures ∙ c.in_ok-e.was)
          (λ x g. came_more _ _ _ _ _ x c.loop-j.invariant.2 g),
    )

pub returns-in_err-e : goal.returns-in_err-e
returns-in_err-e c =
    record {
      kept = search rules;
      told = rw c.from_residual.ensures (came_stop _ _ _ _ _ c.loop-j.invariant.2 (ended_none
          (rule c.args.x.now.file.now c.args.x.now.arities.now c.args.x.now.ars.now c.loop-j.i)
          (sym c.one_rule.ensures ∙ c.in_err-e.was)) c.loop-j-test.true);
    }

pub returns : goal.returns
returns c =
    let m : c.loop-j.j ≡ c.args.n = omega arith in
    let o : Came (rule c.args.x.now.file.now c.args.x.now.arities.now c.args.x.now.ars.now) c.args.at c.args.n c.loop-j.i = subst
    (λ (k : ℕ). Came (rule c.args.x.now.file.now c.args.x.now.arities.now c.args.x.now.ars.now) c.args.at k c.loop-j.i) m
    c.loop-j.invariant.2 in record {
      kept = search rules;
      told = record {
        item = o.items;
        there = o.there;
        says = places_end (rule c.args.x.now.file.now c.args.x.now.arities.now c.args.x.now.ars.now)
            c.args.at empty_rule c.args.n c.loop-j.i o.items c.loop-j.places o.there
            (λ k l. c.loop-j.invariant.1 k (omega arith));
      };
    }
