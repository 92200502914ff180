-- The invariant is that the terms that were passed were seen to end at i with this answer; each turn sees one more.
use Rattle.property.specs.Walk.Terms.{tested, untested}
use Rattle.property.specs.Layout.{term_at}
use Rattle.number.specs.Reading.Many.{walk_none, walk_more, walk_stop}
use Rattle.std.proofs.Common.{Option, ℕ, Bool, rules}
use mathlib.Core.Path.{sym, ◌∙◌}
use Rattle.property.proofs.terms.any_term.Goals as goal

pub loop-init : goal.loop-init
loop-init g c = (search rules, λ q tests. walk_none (term_at c.args.f.now) q c.args.at)

pub returns-in_err-x : goal.returns-in_err-x
returns-in_err-x g c =
    λ q tests. rw c.from_residual.ensures
    (sym (walk_stop (term_at c.args.f.now) q _ _ _ _ _ (c.loop.invariant.1 q tests)
    (untested q (term_at c.args.f.now c.loop.i) (sym c.in_err-x.was ∙ c.see_term.ensures)) c.loop-test.true))

pub loop-preserved : goal.loop-preserved
loop-preserved g c = (
  search rules,
  λ q tests. walk_more (term_at c.args.f.now) q _ _ _ _ _ _ (c.loop.invariant.1 q tests)
      (tested (λ (v : Option ℕ) (b : Bool). g.F.Fn.post c.args.test (v, tt) b) q tests (term_at c.args.f.now c.loop.i)
      (sym c.in_ok-x.was ∙ c.see_term.ensures) c.test-found.ensures),
)
