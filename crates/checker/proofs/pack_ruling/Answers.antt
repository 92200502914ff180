-- The three cases of a ruling; the counts' bounds keep the fields apart.
use native.Mathlib.Omega.{arith}
use mathlib.Core.Path.{◌≡◌, subst}
use borrow.Author.Rules.{rules}
use Rattle.std.specs.Prelude.{Ok}
use Rattle.checker.specs.declared.Ruling.TheVariants.{Attack, Run}
use Rattle.checker.specs.Check.Bounds.{OutcomeSmall}
use Rattle.checker.specs.Check.{ruled}
use Rattle.checker.proofs.pack_ruling.Goals as goal

pub pack_counts-requires : goal.pack_counts-requires
pack_counts-requires c =
    let e : c.args.ruling ≡ Ok (Attack c.in-Ok-Attack.counts) = search rules in
    let h = subst (λ w. OutcomeSmall (ruled w)) e c.requires in
    (omega arith, h.nodes, omega (arith, h.nodes, h.active), h.edges)

pub pack_counts-requires-in-Ok-Run : goal.pack_counts-requires-in-Ok-Run
pack_counts-requires-in-Ok-Run c =
    let e : c.args.ruling ≡ Ok (Run c.in-Ok-Run.counts) = search rules in
    let h = subst (λ w. OutcomeSmall (ruled w)) e c.requires in
    (omega arith, h.nodes, omega (arith, h.nodes, h.active), h.edges)
