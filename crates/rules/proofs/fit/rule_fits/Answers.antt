-- P1 to P5 are five answers of the calls, and `fits` is their conjunction in this order.
use native.Mathlib.Omega.{arith}
use mathlib.Core.Bool.{not, ◌&&◌}
use mathlib.Core.Path.{ap, ap₂}
use Rattle.protocol.specs.Protocol.Walks.{asks}
use Rattle.lists.specs.Lists.{any_by}
use Rattle.rules.specs.Fit.Laws.{fresh_asked, asked_of}
use Rattle.number.specs.Groups.{number_limit}
use Rattle.rules.proofs.fit.rule_fits.Goals as goal

pub variables_bound-held-requires : goal.variables_bound-held-requires
variables_bound-held-requires c =
    (c.requires, record { premises_at = c.list_at-above.ensures; actions_at = c.list_at-beside.ensures; conclusions_at = c.list_at-below.ensures })

pub returns : goal.returns
unfolding number_limit
returns c =
    λ r h. ap₂ ◌&&◌ (fresh_asked c.args.text.now.file.now c.args.text.now.arities.now c.args.text.now.ars.now c.args.at _ r (c.rule_asks-fresh.ensures r h))
    (ap₂ ◌&&◌ (ap not (asked_of c.args.text.now.file.now c.args.text.now.arities.now c.args.text.now.ars.now c.args.at 0 _ (any_by (asks 3 2 4))
    (omega arith) c.list_at-above.ensures c.list_asks-known.ensures r h)) (ap₂ ◌&&◌
    (ap₂ ◌&&◌ (ap not (asked_of c.args.text.now.file.now c.args.text.now.arities.now c.args.text.now.ars.now c.args.at 2 _ (any_by (asks 3 0 2))
    (omega arith) c.list_at-below.ensures c.list_asks-made.ensures r h))
    (ap not (asked_of c.args.text.now.file.now c.args.text.now.arities.now c.args.text.now.ars.now c.args.at 2 _ (any_by (asks 3 3 4)) (omega arith)
    c.list_at-below.ensures c.list_asks-learnt.ensures r h))) (c.variables_bound-held.ensures r h)))
