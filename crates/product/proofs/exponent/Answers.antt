-- The exponents lie one behind the other, as power_at takes them; one exp to a factor is its own power.
use Rattle.product.proofs.ExponentPaths.{tower_asks, base_asks, base_after, factor_done, power_asked, tower_done}
use mathlib.Core.Path.{sym, ◌∙◌}
use Rattle.product.proofs.exponent.Goals as goal

pub base_of-b-requires : goal.base_of-b-requires
base_of-b-requires c =
    let r = c.args in tower_asks r.arities.now r.out.now r.o r.e c.requires

pub behind-z-requires : goal.behind-z-requires
behind-z-requires c =
    let r = c.args in base_asks r.arities.now r.out.now r.o r.e _ c.base_of-b.ensures c.requires

pub overflow_sub-k : goal.overflow_sub-k
overflow_sub-k c =
    let r = c.args in base_after r.arities.now r.out.now r.o r.e _ c.base_of-b.ensures c.requires

pub returns-then-is_factor : goal.returns-then-is_factor
returns-then-is_factor c =
    let r = c.args in factor_done r.arities.now r.out.now r.o r.e _ c.base_of-b.ensures _
    c.behind-z.ensures c.if-k-eq1.true (sym c.is_factor.ensures ∙ c.if-is_factor.true)

pub power_at-requires : goal.power_at-requires
power_at-requires c =
    let r = c.args in power_asked r.arities.now r.out.now r.o r.e _ c.base_of-b.ensures _ c.behind-z.ensures c.requires

pub returns : goal.returns
returns c =
    let r = c.args in tower_done r.arities.now r.out.now r.o r.e _ c.base_of-b.ensures _ c.behind-z.ensures _ _
    c.power_at.ensures
