-- By the tag and the one around: it stays as it stands, or the call of its kind works it out.
use Rattle.canonical.proofs.Closing.{as_tag, exp_asks, stays_done, product_asks, product_done, exp_done, other_done}
use Rattle.canonical.specs.Loose.Laws.{stays_product, stays_base}
use mathlib.Core.Path.{sym, ◌∙◌}
use Rattle.canonical.proofs.close.Goals as goal

pub returns-then-is_product-2 : goal.returns-then-is_product-2
returns-then-is_product-2 c =
    let r = c.args in stays_done _ _ _ _ _ _ (stays_product r.around r.tag (sym c.is_product-then-is_product.ensures ∙ c.if-is_product-2.true)
    (sym c.is_product.ensures ∙ c.if-is_product.true))

pub multiply-requires : goal.multiply-requires
multiply-requires c =
    let r = c.args in product_asks _ _ _ _ r.tag r.around c.requires

pub returns-then-is_product : goal.returns-then-is_product
returns-then-is_product c =
    product_done _ _ _ _ _ _ (sym c.is_product-then-is_product.ensures ∙ c.if-is_product-2.false) (sym c.is_product.ensures ∙ c.if-is_product.true) _ _
    c.multiply.ensures

pub returns-then-around-eq-EXP : goal.returns-then-around-eq-EXP
returns-then-around-eq-EXP c =
    stays_done _ _ _ _ _ _ (stays_base c.args.around c.args.tag c.if-around-eq-EXP.true c.if-tag-eq-EXP.true)

pub exponent-requires : goal.exponent-requires
exponent-requires c =
    exp_asks _ _ _ _ (as_tag _ _ _ _ _ 10 c.if-tag-eq-EXP.true c.requires)

pub returns-then-tag-eq-EXP : goal.returns-then-tag-eq-EXP
returns-then-tag-eq-EXP c =
    exp_done _ _ _ _ _ _ c.if-around-eq-EXP.false c.if-tag-eq-EXP.true _ _ c.exponent.ensures

pub reduce-requires : goal.reduce-requires
reduce-requires c =
    (sym c.is_product.ensures ∙ c.if-is_product.false, c.if-tag-eq-EXP.false, c.requires)

pub returns : goal.returns
returns c =
    other_done _ _ _ _ _ _ (sym c.is_product.ensures ∙ c.if-is_product.false) c.if-tag-eq-EXP.false _ _ c.reduce.ensures
