-- Over 128 symbols is too long; else the value's part of the file is the message that is_canonical decides, and it has no variables.
use Rattle.steps.specs.Values.Code.{by_canonical, message, canonical_is}
use mathlib.Core.Path.{refl}
use native.Mathlib.Omega.{arith}
use Rattle.steps.proofs.values.message_ok.Goals as goal

pub is_canonical-requires : goal.is_canonical-requires
is_canonical-requires c =
    let q = c.requires.1 in (
      c.requires.0.enough,
      c.requires.0.short,
      (
        q.0,
        message _ _ _ q.0 _ q.1.is 0 (λ i. (c.type_inv.s i).fits) _ c.term_part.ensures q.1.is_ground
            (omega (arith, q.1.sized, c.if-size-gt-MOST_IN_VALUE.false)),
      ),
    )

pub returns : goal.returns
returns c =
    λ t v.
    let m = message _ _ _ t _ v.is 0 (λ i. (c.type_inv.s i).fits) _ c.term_part.ensures v.is_ground
    (omega (arith, v.sized, c.if-size-gt-MOST_IN_VALUE.false)) in
    by_canonical _ _ _ t _ v.is 0 _ v.is_ground (omega (arith, v.sized, c.if-size-gt-MOST_IN_VALUE.false)) refl
    (canonical_is _ _ _ t _ v.is 0 (λ i. (c.type_inv.s i).fits) _ c.term_part.ensures _ c.is_canonical.ensures m)
