-- What holds of `same`, `linear` and `count`.
use Rattle.std.specs.Prelude.{◌≡◌, true, false, not, List}
use Rattle.std.proofs.Common.{sym, ◌∙◌, ap}
use Rattle.lists.specs.Tests.{by_bool, true_false, not_true}
use Rattle.lists.specs.Lists.Laws.{count_ext, count_keep}
use Rattle.rewriting.specs.Facts.{Facts, count, linears, persistents}

module _ (F : Facts) where
  open F use {Fact, same, linear, same_refl, same_sym, same_trans, same_linear}

  -- Same facts are the same as the same facts.
  pub same_left : (f p a : Fact) → same p a ≡ true → same f a ≡ same f p
  same_left f p a h =
      by_bool (same f p)
      (λ t. same_trans f p a t h ∙ sym t)
      (λ n. not_true (same f a) (λ u. true_false (same f p) (same_trans f a p u (same_sym p a h)) n) ∙ sym n)

  pub same_right : (f g a : Fact) → same f g ≡ true → same f a ≡ same g a
  same_right f g a h =
      by_bool (same g a)
      (λ t. same_trans f g a h t ∙ sym t)
      (λ n. not_true (same f a) (λ u. true_false (same g a) (same_trans g f a (same_sym f g h) u) n) ∙ sym n)

  -- A linear fact and a persistent one are not the same.
  pub not_same : (f p : Fact) → linear f ≡ true → linear p ≡ false → same f p ≡ false
  not_same f p a b = not_true (same f p) (λ t. true_false (linear f) a (same_linear f p t ∙ b))

  pub not_same' : (f p : Fact) → linear f ≡ false → linear p ≡ true → same f p ≡ false
  not_same' f p a b = not_true (same f p) (λ t. true_false (linear p) b (sym (same_linear f p t) ∙ a))

  -- Same facts have the same multiplicity.
  pub count_same : (f g : Fact) → same f g ≡ true → (l : List Fact) → count F f l ≡ count F g l
  count_same f g h l = count_ext _ _ l (λ a m. same_right f g a h)

  -- A linear fact stands as often among the linear ones, and a persistent one among the persistent ones.
  pub count_linears : (f : Fact) → linear f ≡ true → (l : List Fact) → count F f (linears F l) ≡ count F f l
  count_linears f lf l = count_keep linear (same f) (λ g e. sym (same_linear f g e) ∙ lf) l

  pub count_persistents : (f : Fact) → linear f ≡ false → (l : List Fact) → count F f (persistents F l) ≡ count F f l
  count_persistents f lf l = count_keep (λ g. not (linear g)) (same f) (λ g e. ap not (sym (same_linear f g e) ∙ lf)) l
