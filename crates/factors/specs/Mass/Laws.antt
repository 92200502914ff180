-- A product gathered from some terms has no more entries, and no exponent further from zero, than they have symbols.
use Rattle.std.specs.Prelude.{suc, ◌+◌, max, ◌≤◌, ◌≡◌, refl, Bool, true, false, not, nat_abs}
use Rattle.std.proofs.Common.{arith}
use Rattle.std.specs.declared.cmp.Ordering.{Ordering}
use Rattle.std.specs.declared.cmp.Ordering.TheVariants.{Less, Equal, Greater}
use Rattle.term.specs.Term.{Term, leaf, app, Terms, nil, ◌&◌, symbols, symbolss}
use Rattle.message.specs.Product.{Exps, empty, part, order}
use Rattle.message.specs.Parts.{role}
use Rattle.message.specs.Gather.{enter_at, enter, sign, pour, pours}
use Rattle.message.specs.Gather.Laws.{pour_at_ind}
use Rattle.factors.specs.Whole.{add_abs}
use Rattle.factors.specs.Mass.{size, mass}

pub size_mass : (l : Exps) → size l ≤ mass l
unfolding size mass
size_mass empty = omega arith
size_mass (part t k l) = omega (arith, size_mass l)

pub sign_abs : (m : Bool) → nat_abs (sign m) ≡ 1
sign_abs true = refl
sign_abs false = refl

-- ── entering ──
pub mass_enter : (t : Term) (m : Bool) (l : Exps) → mass (enter t (sign m) l) ≤ mass l + 1
unfolding mass enter
mass_enter t m empty = omega (arith, sign_abs m)
mass_enter t m (part u j l) = go (order t u) (mass_enter t m l)
  where
    go : (o : Ordering) → mass (enter t (sign m) l) ≤ mass l + 1
        → mass (enter_at o t (sign m) u j l (enter t (sign m) l)) ≤ max 1 (nat_abs j) + mass l + 1
    go Less h = omega (arith, sign_abs m)
    go Equal h = omega (arith, sign_abs m, add_abs j (sign m))
    go Greater h = omega arith

-- ── gathering ──
mutual
  unfolding pour

  pub mass_pour : (m : Bool) (t : Term) (l : Exps) → mass (pour m t l) ≤ mass l + symbols t
  mass_pour m (leaf k n) l = mass_enter (leaf k n) m l
  mass_pour m (app f ts) l =
      pour_at_ind (λ z. mass z ≤ mass l + suc (symbolss ts)) (role f) _ _ _
      (omega (arith, mass_pours m ts l))
      (omega (arith, mass_pours (not m) ts l))
      (omega (arith, mass_enter (app f ts) m l))

  pub mass_pours : (m : Bool) (ts : Terms) (l : Exps) → mass (pours m ts l) ≤ mass l + symbolss ts
  mass_pours m nil l = omega arith
  mass_pours m (t & ts) l = omega (arith, mass_pour m t l, mass_pours m ts (pour m t l))
