-- What code finds for a rule number in a prepared protocol: the place of its rule, or that there is none.
use Rattle.std.specs.Prelude.{ℕ, ◌≤◌, ◌<◌, List, ◌≡◌, refl}
use Rattle.std.specs.Prelude.{Option, Some, None}
use Rattle.std.proofs.lemmas.Option.{same_Some, none-some}
use Rattle.std.proofs.Common.{sym, ◌∙◌, subst, arith}
use Rattle.lists.specs.Choice.{by_size}
use Rattle.protocol.specs.Protocol.{Rule, Protocol}
use Rattle.protocol.specs.Protocol.Limits.{Within}
use Rattle.rules.specs.Numbered.{nothing, rule_of}
use Rattle.rules.specs.Numbered.Found.{of_number}
use Rattle.rules.specs.Numbered.Map.{number_nothing}
use Rattle.prepared.specs.Sections.{rule_count}
use Rattle.prepared.specs.Prepared.{place_at, RuleAt, Entry, Body}

pub record RuleFound (p : List ℕ) (P : Protocol) (n place : ℕ) : Type 0 where
  pub its : Rule
  pub is : rule_of P n ≡ Some its
  pub here : RuleAt p its place

abbrev pub Finds : List ℕ → Protocol → ℕ → Option ℕ → Type 0
Finds p P n (Some place) = RuleFound p P n place
Finds p P n None = rule_of P n ≡ None

-- ── no rule has a number that the table has not ──
pub rule_past : (P : Protocol) → Within P → (n : ℕ) → rule_count ≤ n → rule_of P n ≡ None
rule_past P w n h = of_number P n nothing (number_nothing n h)

pub rule_listed : (P : Protocol) → Within P → (n : ℕ) (u : Rule) → rule_of P n ≡ Some u → n < rule_count
rule_listed P w n u is =
    by_size n rule_count (λ h. h) (λ h. absurd (none-some u (sym (rule_past P w n h) ∙ is)))

-- a rule stands at the place of its number
pub rule_at : (p : List ℕ) (P : Protocol) → Body p P → (n : ℕ) (u : Rule) → rule_of P n ≡ Some u → RuleAt p u (place_at p n)
rule_at p P f n u is = (subst (Entry p n) is (f.rules n (rule_listed P f.within n u is))).here

-- ── the answers ──
module _ (p : List ℕ) (P : Protocol) (f : Body p P) (n : ℕ) (small : n < rule_count) where
  by_entry : {C : Option Rule → Type 0} → ((o : Option Rule) → rule_of P n ≡ o → Entry p n o → C o) → C (rule_of P n)
  by_entry k = k (rule_of P n) refl (f.rules n small)

  pub found_none : (v : ℕ) → v ≡ place_at p n → v ≡ 0 → rule_of P n ≡ None
  found_none v h z = by_entry {C = λ o. o ≡ None} go
    where
      go : (o : Option Rule) → rule_of P n ≡ o → Entry p n o → o ≡ None
      go (Some u) is e = absurd (omega (arith, e.there))
      go None is e = refl

  pub found_some : (v : ℕ) → v ≡ place_at p n → (v ≡ 0 → ⊥) → RuleFound p P n v
  found_some v h z = go (rule_of P n) refl (f.rules n small)
    where
      go : (o : Option Rule) → rule_of P n ≡ o → Entry p n o → RuleFound p P n v
      go (Some u) is e = record { its = u; is = is; here = subst (RuleAt p u) (sym h) e.here }
      go None is e = absurd (z (h ∙ e))

-- what was found is the rule of the number
pub found_here : (p : List ℕ) (P : Protocol) (n place : ℕ) → RuleFound p P n place → (u : Rule) → rule_of P n ≡ Some u → RuleAt p u place
found_here p P n place f u is = subst (λ (v : Rule). RuleAt p v place) (same_Some f.its u (sym f.is ∙ is)) f.here
