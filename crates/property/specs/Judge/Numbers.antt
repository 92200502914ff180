-- The judge over numbers: each message of a trace is replaced by a number, equal ones exactly where the messages are the same, and the public
-- name n by base + n. Which numbers they are makes no difference.
use Rattle.std.specs.Prelude.{◌≡◌, refl, true, ◌↔◌, ◌⊎◌, [], ℕ, ◌+◌, eqb}
use Rattle.std.proofs.Common.{sym, ap, subst, ◌∙◌, inl, inr, arith}
use Rattle.lists.specs.Reflects.{Reflects, reflects_eq, alike}
use Rattle.lists.specs.Pairs.{nothing, pairs_as}
use Rattle.property.specs.Formula.{Formula}
use Rattle.property.specs.Fit.{fit}
use Rattle.property.specs.Meaning.{Messages, Times, Fact, Trace, Holds}
use Rattle.property.specs.Meaning.Alike.{LikeFact, LikeTrace}
use Rattle.property.specs.Judge.{judge}
use Rattle.property.specs.Judge.Decides.{judge_decides}
use Rattle.property.specs.Judge.Natural.{Natural, judge_like}

-- numbers for messages: the name n is base + n
abbrev pub numbers : ℕ → Messages
numbers base = record {
  Msg = ℕ;
  Same = ◌≡◌;
  name = λ n. base + n;
  same = eqb;
  decides = reflects_eq;
  itself = λ a. refl;
  turned = λ p. sym p;
  joined = λ p q. p ∙ q;
}

-- the numbers of some messages
pub record Numbering (M : Messages) (base : ℕ) (R : M.Msg → ℕ → Type 0) : Type 0 where
  pub same : {a b : M.Msg} {c d : ℕ} → R a c → R b d → M.Same a b ↔ (c ≡ d)
  pub named : {a : M.Msg} {c : ℕ} → R a c → (n : ℕ) → M.Same a (M.name n) ↔ (c ≡ base + n)

module _ (M : Messages) (apart : (i j : ℕ) → M.Same (M.name i) (M.name j) → i ≡ j) (base : ℕ) (R : M.Msg → ℕ → Type 0) (table : Numbering M base R) where
  -- in the table, or a public name
  abbrev Has : M.Msg → ℕ → Type 0
  Has a c = R a c ⊎ ((n : ℕ) × (a ≡ M.name n) × (c ≡ base + n))

  has_same : {a b : M.Msg} {c d : ℕ} → Has a c → Has b d → M.Same a b ↔ (c ≡ d)
  has_same (inl r) (inl s) = table.same r s
  has_same {a} {b} {c} {d} (inl r) (inr (n, p, q)) = (
    (λ h. (table.named r n).0 (subst (M.Same a) p h) ∙ sym q),
    (λ e. subst (M.Same a) (sym p) ((table.named r n).1 (e ∙ q))),
  )
  has_same {a} {b} {c} {d} (inr (n, p, q)) (inl s) = (
    (λ h. q ∙ sym ((table.named s n).0 (subst (M.Same b) p (M.turned h)))),
    (λ e. M.turned (subst (M.Same b) (sym p) ((table.named s n).1 (sym e ∙ q)))),
  )
  has_same {a} {b} {c} {d} (inr (n, p, q)) (inr (m, r, s)) = (
    (λ h. q ∙ ap (base +◌) (apart n m (subst (λ (x : M.Msg). M.Same x (M.name m)) p (subst (M.Same a) r h))) ∙ sym s),
    (λ e. let z : n ≡ m = omega arith in subst (M.Same a) (p ∙ ap M.name z ∙ sym r) (M.itself a)),
  )

  has_natural : Natural M (numbers base) Has
  has_natural = record {
    tests = λ {a} {b} {c} {d} p q. let h = has_same p q in alike h.0 h.1 (M.decides a b) (reflects_eq c d);
    names = λ n. inr (n, refl, refl);
  }

  module _ (tr : Trace M.Msg) (nt : Trace ℕ) (like : LikeTrace R tr nt) where
    has_fact : (f : Fact M.Msg) (g : Fact ℕ) → LikeFact R f g → LikeFact Has f g
    has_fact f g l = record { symbol = l.symbol; messages = pairs_as (λ a c r. inl r) l.messages }

    pub judge_numbers : (f : Formula) → judge M tr [] f ≡ judge (numbers base) nt [] f
    judge_numbers f = judge_like has_natural (pairs_as (λ l m p. pairs_as has_fact p) like) f nothing

    -- the judge over the numbers decides what the property means of the messages
    pub numbers_decide : (f : Formula) → fit [] f ≡ true → (S : Times) → Reflects (Holds M S tr [] f) (judge (numbers base) nt [] f)
    numbers_decide f ok S = subst (Reflects (Holds M S tr [] f)) (judge_numbers f) (judge_decides M tr f ok S)
