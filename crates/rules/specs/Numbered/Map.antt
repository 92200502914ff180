-- The numbers of rules: what each range says, and that the map is one to one.
use Rattle.std.specs.Prelude.{ℕ, ◌+◌, ◌-◌, ◌≤◌, ◌<◌, ◌≡◌, length, get_or, ltb}
use Rattle.std.specs.Prelude.{Some, None}
use Rattle.std.proofs.Common.{ap, sym, ◌∙◌, subst, arith}
use Rattle.std.specs.Prelude.{slice_get}
use borrow.Author.Tests.{lt-ltb, le-ltb}
use Rattle.lists.specs.Choice.{pick, by_size}
use Rattle.lists.specs.Lists.Laws.{at_outside}
use Rattle.term.specs.Tags.{tag_count, aenc_tag}
use Rattle.term.specs.Arity.{arity, undeclared, signing, tag_arities}
use Rattle.term.specs.Arity.Laws.{signing_arity}
use Rattle.protocol.specs.Figures.{most_rules}
use Rattle.protocol.specs.Protocol.{Protocol}
use Rattle.rules.specs.Numbered.{Numbered, a_fixed, an_apply, an_own, nothing, first_apply, first_own_rule}
use Rattle.rules.specs.Numbered.{number_count, tag_shift, signing_shift, numbered, applies, applied, rule_as, rule_of}

-- ── by the ranges ──
module _ (n : ℕ) where
  pub number_fixed : n < 5 → numbered n ≡ a_fixed n
  unfolding numbered
  number_fixed h = simp (lt-ltb n 5 h)

  pub number_apply : 5 ≤ n → n < 31 → numbered n ≡ an_apply (n - 2)
  unfolding numbered
  number_apply h k = simp (le-ltb n 5 h, lt-ltb n 31 k)

  pub number_own : 31 ≤ n → n < 95 → numbered n ≡ an_own (n - 31)
  unfolding numbered
  number_own h k = simp (le-ltb n 5 (omega arith), le-ltb n 31 h, lt-ltb n 95 k)

  pub number_signing : 95 ≤ n → n < 101 → numbered n ≡ an_apply (n - 66)
  unfolding numbered
  number_signing h k = simp (le-ltb n 5 (omega arith), le-ltb n 31 (omega arith), le-ltb n 95 h, lt-ltb n 101 k)

  pub number_nothing : 101 ≤ n → numbered n ≡ nothing
  unfolding numbered
  number_nothing h = simp (le-ltb n 5 (omega arith), le-ltb n 31 (omega arith), le-ltb n 95 (omega arith), le-ltb n 101 h)

-- what a number can stand for
pub data View (n : ℕ) : Numbered → Type 0 where
  is_fixed : n < first_apply → View n (a_fixed n)
  is_apply : (t : ℕ) → t < tag_count → View n (an_apply t)
  is_own : (r : ℕ) → r < most_rules → n ≡ first_own_rule + r → View n (an_own r)
  is_nothing : number_count ≤ n → View n nothing

pub numbered_view : (n : ℕ) → View n (numbered n)
numbered_view n =
    by_size n 5 (λ h. subst (View n) (sym (number_fixed n h)) (is_fixed h)) λ h.
    by_size n 31 (λ k. subst (View n) (sym (number_apply n h k)) (is_apply (n - 2) (omega arith))) λ k.
    by_size n 95 (λ l. subst (View n) (sym (number_own n k l)) (is_own (n - 31) (omega arith) (omega arith))) λ l.
    by_size n 101 (λ m. subst (View n) (sym (number_signing n l m)) (is_apply (n - 66) (omega arith)))
    (λ m. subst (View n) (sym (number_nothing n m)) (is_nothing m))

-- ── one to one ──
-- the number of what a number can stand for
unfoldable pub number_of : Numbered → ℕ
number_of (a_fixed n) = n
number_of (an_apply t) = pick (ltb t 29) (t + tag_shift) (t + signing_shift)
number_of (an_own r) = first_own_rule + r
number_of nothing = number_count

pub number_back : (n : ℕ) → n < number_count → number_of (numbered n) ≡ n
unfolding number_of
number_back n s =
    by_size n 5 (λ h. ap number_of (number_fixed n h)) λ h.
    by_size n 31 (λ k. ap number_of (number_apply n h k) ∙ ap (λ b. pick b (n - 2 + 2) (n - 2 + 66)) (lt-ltb (n - 2) 29 (omega arith)) ∙ omega arith) λ k.
    by_size n 95 (λ l. ap number_of (number_own n k l) ∙ omega arith) λ l.
    ap number_of (number_signing n l s) ∙ ap (λ b. pick b (n - 66 + 2) (n - 66 + 66)) (le-ltb (n - 66) 29 (omega arith)) ∙ omega arith

-- "a protocol rule r (from 0) is 31+r", whatever the protocol
pub own_number : (p : Protocol) (r : ℕ) → r < most_rules → rule_of p (31 + r) ≡ slice_get p.rules r
unfolding rule_of
own_number p r h =
    let z : 31 + r - 31 ≡ r = omega arith in
    ap (rule_as p) (number_own (31 + r) (omega arith) (omega arith)) ∙ ap (slice_get p.rules) z

-- no protocol has one of the other numbers
pub no_number : (p : Protocol) (n : ℕ) → length p.rules + 31 ≤ n → n < 95 → rule_of p n ≡ None
unfolding rule_of
no_number p n h k =
    ap (rule_as p) (number_own n (omega arith) k) ∙ at_outside p.rules (n - 31) (omega arith)

pub no_number_behind : (p : Protocol) (n : ℕ) → 101 ≤ n → rule_of p n ≡ None
unfolding rule_of
no_number_behind p n h = ap (rule_as p) (number_nothing n h)

-- "Their apply-rules are 95 to 100, in that order", whatever the protocol
pub signing_number : (p : Protocol) (j : ℕ) → j < 6 → rule_of p (95 + j) ≡ Some (applies (aenc_tag + j) (get_or signing j undeclared))
unfolding rule_of
signing_number p j h =
    let z : 95 + j - 66 ≡ 29 + j = omega arith in
    ap (rule_as p) (number_signing (95 + j) (omega arith) (omega arith))
    ∙ ap (λ (t : ℕ). applied t (arity (tag_arities p.functions) t)) z
    ∙ ap (applied (29 + j)) (signing_arity p.functions j h)
