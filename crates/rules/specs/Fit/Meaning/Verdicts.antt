-- What a verdict says: every rule is fit, or the rule of that place is the first that is not.
use Rattle.std.specs.Prelude.{ℕ, suc, ◌≤◌, ◌<◌, List, true, false, not, ◌↔◌, ◌≡◌, refl, length, get_or}
use Rattle.std.proofs.Common.{ap, ◌∙◌, arith}
use Rattle.lists.specs.All.Laws.{all_inside}
use Rattle.lists.specs.Choice.{cut_eq, by_size, clash}
use Rattle.octets.specs.Head.{Bytes}
use Rattle.number.specs.Reading.{Read, got, fault}
use Rattle.term.specs.Arity.{tag_arities}
use Rattle.protocol.specs.Protocol.{Protocol, empty_rule, fact_arities, protocol}
use Rattle.protocol.specs.Protocol.Limits.{RuleWithin, Within}
use Rattle.protocol.specs.Protocol.Exact.{protocol_form}
use Rattle.rules.specs.Fit.{fits, sound, broken, outcome, judged}
use Rattle.lists.specs.Below.{least, least_zero, least_some, none_least, first_least, least_bound}
use Rattle.rules.specs.Fit.Laws.{unfit, some_broken}
use Rattle.lists.specs.Tests.{not_false, not_from}
use Rattle.rules.specs.Fit.Meaning.{Fit}
use Rattle.rules.specs.Fit.Meaning.Laws.{fit_exactly}

-- ── the rules of a protocol within the limits ──
module _ (p : Protocol) (w : Within p) where
  -- the rule of this place is fit, by the test
  abbrev Fine : ℕ → Type 0
  Fine k = Fit (get_or p.rules k empty_rule)

  decided : (k : ℕ) → k < length p.rules → (fits (get_or p.rules k empty_rule) ≡ true) ↔ Fine k
  decided k l =
      fit_exactly (tag_arities p.functions) (fact_arities p.symbols) (get_or p.rules k empty_rule)
      (all_inside (RuleWithin (tag_arities p.functions) (fact_arities p.symbols)) empty_rule p.rules w.rules k l)

  fine_to : (k : ℕ) → k < length p.rules → unfit p.rules k ≡ false → Fine k
  fine_to k l h = (decided k l).0 (not_false (fits (get_or p.rules k empty_rule)) h)

  fine_from : (k : ℕ) → k < length p.rules → Fine k → unfit p.rules k ≡ false
  fine_from k l f = ap not ((decided k l).1 f)

  sound_zero : (k : ℕ) → outcome k ≡ sound → k ≡ 0
  sound_zero k h = cut_eq _ _ _ k 0 h (λ z h. z) (λ z h. clash (cc))

  broken_is : (j k : ℕ) → outcome j ≡ broken (suc k) → j ≡ suc k
  broken_is j k h = cut_eq _ _ _ j 0 h (λ z h. clash (cc)) (λ z h. cc)

  -- sound: every rule is fit
  pub sound_exactly : (e : ℕ) → (judged (got p e) ≡ sound) ↔ ((k : ℕ) → k < length p.rules → Fine k)
  sound_exactly e = (
    (λ h k l. fine_to k l (least_zero (unfit p.rules) (length p.rules) (sound_zero (least (unfit p.rules) (length p.rules)) h) k l)),
    (λ f. ap outcome (none_least (unfit p.rules) (length p.rules) (λ k l. fine_from k l (f k l)))),
  )

  -- broken: the rule of that place, counted from 1, is the first that is not fit
  pub record Breaks (k : ℕ) : Type 0 where
    pub inside : k < length p.rules
    pub not_fit : Fine k → ⊥
    pub before : (i : ℕ) → i < k → Fine i

  broken_to : (e k : ℕ) → judged (got p e) ≡ broken (suc k) → Breaks k
  broken_to e k h =
      let f = least_some (unfit p.rules) (length p.rules) k (broken_is (least (unfit p.rules) (length p.rules)) k h) in
      record {
        inside = f.inside;
        not_fit = λ g. let z = fine_from k f.inside g in let y = f.hit in clash (cc);
        before = λ i l. fine_to i (omega (arith, f.inside)) (f.before i l);
      }

  broken_from : (e k : ℕ) → Breaks k → judged (got p e) ≡ broken (suc k)
  broken_from e k b =
      ap outcome
      (first_least (unfit p.rules) (length p.rules) k
      record {
        inside = b.inside;
        hit = not_from (fits (get_or p.rules k empty_rule)) (λ h. b.not_fit ((decided k b.inside).0 h));
        before = λ i l. fine_from i (omega (arith, b.inside)) (b.before i l);
      })
      ∙ some_broken (λ h. absurd (omega arith))

  pub broken_exactly : (e k : ℕ) → (judged (got p e) ≡ broken (suc k)) ↔ Breaks k
  broken_exactly e k = (broken_to e k, broken_from e k)

-- ── the place of a broken rule, in any file ──
pub record Place (k : ℕ) : Type 0 where
  pub from_one : 0 < k
  pub small : k ≤ 64

module _ (file : List ℕ) (bytes : Bytes file) where
  place_of : (k : ℕ) (o : Read Protocol) → protocol file ≡ o → judged o ≡ broken k → Place k
  place_of k (got p e) r h =
      let w = protocol_form file bytes p e r in
      let few : length p.rules ≤ 64 = w.within.few_rules in
      let l = least_bound (unfit p.rules) (length p.rules) in
      cut_eq _ _ _ (least (unfit p.rules) (length p.rules)) 0 h
      (λ z h. clash (cc))
      (λ z h. let j : least (unfit p.rules) (length p.rules) ≡ k = cc in
      record { from_one = by_size 0 k (λ l. l) (λ l. absurd (z (omega arith))); small = omega arith })
  place_of k fault r h = clash (cc)

  pub broken_place : (k : ℕ) → judged (protocol file) ≡ broken k → Place k
  broken_place k h = place_of k (protocol file) refl h
