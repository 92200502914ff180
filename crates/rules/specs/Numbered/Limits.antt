-- The rule of every number keeps to the limits of a protocol file's rules, so that it is read from its bytes like those.
use Rattle.std.specs.Prelude.{ℕ, zero, suc, ◌+◌, ◌≤◌, ◌<◌, Bool, ◌≡◌, length, get_or, replicate, eqb}
use mathlib.Core.List.{List, [], ◌∷◌, ◌++◌, map}
use Rattle.std.proofs.Math.Bool.{true, false}
use Rattle.std.specs.Prelude.{Option, Some, None}
use Rattle.std.proofs.Math.Path.{refl, subst}
use Rattle.std.proofs.Common.{ap, sym, ◌∙◌, arith, lt-ltb}
use Rattle.std.proofs.lemmas.List.{length-map, length-replicate}
use Rattle.lists.specs.Choice.{pick, clash}
use Rattle.number.specs.Groups.{number_limit}
use Rattle.lists.specs.All.{All}
use Rattle.lists.specs.All.Laws.{all_map, all_at, all_append, all_nth}
use Rattle.lists.specs.Lists.{any_by}
use Rattle.term.specs.Term.{Term, leaf, app, variable, count, symbolss, Formeds, InRanges}
use Rattle.term.specs.Arity.{arity, tag_arities, builtin, signing, padded, undeclared}
use Rattle.term.specs.Arity.Laws.{arity_most}
use Rattle.term.specs.Reader.{terms}
use Rattle.term.specs.Walk.{holds, holdss}
use Rattle.protocol.specs.Protocol.{Fact, Rule, Own, Protocol, fact_of, rule_of_lem, fact_arities, leaf_in, declared}
use Rattle.protocol.specs.Protocol.Limits.{RuleWithin, Within}
use Rattle.protocol.specs.Protocol.Limits.Parts.{TermWithin, FactWithin, FactsWithin}
use Rattle.rules.specs.Numbered.{first, fixed, variables, known, applies, applied, Numbered, numbered, rule_as, rule_of}
use Rattle.rules.specs.Numbered.Map.{View, is_fixed, is_apply, is_own, is_nothing, numbered_view}

-- ── arities are at most 4 ──
-- what a slot holds
pub data Slot (a : ℕ) : Type 0 where
  takes : a ≤ 4 → Slot a
  empty : a ≡ undeclared → Slot a

padded_slots : (n : ℕ) (fs : List ℕ) → All (λ a. a < 5) fs → All Slot (padded n fs)
padded_slots zero fs h = tt
padded_slots (suc n) [] h = (empty refl, padded_slots n [] tt)
padded_slots (suc n) (a ∷ fs) h = (takes (omega (arith, h.0)), padded_slots n fs h.1)

builtin_slots : All Slot builtin
builtin_slots = (
  empty refl,
  (
    empty refl,
    (
      empty refl,
      (
        takes (omega arith),
        (
          takes (omega arith),
          (
            takes (omega arith),
            (
              takes (omega arith),
              (takes (omega arith), (takes (omega arith), (takes (omega arith), (takes (omega arith), (takes (omega arith), (takes (omega arith), tt)))))),
            ),
          ),
        ),
      ),
    ),
  ),
)

signing_slots : All Slot signing
signing_slots =
    (takes (omega arith), (takes (omega arith), (takes (omega arith), (takes (omega arith), (takes (omega arith), (takes (omega arith), tt))))))

pub slot_at : (fs : List ℕ) → All (λ a. a < 5) fs → (t : ℕ) → Slot (get_or (tag_arities fs) t undeclared)
unfolding tag_arities
slot_at fs h t =
    all_at Slot undeclared (empty refl) (builtin ++ (padded 16 fs ++ signing))
    (all_append Slot builtin (padded 16 fs ++ signing) builtin_slots (all_append Slot (padded 16 fs) signing (padded_slots 16 fs h) signing_slots)) t

pub arity_small : (fs : List ℕ) → All (λ a. a < 5) fs → (t k : ℕ) → arity (tag_arities fs) t ≡ Some k → k ≤ 4
arity_small fs h t k e = arity_most 4 (omega arith) fs (all_map (λ a. a < 5) (λ a. a ≤ 4) (λ a l. omega arith) fs h) t k e

-- ── variables ──
small_range : (n : ℕ) → n < 256 → n < number_limit
unfolding number_limit
small_range n h = omega arith

pub variables_count : (i n : ℕ) → count (terms (variables i n)) ≡ n
variables_count i zero = refl
variables_count i (suc n) = ap suc (variables_count (suc i) n)

variables_symbols : (i n : ℕ) → symbolss (terms (variables i n)) ≡ n
variables_symbols i zero = refl
variables_symbols i (suc n) = ap (λ (m : ℕ). 1 + m) (variables_symbols (suc i) n) ∙ omega arith

variables_range : (i n : ℕ) → i + n ≤ 256 → InRanges (terms (variables i n))
variables_range i zero h = tt
variables_range i (suc n) h = (small_range i (omega arith), variables_range (suc i) n (omega arith))

replicate_all : (P : ℕ → Type 0) (k : ℕ) → P 0 → All P (replicate k 0)
replicate_all P zero h = tt
replicate_all P (suc k) h = (h, replicate_all P k h)

pub variables_length : (i n : ℕ) → length (variables i n) ≡ n
variables_length i zero = refl
variables_length i (suc n) = ap suc (variables_length (suc i) n)

-- in variables below lo there is none from lo on
module _ (lo hi : ℕ) where
  variable_below : (v : ℕ) → v < lo → holds (leaf variable v) 0 lo hi ≡ false
  variable_below v h = simp (lt-ltb v lo h)

  variables_below : (i n : ℕ) → i + n ≤ lo → holdss (terms (variables i n)) 0 lo hi ≡ false
  variables_below i zero h = refl
  variables_below i (suc n) h = simp (variable_below i (omega arith), variables_below (suc i) n (omega arith))

  known_below : (i n : ℕ) → i + n ≤ lo → any_by (leaf_in 0 lo hi) (map known (variables i n)) ≡ false
  known_below i zero h = refl
  known_below i (suc n) h = simp (variable_below i (omega arith), known_below (suc i) n (omega arith))

applies_declared : (t k : ℕ) → declared (applies t k) ≡ true
applies_declared t k =
    let n : ℕ = length {A = ℕ} (replicate k 0) in
    let all : 0 + k ≤ n = omega (arith, length-replicate {A = ℕ} k 0) in
    simp (known_below n number_limit 0 k all, variables_below n number_limit 0 k all)

module _ (arities : List ℕ) where
  pub variables_formed : (i n : ℕ) → Formeds (arity arities) (terms (variables i n))
  variables_formed i zero = tt
  variables_formed i (suc n) = (tt, variables_formed (suc i) n)

  variable_within : (v : ℕ) → v < 256 → TermWithin arities (leaf variable v)
  variable_within v h = record { formed = tt; range = small_range v h; short = omega arith }

  applied_within : (t k : ℕ) → arity arities t ≡ Some k → t < 256 → k ≤ 8 → TermWithin arities (app t (terms (variables 0 k)))
  applied_within t k h l m =
      record {
        formed = (h ∙ ap Some (sym (variables_count 0 k)), variables_formed 0 k);
        range = (small_range t l, variables_range 0 k (omega arith));
        short = omega (arith, variables_symbols 0 k);
      }

  -- ── facts of the built-in symbols ──
  module _ (os : List Own) where
    arity_one : (y : ℕ) → y < 4 → get_or (fact_arities os) y 0 ≡ 1
    arity_one zero h = refl
    arity_one (suc zero) h = refl
    arity_one (suc (suc zero)) h = refl
    arity_one (suc (suc (suc zero))) h = refl
    arity_one (suc (suc (suc (suc y)))) h = absurd (omega arith)

    one_within : (y : ℕ) (t : Term) → y < 4 → TermWithin arities t → FactWithin arities (fact_arities os) (fact_of y (t ∷ []))
    one_within y t h w = record { known = omega arith; takes = sym (arity_one y h); each = (w, tt) }

    first_within : (y : ℕ) → y < 4 → FactsWithin arities (fact_arities os) (first y)
    first_within y h = record { few = omega arith; each = (one_within y (leaf variable 0) h (variable_within 0 (omega arith)), tt) }

    none_within : FactsWithin arities (fact_arities os) []
    none_within = record { few = omega arith; each = tt }

    known_within : (i n : ℕ) → i + n ≤ 256 → All (FactWithin arities (fact_arities os)) (map known (variables i n))
    known_within i zero h = tt
    known_within i (suc n) h =
        (one_within 3 (leaf variable i) (omega arith) (variable_within i (omega arith)), known_within (suc i) n (omega arith))

    -- ── the rules ──
    simple_within :
        (v : ℕ) (a b c : List Fact) → v < 3 → FactsWithin arities (fact_arities os) a → FactsWithin arities (fact_arities os) b
        → FactsWithin arities (fact_arities os) c → declared (rule_of_lem (v ∷ []) (a ∷ b ∷ c ∷ [])) ≡ true
        → RuleWithin arities (fact_arities os) (rule_of_lem (v ∷ []) (a ∷ b ∷ c ∷ []))
    simple_within v a b c h ha hb hc d =
        record { laid = record { few = omega arith; sorted = (h, tt); three = refl; each = (ha, (hb, (hc, tt))) }; bound = d }

    pub fixed_within : (n : ℕ) → RuleWithin arities (fact_arities os) (fixed n)
    unfolding fixed
    fixed_within n =
        by_test (eqb n 0)
        (simple_within 1 [] [] (first 0) (omega arith) none_within none_within (first_within 0 (omega arith)) refl)
        (by_test (eqb n 1)
        (simple_within 0 (first 2) [] (first 3) (omega arith) (first_within 2 (omega arith)) none_within (first_within 3 (omega arith)) refl)
        (by_test (eqb n 2)
        (simple_within 0 (first 3) (first 3) (first 1) (omega arith) (first_within 3 (omega arith)) (first_within 3 (omega arith))
        (first_within 1 (omega arith)) refl)
        (by_test (eqb n 3)
        (simple_within 2 [] [] (first 3) (omega arith) none_within none_within (first_within 3 (omega arith)) refl)
        (simple_within 1 (first 0) [] (first 3) (omega arith) (first_within 0 (omega arith)) none_within (first_within 3 (omega arith)) refl))))
      where
        by_test : (b : Bool) {x y : Rule} → RuleWithin arities (fact_arities os) x → RuleWithin arities (fact_arities os) y → RuleWithin arities (fact_arities os)
            (pick b x y)
        by_test b {x} {y} p q = elim b as (λ k. RuleWithin arities (fact_arities os) (pick k x y)) [ true ↦ p | false ↦ q ]

    -- of any arity that leaves no more premises than a list may have
    pub applies_within : (t k : ℕ) → arity arities t ≡ Some k → t < 256 → k ≤ 8 → RuleWithin arities (fact_arities os) (applies t k)
    applies_within t k h l m =
        record {
          laid = record {
            few = omega (arith, length-replicate {A = ℕ} k 0);
            sorted = replicate_all (λ v. v < 3) k (omega arith);
            three = refl;
            each = (
              record { few = omega (arith, length-map (variables 0 k) known, variables_length 0 k); each = known_within 0 k (omega arith) },
              (
                none_within,
                (record { few = omega arith; each = (one_within 3 (app t (terms (variables 0 k))) (omega arith) (applied_within t k h l m), tt) }, tt),
              ),
            );
          };
          bound = applies_declared t k;
        }

-- ── the rule of every number ──
module _ (p : Protocol) (w : Within p) where
  abbrev Good : Rule → Type 0
  Good = RuleWithin (tag_arities p.functions) (fact_arities p.symbols)

  from_arity : (t : ℕ) (r : Rule) (o : Option ℕ) → t < 256 → arity (tag_arities p.functions) t ≡ o → applied t o ≡ Some r → Good r
  from_arity t r (Some k) l h e =
      let z : applies t k ≡ r = cc in
      let m = arity_small p.functions w.arities t k h in
      subst Good z (applies_within (tag_arities p.functions) p.symbols t k h l (omega arith))
  from_arity t r None l h e = clash (cc)

  pub rule_within : (n : ℕ) (r : Rule) → rule_of p n ≡ Some r → Good r
  unfolding rule_of
  rule_within n r e = go (numbered n) (numbered_view n) e
    where
      go : (k : Numbered) → View n k → rule_as p k ≡ Some r → Good r
      go _ (is_fixed l) e = let z : fixed n ≡ r = cc in subst Good z (fixed_within (tag_arities p.functions) p.symbols n)
      go _ (is_apply t l) e = from_arity t r (arity (tag_arities p.functions) t) (omega arith) refl e
      go _ (is_own k l m) e = all_nth Good p.rules w.rules (suc k) r e
      go _ (is_nothing l) e = clash (cc)
