-- The bytes of the built-in rules as the code writes them.
use Rattle.std.specs.Prelude.{ℕ, zero, suc, ◌+◌, ◌*◌, ◌≤◌, ◌<◌, List, [], ◌∷◌, ◌++◌, map, ◌≡◌, refl, length, replicate}
use Rattle.std.proofs.Common.{append_assoc, append-nil, ap₂, sym, ◌∙◌, arith, suc-mul, length-append}
use Rattle.std.proofs.Math.Path.{ap}
use Rattle.std.proofs.lemmas.List.{length-map, length-replicate}
use Rattle.number.specs.Groups.{groups, groups_in}
use Rattle.number.specs.Groups.Laws.{groups_one}
use Rattle.number.specs.Layout.{flat, listed}
use Rattle.term.specs.Term.{Term, leaf, variable, encode, encodes}
use Rattle.term.specs.Reader.{terms}
use Rattle.term.specs.Reader.Exact.{encodes_terms}
use Rattle.protocol.specs.Protocol.{encode_fact, encode_rule}
use Rattle.rules.specs.Numbered.{fixed, variables, known, applies, rule_room}
use Rattle.rules.specs.Numbered.Limits.{variables_length}

-- ── the rules 0 to 4 ──
module _ (n : ℕ) where
  pub bytes_0 : n ≡ 0 → encode_rule (fixed n) ≡ 1 ∷ 1 ∷ 0 ∷ 0 ∷ 1 ∷ 0 ∷ 0 ∷ 0 ∷ []
  unfolding groups groups_in fixed
  bytes_0 h = ap (λ (m : ℕ). encode_rule (fixed m)) h

  pub bytes_1 : n ≡ 1 → encode_rule (fixed n) ≡ 1 ∷ 0 ∷ 1 ∷ 2 ∷ 0 ∷ 0 ∷ 0 ∷ 1 ∷ 3 ∷ 0 ∷ 0 ∷ []
  unfolding groups groups_in fixed
  bytes_1 h = ap (λ (m : ℕ). encode_rule (fixed m)) h

  pub bytes_2 : n ≡ 2 → encode_rule (fixed n) ≡ 1 ∷ 0 ∷ 1 ∷ 3 ∷ 0 ∷ 0 ∷ 1 ∷ 3 ∷ 0 ∷ 0 ∷ 1 ∷ 1 ∷ 0 ∷ 0 ∷ []
  unfolding groups groups_in fixed
  bytes_2 h = ap (λ (m : ℕ). encode_rule (fixed m)) h

  pub bytes_3 : n ≡ 3 → encode_rule (fixed n) ≡ 1 ∷ 2 ∷ 0 ∷ 0 ∷ 1 ∷ 3 ∷ 0 ∷ 0 ∷ []
  unfolding groups groups_in fixed
  bytes_3 h = ap (λ (m : ℕ). encode_rule (fixed m)) h

  pub bytes_4 : n ≡ 4 → encode_rule (fixed n) ≡ 1 ∷ 1 ∷ 1 ∷ 0 ∷ 0 ∷ 0 ∷ 0 ∷ 1 ∷ 3 ∷ 0 ∷ 0 ∷ []
  unfolding groups groups_in fixed
  bytes_4 h = ap (λ (m : ℕ). encode_rule (fixed m)) h

-- ── the apply-rules, of any arity whose variables are numbers of one group ──
-- n variables from i on, in order, each behind the same bytes
abbrev pub variable_bytes : List ℕ → ℕ → ℕ → List ℕ
variable_bytes lead i zero = []
variable_bytes lead i (suc n) = (lead ++ (i ∷ [])) ++ variable_bytes lead (suc i) n

-- the sorts of k message variables, and the premises K of each
abbrev pub premise_bytes : ℕ → List ℕ
premise_bytes k = (((k ∷ []) ++ replicate k 0) ++ (k ∷ [])) ++ variable_bytes (3 ∷ 0 ∷ []) 0 k

-- behind them no action and one conclusion: K of the function of tag t, applied to the variables
abbrev pub apply_bytes : ℕ → ℕ → List ℕ
apply_bytes t k = ((premise_bytes k ++ (0 ∷ 1 ∷ 3 ∷ [])) ++ (t ∷ [])) ++ variable_bytes (0 ∷ []) 0 k

module _ (lead : List ℕ) where
  -- one variable more, behind the others
  more_from : (i n v : ℕ) → v ≡ i + n → variable_bytes lead i (suc n) ≡ variable_bytes lead i n ++ (lead ++ (v ∷ []))
  more_from i zero v h =
      let e : i ≡ v = omega arith in
      append-nil (lead ++ (i ∷ [])) ∙ ap (λ (w : ℕ). lead ++ (w ∷ [])) e
  more_from i (suc n) v h =
      ap (λ (l : List ℕ). (lead ++ (i ∷ [])) ++ l) (more_from (suc i) n v (omega arith))
      ∙ sym (append_assoc (lead ++ (i ∷ [])) (variable_bytes lead (suc i) n) (lead ++ (v ∷ [])))

  pub variable_bytes_more : (n : ℕ) → variable_bytes lead 0 (suc n) ≡ variable_bytes lead 0 n ++ (lead ++ (n ∷ []))
  variable_bytes_more n = more_from 0 n n (omega arith)

  pub variable_bytes_length : (i n : ℕ) → length (variable_bytes lead i n) ≡ n * (length lead + 1)
  variable_bytes_length i zero = omega arith
  variable_bytes_length i (suc n) =
      length-append (lead ++ (i ∷ [])) (variable_bytes lead (suc i) n)
      ∙ omega (arith, length-append lead (i ∷ []), variable_bytes_length (suc i) n, suc-mul n (length lead + 1))

module _ (code : Term → List ℕ) (lead : List ℕ) (each : (v : ℕ) → v < 128 → code (leaf variable v) ≡ lead ++ (v ∷ [])) where
  variables_bytes : (i n : ℕ) → i + n ≤ 128 → flat code (variables i n) ≡ variable_bytes lead i n
  variables_bytes i zero h = refl
  variables_bytes i (suc n) h = ap₂ ◌++◌ (each i (omega arith)) (variables_bytes (suc i) n (omega arith))

-- as many bytes as k sorts and k premises take, with their counts
abbrev pub premise_room : ℕ → ℕ
premise_room k = 2 + 4 * k

pub premise_length : (k : ℕ) → length (premise_bytes k) ≡ premise_room k
premise_length k = simp (length-append, length-replicate, variable_bytes_length) (omega arith)

flat_known : (ts : List Term) → flat encode_fact (map known ts) ≡ flat (λ t. encode_fact (known t)) ts
flat_known [] = refl
flat_known (t ∷ ts) = ap (λ (l : List ℕ). encode_fact (known t) ++ l) (flat_known ts)

sorts_bytes : (k : ℕ) → flat groups (replicate k 0) ≡ replicate k 0
sorts_bytes zero = refl
sorts_bytes (suc k) = ap₂ ◌++◌ (groups_one 0 (omega arith)) (sorts_bytes k)

module _ (t k : ℕ) (small-tag : t < 128) (small : k < 128) where
  counted_sorts : listed groups (replicate k 0) ≡ (k ∷ []) ++ replicate k 0
  counted_sorts = ap₂ ◌++◌ (ap groups (length-replicate {A = ℕ} k 0) ∙ groups_one k small) (sorts_bytes k)

  counted_premises : listed encode_fact (map known (variables 0 k)) ≡ (k ∷ []) ++ variable_bytes (3 ∷ 0 ∷ []) 0 k
  counted_premises =
      ap₂ ◌++◌
      (ap groups (length-map (variables 0 k) known ∙ variables_length 0 k) ∙ groups_one k small)
      (flat_known (variables 0 k)
      ∙ variables_bytes (λ u. encode_fact (known u)) (3 ∷ 0 ∷ [])
      (λ v h. simp (groups_one 3 (omega arith), groups_one 0 (omega arith), groups_one v h)) 0 k (omega arith))

  arguments_bytes : encodes (terms (variables 0 k)) ≡ variable_bytes (0 ∷ []) 0 k
  arguments_bytes =
      encodes_terms (variables 0 k)
      ∙ variables_bytes encode (0 ∷ []) (λ v h. simp (groups_one 0 (omega arith), groups_one v h)) 0 k (omega arith)

  pub applies_bytes : encode_rule (applies t k) ≡ apply_bytes t k
  applies_bytes =
      simp (
        counted_sorts,
        counted_premises,
        arguments_bytes,
        groups_one 0 (omega arith),
        groups_one 1 (omega arith),
        groups_one 3 (omega arith),
        groups_one t small-tag,
        append_assoc,
      )
      (simp append-nil)

  pub applies_length : length (encode_rule (applies t k)) ≡ 6 + 6 * k
  applies_length =
      ap length applies_bytes
      ∙ simp (length-append, length-replicate, variable_bytes_length) (omega arith)

-- the arities that document 01 allows, 0 to 4, leave rules for which there is room
pub applies_room : (t k : ℕ) → t < 128 → k ≤ 4 → length (encode_rule (applies t k)) ≤ rule_room
applies_room t k small-tag h = omega (arith, applies_length t k small-tag (omega arith))
