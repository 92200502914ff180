-- The places as the code goes to them: one reading, and then from behind it.
use Rattle.std.specs.Prelude.{ℕ, List, Bool, Option, Some, None, ◌≡◌, refl, length}
use Rattle.std.proofs.Math.Path.{ap}
use Rattle.std.proofs.Common.{sym, ◌∙◌}
use Rattle.protocol.specs.Figures.{sort_count, fact_limit, variable_limit}
use Rattle.number.specs.Reading.{Read, got, fault, and_then, below, many, seen}
use Rattle.protocol.specs.Protocol.{rule_term, fact, facts}
use Rattle.protocol.specs.Protocol.Walks.{sorts_at, sorts_from}
use Rattle.protocol.specs.Places.{place_of, sort_of, list_place, fact_place, term_place}

-- what code has of a reading: its end, or 0; its test, or no
abbrev pub end_of : Option (ℕ × Bool) → ℕ
end_of (Some (e, b)) = e
end_of None = 0

end_place : {A : Type 0} (q : A → Bool) (r : Read A) → end_of (seen q r) ≡ place_of r
end_place q (got x e) = refl
end_place q fault = refl

-- a walk's end, where the walk stands for a reading
pub end_walk : {A : Type 0} (q : A → Bool) (r : Read A) {w : Option (ℕ × Bool)} {n : ℕ} → n ≡ end_of w → w ≡ seen q r → n ≡ place_of r
end_walk q r h k = h ∙ ap end_of k ∙ end_place q r

-- the first of several stands at their start
pub first_place : {A : Type 0} (p : ℕ → Read A) (i e : ℕ) → i ≡ 0 → e ≡ place_of (many p i e)
unfolding many
first_place p i e h = sym (ap (λ (k : ℕ). place_of (many p k e)) h)

place_then : {A B : Type 0} (f : A → ℕ → Read B) {r o : Read A} → r ≡ o → place_of (and_then r f) ≡ place_of (and_then o f)
place_then {A} f h = ap (λ (o : Read A). place_of (and_then o f)) h

module _ (file arities ars : List ℕ) (at i : ℕ) where
  pub list_got : {n e : ℕ} → sorts_at file at ≡ got n e → list_place file arities ars at i ≡ place_of (many (facts file arities ars) i e)
  unfolding list_place
  list_got h = place_then _ h

  pub list_none : sorts_at file at ≡ fault → list_place file arities ars at i ≡ 0
  unfolding list_place
  list_none h = place_then _ h

  pub fact_got : {n e : ℕ} → below file fact_limit at ≡ got n e → fact_place file arities ars at i ≡ place_of (many (fact file arities ars) i e)
  unfolding fact_place
  fact_got h = place_then _ h

  pub term_got : {n e : ℕ} → below file (length ars) at ≡ got n e → term_place file arities ars at i ≡ place_of (many (rule_term file arities) i e)
  unfolding term_place
  term_got h = place_then _ h

  pub term_none : below file (length ars) at ≡ fault → term_place file arities ars at i ≡ 0
  unfolding term_place
  term_none h = place_then _ h

-- the first fact of a list stands behind the count
pub fact_first : (file arities ars : List ℕ) (at : ℕ) → place_of (below file fact_limit at) ≡ fact_place file arities ars at 0
unfolding fact_place many
fact_first file arities ars at = go (below file fact_limit at)
  where
    go : (r : Read ℕ) → place_of r ≡ place_of (and_then r (λ n e. many (fact file arities ars) 0 e))
    go (got n e) = refl
    go fault = refl

-- the sort of a variable
unfoldable pub sort_from : List ℕ → ℕ → ℕ → Read ℕ
sort_from file v at = and_then (many (below file sort_count) v at) (λ vs f. below file sort_count f)

module _ (file : List ℕ) (v : ℕ) where
  from_any : (r : Read (List ℕ)) {o : Read ℕ} → and_then r (λ vs e. got v e) ≡ o → and_then r (λ vs f. below file sort_count f) ≡ and_then o
      (λ n f. below file sort_count f)
  from_any (got vs f) h = ap (λ (x : Read ℕ). and_then x (λ n f. below file sort_count f)) h
  from_any fault h = ap (λ (x : Read ℕ). and_then x (λ n f. below file sort_count f)) h

  module _ (at : ℕ) where
    pub sort_got : {n e : ℕ} → below file variable_limit at ≡ got n e → sort_of file at v ≡ sort_from file v e
    unfolding sort_of sort_from
    sort_got h = ap (λ (o : Read ℕ). and_then o (λ n e. and_then (many (below file sort_count) v e) (λ vs f. below file sort_count f))) h

    pub sort_none : below file variable_limit at ≡ fault → sort_of file at v ≡ fault
    unfolding sort_of
    sort_none h = ap (λ (o : Read ℕ). and_then o (λ n e. and_then (many (below file sort_count) v e) (λ vs f. below file sort_count f))) h

    -- behind the sorts before it
    pub from_got : {n e : ℕ} → sorts_from file v at ≡ got n e → sort_from file v at ≡ below file sort_count e
    unfolding sorts_from sort_from
    from_got h = from_any (many (below file sort_count) v at) h

    pub from_none : sorts_from file v at ≡ fault → sort_from file v at ≡ fault
    unfolding sorts_from sort_from
    from_none h = from_any (many (below file sort_count) v at) h
