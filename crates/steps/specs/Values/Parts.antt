-- The terms of a fact, the facts of a list and the lists of a rule, one after the other: a test of all of them.
use Prim.Native.Nat.{ℕ, zero, suc, ◌+◌, ◌-◌, ◌≤◌, ◌<◌}
use mathlib.Core.List.{List, [], ◌∷◌}
use Rattle.std.specs.Prelude.{Bool, true, false, ◌&&◌, ◌≡◌, refl, length, drop, ltb, Some, None}
use Rattle.std.proofs.Math.Path.{ap, ap₂}
use Rattle.std.proofs.Common.{sym, ◌∙◌, drop_of_length-le, drop-cons}
use native.Mathlib.Omega.{arith}
use Rattle.std.proofs.Math.ListN.{get_or}
use Rattle.steps.specs.Values.{most_filled_in}
use Rattle.lists.specs.Choice.{cut, clash}
use Rattle.octets.specs.Head.{Bytes}
use Rattle.lists.specs.Asks.{Asks₂, Promises₂}
use Rattle.number.specs.Reading.{Read, got, and_then, below, many, counted}
use Rattle.number.specs.Reading.Laws.{cut_got}
use Rattle.number.specs.Reading.Many.{many_length}
use Rattle.number.specs.Reading.Numbers.{below_inside}
use Rattle.term.specs.Term.{variable, public, fresh, Term, leaf, app, Terms, nil, ◌&◌, symbols}
use Rattle.term.specs.Reader.{term}
use Rattle.protocol.specs.Protocol.{Fact, Rule, no_fact, rule_term, fact, facts, layout, rule}
use Rattle.protocol.specs.Figures.{fact_limit, rule_symbol_limit}
use Rattle.protocol.specs.Places.{Here, ReadAs, place_of, fact_place, term_place, value_of}
use Rattle.protocol.specs.Places.Laws.{rule_layout, rule_parts, count_law, fact_law, symbol_law, terms_law, term_law, fact_fields}
use Rattle.lists.specs.Lists.{all_by}
use Rattle.steps.specs.Facts.{value_at}
use Rattle.steps.specs.Values.Tests.{term_ok, fact_ok, rule_ok}
use Rattle.steps.specs.Values.Weights.{weigh, weighs, weigh_filled, term_small, small_to, upto, big}

-- ── all of a list ──
module _ {A : Type 0} (ok : A → Bool) (d : A) (xs : List A) where
  abbrev pub AllLeft : ℕ → Type 0
  AllLeft j = all_by ok xs ≡ all_by ok (drop j xs)

  step : (j : ℕ) → j < length xs → AllLeft j → all_by ok xs ≡ (ok (get_or xs j d) && all_by ok (drop (j + 1) xs))
  step j l h =
      let b : suc j ≡ j + 1 = omega arith in
      h ∙ ap (all_by ok) (drop-cons xs j d l) ∙ ap (λ (i : ℕ). ok (get_or xs j d) && all_by ok (drop i xs)) b

  pub all_more : (j : ℕ) → j < length xs → ok (get_or xs j d) ≡ true → AllLeft j → AllLeft (j + 1)
  all_more j l t h = step j l h ∙ ap (λ (b : Bool). b && all_by ok (drop (j + 1) xs)) t

  pub all_bad : (j : ℕ) → j < length xs → ok (get_or xs j d) ≡ false → AllLeft j → false ≡ all_by ok xs
  all_bad j l t h = sym (step j l h ∙ ap (λ (b : Bool). b && all_by ok (drop (j + 1) xs)) t)

  pub all_done : (j : ℕ) → length xs ≤ j → AllLeft j → true ≡ all_by ok xs
  all_done j l h = sym (h ∙ ap (all_by ok) (drop_of_length-le xs l))

-- ── all of those that stand one after another: the k left, from a place on, decide, and end where all end ──
module _ {A : Type 0} (p : ℕ → Read A) (ok : A → Bool) (xs : List A) (end : ℕ) where
  pub record Left (k at : ℕ) : Type 0 where
    pub rest : List A
    pub reads : many p k at ≡ got rest end
    pub decide : all_by ok rest ≡ all_by ok xs

  pub left_starts : (k at : ℕ) → many p k at ≡ got xs end → Left k at
  left_starts k at h = record { rest = xs; reads = h; decide = refl }

  -- the next one, and those behind it
  record Next (k at : ℕ) : Type 0 where
    pub item : A
    pub behind : ℕ
    pub others : List A
    pub here : p at ≡ got item behind
    pub reads : many p (k - 1) behind ≡ got others end
    pub decide : (ok item && all_by ok others) ≡ all_by ok xs

  next : (k at : ℕ) → 0 < k → Left k at → Next k at
  unfolding many
  next zero at l g = absurd (omega arith)
  next (suc k) at l g =
      cut_got (p at) _ g.reads (λ y d hy q. cut_got (many p k d) _ q (λ ys c hys q.
      let r : y ∷ ys ≡ g.rest = cc in
      let b : c ≡ end = cc in
      let z : suc k - 1 ≡ k = omega arith in
      record {
        item = y;
        behind = d;
        others = ys;
        here = hy;
        reads = ap (λ (n : ℕ). many p n d) z ∙ hys ∙ ap (got ys) b;
        decide = ap (all_by ok) r ∙ g.decide;
      }))

  pub left_reads : (k at : ℕ) → 0 < k → Left k at → Asks₂ (ReadAs p at)
  left_reads k at l g = let x = next k at l g in (x.item, x.behind, x.here)

  pub left_more :
      (k i at e : ℕ) → i + 1 ≡ k → Left k at → Promises₂ (ReadAs p at) (λ (x : A) (d : ℕ). Some e ≡ small_to (ok x) d)
      → Left i e
  left_more k i at e l g h =
      let x = next k at (omega arith) g in
      let (good, here) = upto (ok x.item) x.behind e (h x.item x.behind x.here) in
      let z : i ≡ k - 1 = omega arith in
      record {
        rest = x.others;
        reads = ap₂ (many p) z here ∙ x.reads;
        decide = ap (λ (b : Bool). b && all_by ok x.others) good ∙ x.decide;
      }

  pub left_bad : (k at : ℕ) → 0 < k → Left k at → Promises₂ (ReadAs p at) (λ (x : A) (d : ℕ). None ≡ small_to (ok x) d) → false ≡ all_by ok xs
  left_bad k at l g h =
      let x = next k at l g in
      ap (λ (b : Bool). b && all_by ok x.others) (big (ok x.item) x.behind (h x.item x.behind x.here)) ∙ x.decide

  pub left_ends : (k at : ℕ) → k ≤ 0 → Left k at → (true ≡ all_by ok xs) × (at ≡ end)
  unfolding many
  left_ends (suc k) at z g = absurd (omega arith)
  left_ends zero at z g =
      let r : [] ≡ g.rest = (let q = g.reads in cc) in
      let b : at ≡ end = (let q = g.reads in cc) in
      (ap (all_by ok) r ∙ g.decide, b)

-- ── the tests, with the weights of the variables ──
abbrev pub fact_small : (ℕ → ℕ) → Fact → Bool
fact_small w f = all_by (term_small w) f.terms

-- where a fact has no term of some number
abbrev pub no_term : Term
no_term = leaf variable 0

-- ── a fact at a place ──
-- a rule's term is a term
pub plain_term : (file arities : List ℕ) (at e : ℕ) (t : Term) → rule_term file arities at ≡ got t e → term file arities at ≡ got t e
unfolding rule_term
plain_term file arities at e t q =
    cut_got (term file arities at) _ q (λ u d hu q. cut _ _ _ (ltb (symbols u) rule_symbol_limit) q
    (λ z q. let a : u ≡ t = cc in let b : d ≡ e = cc in hu ∙ ap₂ got a b)
    (λ z q. clash (cc)))

module _ (file arities ars : List ℕ) (bytes : Bytes file) (place : ℕ) (f : Fact) (h : Here (fact file arities ars) f place) where
  pub symbol_inside : value_of (below file (length ars) place) < length ars
  symbol_inside =
      let b = below_inside file (length ars) place bytes f.symbol _ (fact_fields file arities ars place f h).symbol in
      omega (arith, b.small, symbol_law file arities ars place f h)

  pub terms_many : (y : ℕ) → y ≡ value_of (below file (length ars) place) → get_or ars y 0 ≡ length f.terms
  terms_many y e =
      ap (λ (k : ℕ). get_or ars k 0) (e ∙ symbol_law file arities ars place f h) ∙ sym (terms_law file arities ars place f h)

  -- its terms stand from the place of the first on
  pub terms_start :
      (y n at : ℕ) → y ≡ value_of (below file (length ars) place) → n ≡ get_or ars y 0 → at ≡ term_place file arities ars place 0
      → many (rule_term file arities) n at ≡ got f.terms h.next
  unfolding term_place many
  terms_start y n at hy hn ha =
      let x = fact_fields file arities ars place f h in
      let k : n ≡ get_or ars f.symbol 0 = hn ∙ ap (λ (m : ℕ). get_or ars m 0) (hy ∙ symbol_law file arities ars place f h) in
      let b : at ≡ x.behind = ha ∙ ap (λ (o : Read ℕ). place_of (and_then o (λ y e. many (rule_term file arities) 0 e))) x.symbol in
      ap₂ (many (rule_term file arities)) k b ∙ x.terms

  pub term_there :
      (j i : ℕ) → j < length f.terms → i ≡ term_place file arities ars place j
      → (e : ℕ) × (term file arities i ≡ got (get_or f.terms j no_term) e)
  term_there j i l e =
      let x = term_law file arities ars place f h no_term j l in
      (x.next, ap (term file arities) e ∙ plain_term file arities (term_place file arities ars place j) x.next (get_or f.terms j no_term) x.reads)

-- ── a list of facts at a place, and a rule ──
abbrev pub list_small : (ℕ → ℕ) → List Fact → Bool
list_small w fs = all_by (fact_small w) fs

abbrev pub rule_small : (ℕ → ℕ) → Rule → Bool
rule_small w u = all_by (list_small w) u.lists

module _ (file arities ars : List ℕ) (place : ℕ) (fs : List Fact) (h : Here (facts file arities ars) fs place) where
  pub facts_many : value_of (below file fact_limit place) ≡ length fs
  facts_many = count_law file arities ars place fs h

  -- its facts stand from the place of the first on
  pub facts_start :
      (n at : ℕ) → n ≡ value_of (below file fact_limit place) → at ≡ fact_place file arities ars place 0
      → many (fact file arities ars) n at ≡ got fs h.next
  unfolding facts counted fact_place many
  facts_start n at hn ha =
      cut_got (below file fact_limit place) _ h.reads (λ k d hk q.
      let m : n ≡ k = hn ∙ ap value_of hk in
      let b : at ≡ d = ha ∙ ap (λ (o : Read ℕ). place_of (and_then o (λ n e. many (fact file arities ars) 0 e))) hk in
      ap₂ (many (fact file arities ars)) m b ∙ q)

  pub fact_there : (i at : ℕ) → i < length fs → at ≡ fact_place file arities ars place i → Here (fact file arities ars) (get_or fs i no_fact) at
  fact_there i at l e =
      let x = fact_law file arities ars place fs h i l in
      record { next = x.next; reads = ap (fact file arities ars) e ∙ x.reads }

module _ (file arities ars : List ℕ) (place : ℕ) (u : Rule) (h : Here (rule file arities ars) u place) where
  laid : Here (layout file arities ars) u place
  laid = rule_layout file arities ars place u h

  pub lists_many : length u.lists ≡ 3
  lists_many =
      let x = rule_parts file arities ars place u laid in
      many_length (facts file arities ars) 3 x.behind laid.next u.lists x.lists

-- ── with the sizes of the values it is the test of cause 8 ──
all_same : {A : Type 0} (f g : A → Bool) → ((x : A) → f x ≡ g x) → (xs : List A) → all_by f xs ≡ all_by g xs
all_same f g h [] = refl
all_same f g h (x ∷ xs) = ap₂ ◌&&◌ (h x) (all_same f g h xs)

mutual
  weigh_same : (w v : ℕ → ℕ) → ((n : ℕ) → w n ≡ v n) → (t : Term) → weigh w t ≡ weigh v t
  weigh_same w v h (leaf variable n) = h n
  weigh_same w v h (leaf public n) = refl
  weigh_same w v h (leaf fresh n) = refl
  weigh_same w v h (app f ts) = ap suc (weighs_same w v h ts)

  weighs_same : (w v : ℕ → ℕ) → ((n : ℕ) → w n ≡ v n) → (ts : Terms) → weighs w ts ≡ weighs v ts
  weighs_same w v h nil = refl
  weighs_same w v h (t & ts) = ap₂ ◌+◌ (weigh_same w v h t) (weighs_same w v h ts)

pub rule_weighed : (w : ℕ → ℕ) (vs : List Term) → ((n : ℕ) → w n ≡ symbols (value_at vs n)) → (u : Rule) → rule_small w u ≡ rule_ok vs u
rule_weighed w vs h u =
    all_same (list_small w) (all_by (fact_ok vs)) (λ fs. all_same (fact_small w) (fact_ok vs) (λ f. all_same (term_small w) (term_ok vs) one f.terms) fs) u.lists
  where
    one : (t : Term) → term_small w t ≡ term_ok vs t
    one t = ap (λ (n : ℕ). ltb n (suc most_filled_in)) (weigh_same w (λ n. symbols (value_at vs n)) h t ∙ weigh_filled (value_at vs) t)
