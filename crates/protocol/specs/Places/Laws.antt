-- What stands at the places, by the rule that was read.
use Prim.Native.Nat.{ℕ, zero, suc, ◌+◌, ◌<◌}
use mathlib.Core.List.{List, [], ◌∷◌, ◌++◌}
use Rattle.std.specs.Prelude.{◌≡◌, refl, length}
use Rattle.std.proofs.Math.Path.{ap, ap₂, sym}
use Rattle.std.proofs.Common.{◌∙◌}
use native.Mathlib.Omega.{arith}
use Rattle.std.proofs.Math.ListN.{get_or}
use Rattle.protocol.specs.Figures.{most_variables, sort_count, list_count, fact_limit, variable_limit}
use Rattle.lists.specs.Choice.{cut, clash}
use Rattle.number.specs.Reading.{Read, got, and_then, below, many, counted}
use Rattle.number.specs.Reading.Laws.{cut_got, then_got}
use Rattle.number.specs.Reading.Many.{many_snoc, many_nth, many_length}
use Rattle.term.specs.Term.{Term}
use Rattle.protocol.specs.Protocol.{Fact, Rule, rule_of_lem, fact_of, list_of, no_fact, declared, rule_term, fact, facts, layout, rule}
use Rattle.protocol.specs.Protocol.Walks.{sorts_at}
use Rattle.protocol.specs.Places.{place_of, value_of, Here, sort_of, list_place, fact_place, term_place}

-- one of n things: it stands at the place behind those before it
module _ {A : Type 0} (p : ℕ → Read A) (d : A) where
  nth_is : (xs front back : List A) (x : A) (i : ℕ) → xs ≡ front ++ (x ∷ back) → length front ≡ i → get_or xs i d ≡ x
  nth_is xs [] back x zero h k = ap (λ (l : List A). get_or l 0 d) h
  nth_is xs [] back x (suc i) h k = absurd (omega arith)
  nth_is xs (y ∷ front) back x zero h k = absurd (omega arith)
  nth_is xs (y ∷ front) back x (suc i) h k =
      ap (λ (l : List A). get_or l (suc i) d) h ∙ nth_is (front ++ (x ∷ back)) front back x i refl (omega arith)

  pub nth_here : (n at e i : ℕ) (xs : List A) → many p n at ≡ got xs e → i < n → Here p (get_or xs i d) (place_of (many p i at))
  nth_here n at e i xs h l =
      let r = many_nth p n at e i xs h l in
      record {
        next = r.next;
        reads =
            ap p (ap place_of r.before) ∙ r.here
            ∙ ap (λ (x : A). got x r.next) (sym (nth_is xs r.front r.back r.item i r.whole r.number));
      }

  -- the one behind it stands at the end of its reading; behind the last is the end of all
  pub nth_next : (n at e i : ℕ) (xs : List A) → many p n at ≡ got xs e → i < n → place_of (many p (i + 1) at) ≡ place_of (p (place_of (many p i at)))
  nth_next n at e i xs h l =
      let r = many_nth p n at e i xs h l in
      let more : i + 1 ≡ suc i = omega arith in
      ap (λ (k : ℕ). place_of (many p k at)) more
      ∙ ap place_of (many_snoc p i at r.place r.next r.front r.item r.before r.here)
      ∙ sym (ap place_of (ap p (ap place_of r.before) ∙ r.here))

module _ (file arities ars : List ℕ) where
  -- a rule that stands there has that layout
  pub rule_layout : (at : ℕ) (r : Rule) → Here (rule file arities ars) r at → Here (layout file arities ars) r at
  unfolding rule
  rule_layout at r h =
      cut_got (layout file arities ars at) _ h.reads (λ x d there g. cut _ _ _ (declared x) g
      (λ t g. let a : x ≡ r = cc in record { next = d; reads = there ∙ ap (λ (y : Rule). got y d) a })
      (λ t g. clash (cc)))

  -- ── what stands in a rule ──
  module _ (at : ℕ) (r : Rule) (stands : Here (layout file arities ars) r at) where
    pub record Parts : Type 0 where
      pub behind : ℕ
      pub sorts : counted file most_variables (below file sort_count) at ≡ got r.sorts behind
      pub lists : many (facts file arities ars) list_count behind ≡ got r.lists stands.next

    pub rule_parts : Parts
    unfolding layout
    rule_parts =
        cut_got (counted file most_variables (below file sort_count) at) _ stands.reads
        (λ vs d hv h. cut_got (many (facts file arities ars) list_count d) _ h (λ ps f hp h.
        let o : rule_of_lem vs ps ≡ r = cc in
        let a : f ≡ stands.next = cc in
        record {
          behind = d;
          sorts = hv ∙ ap (λ (o : Rule). got o.sorts d) o;
          lists = hp ∙ ap₂ got (ap (λ (o : Rule). o.lists) o) a;
        }))

    sorts_are : sorts_at file at ≡ got (length r.sorts) rule_parts.behind
    unfolding sorts_at
    sorts_are = then_got (counted file most_variables (below file sort_count) at) _ rule_parts.sorts

    -- how many variables it has
    pub vars_law : value_of (sorts_at file at) ≡ length r.sorts
    vars_law = ap value_of sorts_are

    pub variables_law : value_of (below file variable_limit at) ≡ length r.sorts
    unfolding counted
    variables_law =
        cut_got (below file variable_limit at) _ rule_parts.sorts (λ n c hn hm.
        ap value_of hn ∙ sym (many_length (below file sort_count) n c rule_parts.behind r.sorts hm))

    -- the sort of variable v
    pub sort_law : (v : ℕ) → v < length r.sorts → value_of (sort_of file at v) ≡ get_or r.sorts v 0
    unfolding sort_of counted
    sort_law v l =
        cut_got (below file variable_limit at) _ rule_parts.sorts (λ n c hn hm.
        let len = many_length (below file sort_count) n c rule_parts.behind r.sorts hm in
        let b : v < n = omega arith in
        let z = nth_here (below file sort_count) 0 n c rule_parts.behind v r.sorts hm b in
        let y = many_nth (below file sort_count) n c rule_parts.behind v r.sorts hm b in
        ap value_of
        (then_got (below file variable_limit at) _ hn ∙ then_got (many (below file sort_count) v c) _ y.before
        ∙ ap (below file sort_count) (sym (ap place_of y.before)) ∙ z.reads))

    -- a list stands at its place
    pub list_law : (list : ℕ) → list < list_count → Here (facts file arities ars) (list_of list r) (list_place file arities ars at list)
    unfolding list_place
    list_law list l =
        let h = nth_here (facts file arities ars) [] 3 rule_parts.behind stands.next list r.lists rule_parts.lists l in
        record {
          next = h.next;
          reads = ap (λ (o : Read ℕ). facts file arities ars (place_of (and_then o (λ n e. many (facts file arities ars) list e)))) sorts_are ∙ h.reads;
        }

    -- the next list stands behind it
    pub list_next :
        (list : ℕ) → list + 1 < list_count
        → list_place file arities ars at (list + 1) ≡ place_of (facts file arities ars (list_place file arities ars at list))
    unfolding list_place
    list_next list l =
        let next : (k : ℕ) → Read ℕ → Read (List (List Fact)) = λ k o. and_then o (λ n e. many (facts file arities ars) k e) in
        ap (λ (o : Read ℕ). place_of (next (list + 1) o)) sorts_are
        ∙ nth_next (facts file arities ars) [] 3 rule_parts.behind stands.next list r.lists rule_parts.lists (omega arith)
        ∙ sym (ap (λ (o : Read ℕ). place_of (facts file arities ars (place_of (next list o)))) sorts_are)

  -- ── what stands in a list ──
  module _ (at : ℕ) (fs : List Fact) (stands : Here (facts file arities ars) fs at) where
    -- how many facts it has
    pub count_law : value_of (below file fact_limit at) ≡ length fs
    unfolding facts counted
    count_law = cut_got (below file fact_limit at) _ stands.reads (λ n d hn hm. ap value_of hn ∙ sym
        (many_length (fact file arities ars) n d stands.next fs hm))

    -- fact i stands at its place
    pub fact_law : (i : ℕ) → i < length fs → Here (fact file arities ars) (get_or fs i no_fact) (fact_place file arities ars at i)
    unfolding facts counted fact_place
    fact_law i l =
        cut_got (below file fact_limit at) _ stands.reads (λ n d hn hm.
        let len = many_length (fact file arities ars) n d stands.next fs hm in
        let b : i < n = omega arith in
        let z = nth_here (fact file arities ars) no_fact n d stands.next i fs hm b in
        record {
          next = z.next;
          reads = ap (λ (o : Read ℕ). fact file arities ars (place_of (and_then o (λ n e. many (fact file arities ars) i e)))) hn ∙ z.reads;
        })

    -- the next fact stands behind it
    pub fact_next : (i : ℕ) → i < length fs → fact_place file arities ars at (i + 1) ≡ place_of (fact file arities ars (fact_place file arities ars at i))
    unfolding facts counted fact_place
    fact_next i l =
        cut_got (below file fact_limit at) _ stands.reads (λ n d hn hm.
        let len = many_length (fact file arities ars) n d stands.next fs hm in
        let next : (k : ℕ) → Read ℕ → Read (List Fact) = λ k o. and_then o (λ n e. many (fact file arities ars) k e) in
        ap (λ (o : Read ℕ). place_of (next (i + 1) o)) hn
        ∙ nth_next (fact file arities ars) no_fact n d stands.next i fs hm (omega arith)
        ∙ sym (ap (λ (o : Read ℕ). place_of (fact file arities ars (place_of (next i o)))) hn))

    -- behind the last fact the list ends
    pub facts_end : fact_place file arities ars at (length fs) ≡ place_of (facts file arities ars at)
    unfolding facts counted fact_place
    facts_end =
        cut_got (below file fact_limit at) _ stands.reads (λ n d hn hm.
        let len = many_length (fact file arities ars) n d stands.next fs hm in
        let next : (k : ℕ) → Read ℕ → Read (List Fact) = λ k o. and_then o (λ n e. many (fact file arities ars) k e) in
        ap (λ (o : Read ℕ). place_of (next (length fs) o)) hn
        ∙ ap (λ (k : ℕ). place_of (many (fact file arities ars) k d)) len
        ∙ ap place_of hm ∙ sym (ap place_of stands.reads))

  -- ── what stands in a fact ──
  module _ (at : ℕ) (f : Fact) (stands : Here (fact file arities ars) f at) where
    pub record Fields : Type 0 where
      pub behind : ℕ
      pub symbol : below file (length ars) at ≡ got f.symbol behind
      pub terms : many (rule_term file arities) (get_or ars f.symbol 0) behind ≡ got f.terms stands.next

    pub fact_fields : Fields
    unfolding fact
    fact_fields =
        cut_got (below file (length ars) at) _ stands.reads (λ y d hy h. cut_got (many (rule_term file arities) (get_or ars y 0) d) _ h (λ ts c ht h.
        let o : fact_of y ts ≡ f = cc in
        let a : c ≡ stands.next = cc in
        let k : y ≡ f.symbol = ap (λ (o : Fact). o.symbol) o in
        record {
          behind = d;
          symbol = hy ∙ ap (λ (m : ℕ). got m d) k;
          terms = ap (λ (m : ℕ). many (rule_term file arities) (get_or ars m 0) d) (sym k) ∙ ht ∙ ap₂ got (ap (λ (o : Fact). o.terms) o) a;
        }))

    -- its symbol
    pub symbol_law : value_of (below file (length ars) at) ≡ f.symbol
    symbol_law = ap value_of fact_fields.symbol

    -- it has as many terms as its symbol's arity
    pub terms_law : length f.terms ≡ get_or ars f.symbol 0
    terms_law = many_length (rule_term file arities) (get_or ars f.symbol 0) fact_fields.behind stands.next f.terms fact_fields.terms

    -- term j stands at its place
    pub term_law : (t : Term) (j : ℕ) → j < length f.terms → Here (rule_term file arities) (get_or f.terms j t) (term_place file arities ars at j)
    unfolding term_place
    term_law t j l =
        let b : j < get_or ars f.symbol 0 = omega (arith, terms_law) in
        let z = nth_here (rule_term file arities) t (get_or ars f.symbol 0) fact_fields.behind stands.next j f.terms fact_fields.terms b in
        record {
          next = z.next;
          reads = ap (λ (o : Read ℕ). rule_term file arities (place_of (and_then o (λ y e. many (rule_term file arities) j e)))) fact_fields.symbol ∙ z.reads;
        }
