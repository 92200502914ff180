-- What code answers of a rule's terms, facts and lists: the place behind them, and whether one test holds of one of them.
use Rattle.std.specs.Prelude.{Option, Some, None, ℕ, zero, suc, ◌+◌, ◌∷◌, ◌||◌, ◌≤◌, ◌<◌, List, Bool, true, false, ◌&&◌, not, ◌≡◌, refl, length, get_or, ltb}
use Rattle.std.proofs.Math.Path.{ap, sym}
use Rattle.std.proofs.Math.Bool.{or_assoc, or-false}
use Rattle.std.proofs.Common.{arith, ap₂, ◌∙◌, lt-ltb, le-ltb}
use Rattle.std.proofs.lemmas.Option.{same_Some, some_pair_parts}
use Rattle.protocol.specs.Figures.{most_variables, sort_count, list_count, symbol_kind, fact_limit, variable_limit, rule_symbol_limit}
use Rattle.lists.specs.Choice.{pick, cut_lt, clash}
use Rattle.number.specs.Groups.{number_limit}
use Rattle.number.specs.Reading.{Read, got, fault, and_then, read_number, below, many, counted, seen}
use Rattle.lists.specs.Lists.{any_by}
use Rattle.number.specs.Reading.Laws.{cut_got, then_got, then_fault, then_same_at}
use Rattle.number.specs.Reading.Many.{many_length, counted_got, counted_fault, Came}
use Rattle.term.specs.Term.{Term, symbols}
use Rattle.term.specs.Reader.{term}
use Rattle.term.specs.Walk.{holds, walk, walked}
use Rattle.term.specs.declared.Walk.{Walk}
use Rattle.protocol.specs.Protocol.{Fact, Rule, fact_of, rule_of_lem, leaf_in, declared, rule_term, fact, facts, layout, rule}

-- ── one test by three numbers ──
-- a leaf of the kind with this tag, its number from lo on and below hi, stands in a term
abbrev pub leaf_at : ℕ → ℕ → ℕ → Term → Bool
leaf_at kind lo hi t = holds t kind lo hi

-- the symbol of a fact, from lo on and below hi
abbrev pub symbol_in : ℕ → ℕ → Fact → Bool
symbol_in lo hi f = not (ltb f.symbol lo) && ltb f.symbol hi

-- kinds 0, 1, 2 are leaves in the fact's terms, 3 is its symbol
abbrev pub asks : ℕ → ℕ → ℕ → Fact → Bool
asks kind lo hi f = pick (ltb kind symbol_kind) (leaf_in kind lo hi f) (symbol_in lo hi f)

-- in one of the three lists of a rule
abbrev pub rule_asks : ℕ → ℕ → ℕ → Rule → Bool
rule_asks kind lo hi r = any_by (any_by (asks kind lo hi)) r.lists

-- a number below n
pub below_small : (file : List ℕ) (n at : ℕ) {v e : ℕ} → below file n at ≡ got v e → v < n
unfolding below
below_small file n at {v} {e} h =
    cut_got (read_number file at) _ h (λ w d r g. cut_lt _ _ _ w n g (λ l k. let a : w ≡ v = cc in omega arith) (λ l k. clash (cc)))

-- ── n walks, one behind the other ──
abbrev pub then_walk : Option (ℕ × Bool) → (ℕ → Bool → Option (ℕ × Bool)) → Option (ℕ × Bool)
then_walk (Some (e, b)) k = k e b
then_walk None k = None

-- the place behind them, and whether one of them found what is looked for
unfoldable pub walks_on : (ℕ → Option (ℕ × Bool)) → ℕ → Bool → ℕ → Option (ℕ × Bool)
walks_on step zero found at = Some (at, found)
walks_on step (suc n) found at = then_walk (step at) (λ e b. walks_on step n (found || b) e)

module _ (step : ℕ → Option (ℕ × Bool)) where
  pub walks_end : (n : ℕ) (found : Bool) (at : ℕ) → n ≡ 0 → walks_on step n found at ≡ Some (at, found)
  unfolding walks_on
  walks_end zero found at h = refl
  walks_end (suc n) found at h = absurd (omega arith)

  pub walks_turn :
      (n m : ℕ) (found : Bool) (at e : ℕ) (b : Bool) → n ≡ m + 1 → step at ≡ Some (e, b)
      → walks_on step n found at ≡ walks_on step m (found || b) e
  unfolding walks_on
  walks_turn zero m found at e b h k = absurd (omega arith)
  walks_turn (suc n) m found at e b h k =
      let j : n ≡ m = omega arith in
      ap (λ (o : Option (ℕ × Bool)). then_walk o (λ e b. walks_on step n (found || b) e)) k
      ∙ ap (λ (i : ℕ). walks_on step i (found || b) e) j

  pub walks_stop : (n : ℕ) (found : Bool) (at : ℕ) → 0 < n → step at ≡ None → walks_on step n found at ≡ None
  unfolding walks_on
  walks_stop zero found at h k = absurd (omega arith)
  walks_stop (suc n) found at h k = ap (λ (o : Option (ℕ × Bool)). then_walk o (λ e b. walks_on step n (found || b) e)) k

-- a step that passes over one thing passes over n
module _ {A : Type 0} (q : A → Bool) (p : ℕ → Read A) where
  abbrev or_seen : Bool → Read (List A) → Option (ℕ × Bool)
  or_seen b (got xs e) = Some (e, b || any_by q xs)
  or_seen b fault = None

  or_none : (r : Read (List A)) → or_seen false r ≡ seen (any_by q) r
  or_none (got xs e) = refl
  or_none fault = refl

  or_more : (b : Bool) (x : A) (r : Read (List A)) → or_seen (b || q x) r ≡ or_seen b (and_then r (λ xs f. got (x ∷ xs) f))
  or_more b x (got xs e) = ap (λ (c : Bool). Some (e, c)) (or_assoc b (q x) (any_by q xs))
  or_more b x fault = refl

  or_turn :
      (n : ℕ) (b : Bool) → ((c : Bool) (e : ℕ) → walks_on (λ i. seen q (p i)) n c e ≡ or_seen c (many p n e)) → (r : Read A)
      → then_walk (seen q r) (λ e c. walks_on (λ i. seen q (p i)) n (b || c) e)
      ≡ or_seen b (and_then r (λ x e. and_then (many p n e) (λ xs f. got (x ∷ xs) f)))
  or_turn n b h (got x e) = h (b || q x) e ∙ or_more b x (many p n e)
  or_turn n b h fault = refl

  walks_or : (n : ℕ) (b : Bool) (at : ℕ) → walks_on (λ i. seen q (p i)) n b at ≡ or_seen b (many p n at)
  unfolding walks_on many
  walks_or zero b at = ap (λ (c : Bool). Some (at, c)) (sym (or-false b))
  walks_or (suc n) b at = or_turn n b (λ c e. walks_or n c e) (p at)

  pub walks_seen : (n at : ℕ) → walks_on (λ i. seen q (p i)) n false at ≡ seen (any_by q) (many p n at)
  walks_seen n at = walks_or n false at ∙ or_none (many p n at)

-- ── a term of a rule ──
abbrev cut_walk : Option Walk → Option (ℕ × Bool)
cut_walk (Some w) = pick (ltb w.size rule_symbol_limit) (Some (w.end, w.hit)) None
cut_walk None = None

pick_seen : {A : Type 0} (q : A → Bool) (b : Bool) (x : A) (e : ℕ) → seen q (pick b (got x e) fault) ≡ pick b (Some (e, q x)) None
pick_seen q true x e = refl
pick_seen q false x e = refl

module _ (kind lo hi : ℕ) where
  sized_seen :
      (r : Read Term)
      → seen (leaf_at kind lo hi) (and_then r (λ t e. pick (ltb (symbols t) rule_symbol_limit) (got t e) fault)) ≡ cut_walk (walked kind lo hi r)
  sized_seen (got t e) = pick_seen (leaf_at kind lo hi) (ltb (symbols t) rule_symbol_limit) t e
  sized_seen fault = refl

  module _ (file arities : List ℕ) (at : ℕ) where
    abbrev Term-seen : Option (ℕ × Bool) → Type 0
    Term-seen r = r ≡ seen (leaf_at kind lo hi) (rule_term file arities at)

    pub rule_term_seen : {w : Option Walk} → w ≡ walked kind lo hi (term file arities at) → Term-seen (cut_walk w)
    unfolding rule_term
    rule_term_seen h = ap cut_walk h ∙ sym (sized_seen (term file arities at))

    pub rule_term_end : {e n : ℕ} {b : Bool} → Some (walk e n b) ≡ walked kind lo hi (term file arities at) → n < rule_symbol_limit → Term-seen (Some (e, b))
    rule_term_end {e} {n} {b} h l = simp (lt-ltb n rule_symbol_limit l) at (rule_term_seen h)

    pub rule_term_long : {e n : ℕ} {b : Bool} → Some (walk e n b) ≡ walked kind lo hi (term file arities at) → rule_symbol_limit ≤ n → Term-seen None
    rule_term_long {e} {n} {b} h l = simp (le-ltb n rule_symbol_limit l) at (rule_term_seen h)

-- ── a fact, from behind its symbol ──
unfoldable pub fact_from : List ℕ → List ℕ → List ℕ → ℕ → ℕ → Read Fact
fact_from file arities ars y at = and_then (many (rule_term file arities) (get_or ars y 0) at) (λ ts f. got (fact_of y ts) f)

module _ (kind lo hi y : ℕ) where
  abbrev as_fact : Read (List Term) → Option (ℕ × Bool)
  as_fact r = seen (asks kind lo hi) (and_then r (λ ts f. got (fact_of y ts) f))

  fact_leaves : kind < symbol_kind → (r : Read (List Term)) → as_fact r ≡ seen (any_by (leaf_at kind lo hi)) r
  fact_leaves l (got ts f) = simp (lt-ltb kind symbol_kind l)
  fact_leaves l fault = refl

  fact_symbol :
      symbol_kind ≤ kind → (r : Read (List Term)) {e : ℕ} {b : Bool} → Some (e, b) ≡ seen (any_by (leaf_at kind lo hi)) r
      → as_fact r ≡ Some (e, not (ltb y lo) && ltb y hi)
  fact_symbol l (got ts f) {e} {b} h = let a : e ≡ f = (some_pair_parts e f b (any_by (leaf_at kind lo hi) ts) h).0 in simp (le-ltb kind symbol_kind l, a)
  fact_symbol l fault h = clash (cc)

  fact_none : (r : Read (List Term)) → None ≡ seen (any_by (leaf_at kind lo hi)) r → as_fact r ≡ None
  fact_none (got ts f) h = clash (cc)
  fact_none fault h = refl

  module _ (file arities ars : List ℕ) (at : ℕ) where
    abbrev its_terms : Read (List Term)
    its_terms = many (rule_term file arities) (get_or ars y 0) at

    pub from_leaves :
        kind < symbol_kind → {r : Option (ℕ × Bool)} → r ≡ seen (any_by (leaf_at kind lo hi)) its_terms → r ≡ seen (asks kind lo hi) (fact_from file arities ars y at)
    unfolding fact_from
    from_leaves l h = h ∙ sym (fact_leaves l its_terms)

    pub from_symbol :
        symbol_kind ≤ kind → {e : ℕ} {b : Bool} → Some (e, b) ≡ seen (any_by (leaf_at kind lo hi)) its_terms
        → Some (e, not (ltb y lo) && ltb y hi) ≡ seen (asks kind lo hi) (fact_from file arities ars y at)
    unfolding fact_from
    from_symbol l h = sym (fact_symbol l its_terms h)

    pub from_none : None ≡ seen (any_by (leaf_at kind lo hi)) its_terms → None ≡ seen (asks kind lo hi) (fact_from file arities ars y at)
    unfolding fact_from
    from_none h = sym (fact_none its_terms h)

module _ (file arities ars : List ℕ) (at : ℕ) where
  pub fact_got : {y e : ℕ} → below file (length ars) at ≡ got y e → fact file arities ars at ≡ fact_from file arities ars y e
  unfolding fact fact_from
  fact_got h = then_got (below file (length ars) at) _ h

  pub fact_fault : below file (length ars) at ≡ fault → fact file arities ars at ≡ fault
  unfolding fact
  fact_fault h = then_fault (below file (length ars) at) _ h

  -- ── a count and that many facts ──
  pub facts_got : {n e : ℕ} → below file fact_limit at ≡ got n e → facts file arities ars at ≡ many (fact file arities ars) n e
  unfolding facts
  facts_got {n} {e} h = counted_got file (fact file arities ars) 8 at n e h

  pub facts_fault : below file fact_limit at ≡ fault → facts file arities ars at ≡ fault
  unfolding facts
  facts_fault h = counted_fault file (fact file arities ars) 8 at h

-- ── the sorts of the variables ──
-- the number of variables of the rule at a place, and the place of its premises
unfoldable pub sorts_at : List ℕ → ℕ → Read ℕ
sorts_at file at = and_then (counted file most_variables (below file sort_count) at) (λ vs e. got (length vs) e)

-- the sorts of n variables
unfoldable pub sorts_from : List ℕ → ℕ → ℕ → Read ℕ
sorts_from file n at = and_then (many (below file sort_count) n at) (λ vs e. got n e)

module _ (file : List ℕ) (n at : ℕ) where
  pub sorts_came : {i : ℕ} → Came (below file sort_count) at n i → sorts_from file n at ≡ got n i
  unfolding sorts_from
  sorts_came c = then_got (many (below file sort_count) n at) _ c.there

  pub sorts_stop : many (below file sort_count) n at ≡ fault → sorts_from file n at ≡ fault
  unfolding sorts_from
  sorts_stop h = then_fault (many (below file sort_count) n at) _ h

module _ (file : List ℕ) (at : ℕ) where
  pub sorts_got : {n e : ℕ} → below file variable_limit at ≡ got n e → sorts_at file at ≡ sorts_from file n e
  unfolding sorts_at sorts_from
  sorts_got {n} {e} h =
      ap (λ (r : Read (List ℕ)). and_then r (λ vs e. got (length vs) e)) (counted_got file (below file sort_count) 16 at n e h)
      ∙ then_same_at (many (below file sort_count) n e) _ _ (λ vs f k. ap (λ (m : ℕ). got m f) (many_length (below file sort_count) n e f vs k))

  pub sorts_fault : below file variable_limit at ≡ fault → sorts_at file at ≡ fault
  unfolding sorts_at
  sorts_fault h = ap (λ (r : Read (List ℕ)). and_then r (λ vs e. got (length vs) e)) (counted_fault file (below file sort_count) 16 at h)

-- ── a rule ──
-- only the place behind it
abbrev pub ended : {A : Type 0} → Read A → Option ℕ
ended (got x e) = Some e
ended fault = None

pub cut_ended : {A C : Type 0} {e : ℕ} (r : Read A) → ended r ≡ Some e → ((x : A) → r ≡ got x e → C) → C
cut_ended {e = e} (got x d) h k = k x (ap (got x) (same_Some d e h))
cut_ended fault h k = clash (cc)

pub ended_none : {A : Type 0} (r : Read A) → ended r ≡ None → r ≡ fault
ended_none (got x d) h = clash (cc)
ended_none fault h = refl

-- a fault where the test holds
abbrev pub closed : Option (ℕ × Bool) → Option ℕ
closed (Some (e, b)) = pick b None (Some e)
closed None = None

-- as the code has it
module _ (n : ℕ) (o : Read (List (List Fact))) {w : Option (ℕ × Bool)} (asked : w ≡ seen (any_by (any_by (asks 0 n number_limit))) o) where
  pub parts_closed : closed w ≡ closed (seen (any_by (any_by (asks 0 n number_limit))) o)
  parts_closed = ap closed asked

  pub parts_by : (e : ℕ) (b : Bool) → w ≡ Some (e, b) → pick b None (Some e) ≡ closed (seen (any_by (any_by (asks 0 n number_limit))) o)
  parts_by e b h = ap closed (sym h) ∙ parts_closed

module _ (file arities ars : List ℕ) (at : ℕ) where
  abbrev lists_from : List ℕ → ℕ → Read Rule
  lists_from vs e = and_then (many (facts file arities ars) list_count e) (λ ps f. got (rule_of_lem vs ps) f)

  module _ (kind lo hi : ℕ) where
    parts_seen :
        (vs : List ℕ) (r : Read (List (List Fact)))
        → seen (rule_asks kind lo hi) (and_then r (λ ps f. got (rule_of_lem vs ps) f)) ≡ seen (any_by (any_by (asks kind lo hi))) r
    parts_seen vs (got ps f) = refl
    parts_seen vs fault = refl

    layout_from :
        (r : Read (List ℕ)) {n e : ℕ} → and_then r (λ vs e. got (length vs) e) ≡ got n e
        → seen (rule_asks kind lo hi) (and_then r lists_from) ≡ seen (any_by (any_by (asks kind lo hi))) (many (facts file arities ars) list_count e)
    layout_from (got vs d) {n} {e} h =
        let b : d ≡ e = cc in
        parts_seen vs (many (facts file arities ars) list_count d)
        ∙ ap (λ (i : ℕ). seen (any_by (any_by (asks kind lo hi))) (many (facts file arities ars) list_count i)) b
    layout_from fault h = clash (cc)

    pub layout_got :
        {n e : ℕ} → sorts_at file at ≡ got n e
        → seen (rule_asks kind lo hi) (layout file arities ars at) ≡ seen (any_by (any_by (asks kind lo hi))) (many (facts file arities ars) list_count e)
    unfolding sorts_at layout
    layout_got h = layout_from (counted file most_variables (below file sort_count) at) h

  no_sorts : (r : Read (List ℕ)) → and_then r (λ vs e. got (length vs) e) ≡ fault → r ≡ fault
  no_sorts (got vs d) h = clash (cc)
  no_sorts fault h = refl

  pub layout_fault : sorts_at file at ≡ fault → layout file arities ars at ≡ fault
  unfolding sorts_at layout
  layout_fault h = then_fault (counted file most_variables (below file sort_count) at) _ (no_sorts (counted file most_variables (below file sort_count) at) h)

  -- ── its variables are declared: no leaf of kind 0 from their count on ──
  by_hit : (t : Bool) (x : Rule) (d : ℕ) → ended (pick (not t) (got x d) fault) ≡ pick t None (Some d)
  by_hit true x d = refl
  by_hit false x d = refl

  lists_closed :
      (vs : List ℕ) (o : Read (List (List Fact)))
      → ended (and_then (and_then o (λ ps f. got (rule_of_lem vs ps) f)) (λ x f. pick (declared x) (got x f) fault))
      ≡ closed (seen (any_by (any_by (asks 0 (length vs) number_limit))) o)
  lists_closed vs (got ps f) = by_hit (any_by (any_by (leaf_in 0 (length vs) number_limit)) ps) (rule_of_lem vs ps) f
  lists_closed vs fault = refl

  closed_from :
      (r : Read (List ℕ)) {n e : ℕ} → and_then r (λ vs e. got (length vs) e) ≡ got n e
      → ended (and_then (and_then r lists_from) (λ x f. pick (declared x) (got x f) fault))
      ≡ closed (seen (any_by (any_by (asks 0 n number_limit))) (many (facts file arities ars) list_count e))
  closed_from (got vs c) {n} {e} h =
      let a : length vs ≡ n = cc in
      let k : c ≡ e = cc in
      lists_closed vs (many (facts file arities ars) list_count c)
      ∙ ap₂ (λ (m i : ℕ). closed (seen (any_by (any_by (asks 0 m number_limit))) (many (facts file arities ars) list_count i))) a k
  closed_from fault h = clash (cc)

  pub rule_got :
      {n e : ℕ} → sorts_at file at ≡ got n e
      → ended (rule file arities ars at) ≡ closed (seen (any_by (any_by (asks 0 n number_limit))) (many (facts file arities ars) list_count e))
  unfolding sorts_at rule layout
  rule_got h = closed_from (counted file most_variables (below file sort_count) at) h

  pub rule_fault : layout file arities ars at ≡ fault → rule file arities ars at ≡ fault
  unfolding rule
  rule_fault h = then_fault (layout file arities ars at) _ h
