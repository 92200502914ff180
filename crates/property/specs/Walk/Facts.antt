-- Facts with their time variables, and atoms, as code has them.
use Rattle.std.specs.Prelude.{ℕ, zero, suc, ◌≤◌, ◌<◌, Bool, true, false, ◌&&◌, ◌≡◌, length, get_or, ltb, Option, Some, None}
use mathlib.Core.List.{List, [], ◌∷◌}
use Rattle.std.proofs.Math.Path.{refl, ap}
use Rattle.std.proofs.Common.{ap₂, sym, ◌∙◌, arith, lt-ltb, le-ltb, eq-eqb, ne_eqb}
use Rattle.std.proofs.Math.Bool.{and-true}
use Rattle.std.proofs.lemmas.Option.{same_Some}
use Rattle.lists.specs.Choice.{pick, by_size, cut_eq, clash}
use Rattle.lists.specs.Lists.{all_by}
use Rattle.lists.specs.All.Laws.{all_inside, same_inside}
use Rattle.number.specs.Reading.{Read, got, fault, and_then, read_number, below, many, seen}
use Rattle.number.specs.Reading.Laws.{then_got, cut_seen, cut_fault}
use Rattle.number.specs.Reading.Many.{many_length}
use Rattle.term.specs.Arity.{undeclared, padded}
use Rattle.protocol.specs.Figures.{symbol_count}
use Rattle.property.specs.Figures.{before_tag, same_time_tag, action_tag}
use Rattle.property.specs.Formula.{Sort, tmp, Term, pattern_of, Atom, equal, action}
use Rattle.property.specs.Fit.{in_scope, term_fits, atom_fits}
use Rattle.property.specs.Layout.{Timed, timed_of, term_at, fact_at, timed_at, equal_at, times_at, times_of, action_at, atom_at}
use Rattle.property.specs.Walk.{Saw, saw, also, Tabled, declared, Placed, placed_of, guard_from, guard_at, guard_of, as_guard, guard_timed}
use Rattle.property.specs.Walk.Chain.{chain_end, chain_fault}
use Rattle.property.specs.declared.facts.Guard.{Guard}

-- ── the table of arities ──
padded_at : (n : ℕ) (l : List ℕ) (i : ℕ) → length l ≤ n → get_or (padded n l) i undeclared ≡ get_or l i undeclared
padded_at zero [] i h = refl
padded_at zero (a ∷ l) i h = absurd (omega arith)
padded_at (suc n) [] zero h = refl
padded_at (suc n) [] (suc i) h = padded_at n [] i (omega arith)
padded_at (suc n) (a ∷ l) zero h = refl
padded_at (suc n) (a ∷ l) (suc i) h = padded_at n l i (omega arith)

get_d_out : (l : List ℕ) (i : ℕ) → length l ≤ i → get_or l i undeclared ≡ undeclared
get_d_out [] i h = refl
get_d_out (a ∷ l) zero h = absurd (omega arith)
get_d_out (a ∷ l) (suc i) h = get_d_out l i (omega arith)

pub arity_out : (l : List ℕ) (i : ℕ) → length l ≤ i → None ≡ declared (get_or l i undeclared)
arity_out l i h = ap declared (sym (get_d_out l i h))

module _ (l : List ℕ) (i : ℕ) {v : ℕ} (e : v ≡ get_or l i 0) (h : i < length l) where
  pub arity_none : v ≡ undeclared → None ≡ declared (get_or l i undeclared)
  arity_none z = ap (λ (b : Bool). pick b None (Some v)) (sym (eq-eqb v undeclared z)) ∙ ap declared (e ∙ same_inside l i 0 undeclared h)

  pub arity_in : (v ≡ undeclared → ⊥) → Some v ≡ declared (get_or l i undeclared)
  arity_in z = ap (λ (b : Bool). pick b None (Some v)) (sym (ne_eqb v undeclared z)) ∙ ap declared (e ∙ same_inside l i 0 undeclared h)

undeclared_is : (a : ℕ) → declared a ≡ None → a ≡ undeclared
undeclared_is a h = cut_eq None (Some a) None a undeclared h (λ z k. z) (λ z k. clash (cc))

declared_is : (a : ℕ) {c : ℕ} → declared a ≡ Some c → (c ≡ a) × (a ≡ undeclared → ⊥)
declared_is a {c} h = cut_eq None (Some a) (Some c) a undeclared h (λ z k. clash (cc)) (λ z k. (same_Some c a (sym k), z))

module _ {table ars : List ℕ} (t : Tabled table ars) (y : ℕ) where
  slot : get_or table y undeclared ≡ get_or ars y undeclared
  slot = ap (λ (l : List ℕ). get_or l y undeclared) t.tabled ∙ padded_at symbol_count ars y t.few

  symbol_out : get_or table y undeclared ≡ undeclared → length ars ≤ y
  symbol_out h =
      by_size y (length ars)
      (λ l. absurd (let s = all_inside (λ a. a < undeclared) undeclared ars t.small y l in omega (arith, s, slot)))
      (λ l. l)

  symbol_in : (get_or table y undeclared ≡ undeclared → ⊥) → (y < length ars) × (get_or table y undeclared ≡ get_or ars y 0)
  symbol_in h =
      by_size y (length ars)
      (λ l. (l, slot ∙ same_inside ars y undeclared 0 l))
      (λ l. absurd (h (slot ∙ get_d_out ars y l)))

-- ── a fact and its time variable ──
abbrev pub some_guard : ℕ → ℕ → ℕ → ℕ → Bool → Option Guard
some_guard p c i e b = Some (guard_of p c i e b)

module _ (scope : List Sort) (terms count : ℕ) (fits : Bool) (r : Read ℕ) where
  pub timed_end : {i e : ℕ} {b : Bool} → got i e ≡ r → b ≡ in_scope scope i tmp → some_guard terms count i e (fits && b) ≡ guard_timed scope terms count fits r
  timed_end {i} {e} h k = ap (λ (b : Bool). some_guard terms count i e (fits && b)) k ∙ ap (guard_timed scope terms count fits) h

  pub timed_none : fault ≡ r → None ≡ guard_timed scope terms count fits r
  timed_none h = ap (guard_timed scope terms count fits) h

-- from behind the terms
module _ (scope : List Sort) (place y count : ℕ) (ts : List Term) (fits : Bool) (long : length ts ≡ count) (fit : all_by (term_fits scope) ts ≡ fits) where
  timed_guard : (r : Read ℕ) → guard_timed scope place count fits r ≡ as_guard scope (and_then r (λ i d. got (placed_of place y ts i) d))
  timed_guard (got i e) = ap₂ (λ (n : ℕ) (b : Bool). some_guard place n i e (b && in_scope scope i tmp)) (sym long) (sym fit)
  timed_guard fault = refl

module _ {table ars : List ℕ} (t : Tabled table ars) (scope : List Sort) (file : List ℕ) (y at : ℕ) where
  abbrev Terms : ℕ → Read (List Term)
  Terms n = many (term_at file) n at

  abbrev rest : Read (List Term) → Read Placed
  rest r = and_then r (λ ts e. and_then (read_number file e) (λ i d. got (placed_of at y ts i) d))

  from_in : (get_or table y undeclared ≡ undeclared → ⊥) → guard_from file ars y at ≡ rest (Terms (get_or table y undeclared))
  from_in h =
      let s = symbol_in t y h in
      ap (λ (b : Bool). pick b (rest (Terms (get_or ars y 0))) fault) (lt-ltb y (length ars) s.0) ∙ ap (λ (n : ℕ). rest (Terms n)) (sym s.1)

  abbrev Slot : ℕ
  Slot = get_or table y undeclared

  pub from_undeclared : declared Slot ≡ None → None ≡ as_guard scope (guard_from file ars y at)
  from_undeclared h =
      ap (λ (b : Bool). as_guard scope (pick b (rest (Terms (get_or ars y 0))) fault))
      (sym (le-ltb y (length ars) (symbol_out t y (undeclared_is Slot h))))

  pub from_end :
      {c e : ℕ} {b : Bool} {g : Option Guard} → declared Slot ≡ Some c → saw e b ≡ seen (all_by (term_fits scope)) (Terms c)
      → g ≡ guard_timed scope at c b (read_number file e) → g ≡ as_guard scope (guard_from file ars y at)
  from_end {c} {e} {b} {g} d k r =
      let s = declared_is Slot d in
      cut_seen (all_by (term_fits scope)) (Terms c) (sym k) (λ ts m q.
      r ∙ timed_guard scope at y c ts b (many_length (term_at file) c at e ts m) q (read_number file e)
      ∙ ap (as_guard scope) (sym (then_got (Terms c) (λ ts e. and_then (read_number file e) (λ i d. got (placed_of at y ts i) d)) m))
      ∙ ap (λ (n : ℕ). as_guard scope (rest (Terms n))) s.0
      ∙ ap (as_guard scope) (sym (from_in s.1)))

  pub from_fault :
      {c : ℕ} → declared Slot ≡ Some c → None ≡ seen (all_by (term_fits scope)) (Terms c) → None ≡ as_guard scope (guard_from file ars y at)
  from_fault {c} d k =
      let s = declared_is Slot d in
      ap (λ (r : Read (List Term)). as_guard scope (rest r)) (sym (cut_fault (all_by (term_fits scope)) (Terms c) (sym k)))
      ∙ ap (λ (n : ℕ). as_guard scope (rest (Terms n))) s.0
      ∙ ap (as_guard scope) (sym (from_in s.1))

module _ (scope : List Sort) (file ars : List ℕ) (at : ℕ) where
  pub guard_got : {y e : ℕ} {g : Option Guard} → got y e ≡ read_number file at → g ≡ as_guard scope (guard_from file ars y e) → g ≡ as_guard scope (guard_at file ars at)
  guard_got h k = k ∙ ap (as_guard scope) (sym (then_got (read_number file at) (λ y e. guard_from file ars y e) (sym h)))

  pub guard_none : fault ≡ read_number file at → None ≡ as_guard scope (guard_at file ars at)
  guard_none h = ap (λ (r : Read ℕ). as_guard scope (and_then r (λ y e. guard_from file ars y e))) h

  -- it is the fact and time of the layout
  pub guard_timed_lem : timed_at file ars at ≡ and_then (guard_at file ars at) (λ g e. got (timed_of (pattern_of g.symbol g.terms) g.time) e)
  unfolding timed_at fact_at below
  guard_timed_lem = symbol (read_number file at)
    where
      last : (y p : ℕ) (ts : List Term) (r : Read ℕ)
          → and_then r (λ i d. got (timed_of (pattern_of y ts) i) d)
          ≡ and_then (and_then r (λ i d. got (placed_of p y ts i) d)) (λ g e. got (timed_of (pattern_of g.symbol g.terms) g.time) e)
      last y p ts (got i d) = refl
      last y p ts fault = refl

      terms : (y p : ℕ) (r : Read (List Term))
          → and_then (and_then r (λ ts d. got (pattern_of y ts) d)) (λ g e. and_then (read_number file e) (λ i d. got (timed_of g i) d))
          ≡ and_then (and_then r (λ ts e. and_then (read_number file e) (λ i d. got (placed_of p y ts i) d)))
          (λ g e. got (timed_of (pattern_of g.symbol g.terms) g.time) e)
      terms y p (got ts e) = last y p ts (read_number file e)
      terms y p fault = refl

      known : (y e : ℕ) (b : Bool)
          → and_then (and_then (pick b (got y e) fault) (λ s e. and_then (many (term_at file) (get_or ars s 0) e) (λ ts d. got (pattern_of s ts) d)))
          (λ g e. and_then (read_number file e) (λ i d. got (timed_of g i) d))
          ≡ and_then (pick b (and_then (many (term_at file) (get_or ars y 0) e) (λ ts d. and_then (read_number file d) (λ i d. got (placed_of e y ts i) d))) fault)
          (λ g e. got (timed_of (pattern_of g.symbol g.terms) g.time) e)
      known y e true = terms y e (many (term_at file) (get_or ars y 0) e)
      known y e false = refl

      symbol : (r : Read ℕ)
          → and_then (and_then (and_then r (λ v e. pick (ltb v (length ars)) (got v e) fault))
          (λ s e. and_then (many (term_at file) (get_or ars s 0) e) (λ ts d. got (pattern_of s ts) d)))
          (λ g e. and_then (read_number file e) (λ i d. got (timed_of g i) d))
          ≡ and_then (and_then r (λ y e. guard_from file ars y e)) (λ g e. got (timed_of (pattern_of g.symbol g.terms) g.time) e)
      symbol (got y e) = known y e (ltb y (length ars))
      symbol fault = refl

  abbrev action_of : Read Placed → Read Atom
  action_of r =
      and_then (and_then r (λ g e. got (timed_of (pattern_of g.symbol g.terms) g.time) e)) (λ g e. got (action g.pattern g.time) e)

  action_as : action_at file ars at ≡ action_of (guard_at file ars at)
  unfolding action_at
  action_as = ap (λ (r : Read Timed). and_then r (λ g e. got (action g.pattern g.time) e)) guard_timed_lem

  pub action_end : {p c i e : ℕ} {b : Bool} → some_guard p c i e b ≡ as_guard scope (guard_at file ars at) → saw e b ≡ seen (atom_fits scope) (action_at file ars at)
  action_end h = go (guard_at file ars at) h ∙ ap (seen (atom_fits scope)) (sym action_as)
    where
      go : {p c i e : ℕ} {b : Bool} (r : Read Placed) → some_guard p c i e b ≡ as_guard scope r → saw e b ≡ seen (atom_fits scope) (action_of r)
      go {e = e} {b = b} (got g d) h = let w = same_Some _ _ h in ap (λ (x : Guard). saw x.end x.fits) w
      go fault h = clash (cc)

  pub action_none : None ≡ as_guard scope (guard_at file ars at) → None ≡ seen (atom_fits scope) (action_at file ars at)
  action_none h = go (guard_at file ars at) h ∙ ap (seen (atom_fits scope)) (sym action_as)
    where
      go : (r : Read Placed) → None ≡ as_guard scope r → None ≡ seen (atom_fits scope) (action_of r)
      go (got g d) h = clash (cc)
      go fault h = refl

  -- ── atoms ──
  -- two terms
  pub equal_two : seen (all_by (term_fits scope)) (many (term_at file) 2 at) ≡ seen (atom_fits scope) (equal_at file at)
  unfolding equal_at many
  equal_two = first (term_at file at)
    where
      second : (t : Term) (r : Read Term)
          → seen (all_by (term_fits scope)) (and_then (and_then r (λ u d. got (u ∷ []) d)) (λ ts d. got (t ∷ ts) d))
          ≡ seen (atom_fits scope) (and_then r (λ u d. got (equal t u) d))
      second t (got u d) = ap (λ (b : Bool). saw d (term_fits scope t && b)) (and-true (term_fits scope u))
      second t fault = refl

      first : (r : Read Term)
          → seen (all_by (term_fits scope)) (and_then r (λ t e. and_then (and_then (term_at file e) (λ u d. got (u ∷ []) d)) (λ ts d. got (t ∷ ts) d)))
          ≡ seen (atom_fits scope) (and_then r (λ t e. and_then (term_at file e) (λ u d. got (equal t u) d)))
      first (got t e) = second t (term_at file e)
      first fault = refl

  abbrev pub time_fits : ℕ → Bool
  time_fits i = in_scope scope i tmp

  times_split : (q : Bool) (i j : ℕ) → atom_fits scope (times_of q i j) ≡ (time_fits i && time_fits j)
  times_split true i j = refl
  times_split false i j = refl

  pub times_end :
      {e : ℕ} {b : Bool} {r : Saw} → saw e b ≡ seen time_fits (read_number file at) → r ≡ seen time_fits (read_number file e) → (q : Bool)
      → also b r ≡ seen (atom_fits scope) (times_at file q at)
  unfolding times_at
  times_end h k q =
      chain_end time_fits (λ i. time_fits) (atom_fits scope) (times_of q) (times_split q) (read_number file at) (λ i. read_number file) h (λ i g. k)

  pub times_none : None ≡ seen time_fits (read_number file at) → (q : Bool) → None ≡ seen (atom_fits scope) (times_at file q at)
  unfolding times_at
  times_none h q =
      chain_fault time_fits (λ i. time_fits) (atom_fits scope) (times_of q) (times_split q) (read_number file at) (λ i. read_number file) h

  -- by the tag
  module _ (tag : ℕ) {r : Saw} where
    pub atom_equal : tag < before_tag → r ≡ seen (atom_fits scope) (equal_at file at) → r ≡ seen (atom_fits scope) (atom_at file ars tag at)
    atom_equal l h =
        h ∙ ap (λ (b : Bool). seen (atom_fits scope) (pick b (equal_at file at) (pick (ltb tag action_tag) (times_at file (ltb tag same_time_tag) at)
        (action_at file ars at))))
        (sym (lt-ltb tag before_tag l))

    pub atom_times :
        before_tag ≤ tag → tag < action_tag → ((q : Bool) → r ≡ seen (atom_fits scope) (times_at file q at))
        → r ≡ seen (atom_fits scope) (atom_at file ars tag at)
    atom_times l k h =
        h (ltb tag same_time_tag)
        ∙ ap₂ (λ (b c : Bool). seen (atom_fits scope) (pick b (equal_at file at) (pick c (times_at file (ltb tag same_time_tag) at) (action_at file ars at))))
        (sym (le-ltb tag before_tag l)) (sym (lt-ltb tag action_tag k))

    pub atom_action : before_tag ≤ tag → action_tag ≤ tag → r ≡ seen (atom_fits scope) (action_at file ars at) → r ≡ seen (atom_fits scope) (atom_at file ars tag at)
    atom_action l k h =
        h ∙ ap₂ (λ (b c : Bool). seen (atom_fits scope) (pick b (equal_at file at) (pick c (times_at file (ltb tag same_time_tag) at) (action_at file ars at))))
        (sym (le-ltb tag before_tag l)) (sym (le-ltb tag action_tag k))
