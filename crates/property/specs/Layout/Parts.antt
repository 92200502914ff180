-- The parts of a formula are read exactly: terms, sorts, facts, what stands before a quantifier's body, atoms.
use Prim.Native.Nat.{ℕ, zero, suc, ◌+◌, ◌≤◌, ◌<◌}
use mathlib.Core.List.{List, [], ◌∷◌, ◌++◌, append_assoc}
use Rattle.std.specs.Prelude.{Bool, ◌≡◌, drop, eqb}
use Rattle.std.proofs.Math.Bool.{true, false}
use Rattle.std.proofs.Math.Path.{refl, ap, sym, subst, subst₂}
use Rattle.std.proofs.Common.{◌∙◌, length-append, lt-ltb, le-ltb}
use native.Mathlib.Omega.{arith}
use Rattle.std.proofs.Math.ListN.{length, get_or}
use Rattle.std.proofs.Math.Dec.{leb}
use Rattle.lists.specs.Choice.{pick, cut_lt, cut_eq, clash, by_size}
use Rattle.lists.specs.Tests.{leb_le, le_leb}
use Rattle.lists.specs.All.{All}
use Rattle.octets.specs.Head.{Bytes, Stands, stands_join, behind}
use Rattle.number.specs.Groups.{groups, number_limit}
use Rattle.number.specs.Reading.{Read, got, and_then, read_number, below, many, counted}
use Rattle.number.specs.Reading.Laws.{cut_got, then_got}
use Rattle.number.specs.Reading.Numbers.{read_back, read_form}
use Rattle.number.specs.Layout.{flat, listed, Exact}
use Rattle.number.specs.Layout.Laws.{number_exact, exact_as, below_exact, test_exact, many_exact, counted_exact, then_exact}
use Rattle.property.specs.Figures.{most_new, most_scope, term_tags}
use Rattle.property.specs.Formula.{Sort, msg, tmp, Term, var, public, Pattern, pattern_of, Atom, equal, action}
use Rattle.property.specs.Formula.Limits.{TermBelow, PatternBelow, AtomBelow, HeadBelow}
use Rattle.property.specs.Layout.{Timed, timed_of, Head, head_of, encode_term, encode_sort, encode_pattern}
use Rattle.property.specs.Layout.{encode_timed, encode_head, atom_tag, encode_atom, term_of, term_at, sort_at, equal_at, times_at, times_of}
use Rattle.property.specs.Layout.{fact_at, timed_at, head_at, action_at, atom_at, scoped_at}

-- ── for crate number ──
-- a number that a file can hold
abbrev pub Number : ℕ → Type 0
Number v = v < number_limit

-- one thing after another, and what is made of the two
module _ {A B C : Type 0} (file : List ℕ) (p : ℕ → Read A) (Good : A → Type 0) (code : A → List ℕ) (exact : Exact file p Good code)
    (q : A → ℕ → Read B) (Then : A → B → Type 0) (codes : B → List ℕ) (exacts : (x : A) → Exact file (q x) (Then x) codes)
    (make : A → B → C) where
  pub record Made (z : C) (at e : ℕ) : Type 0 where
    pub one : A
    pub two : B
    pub made : make one two ≡ z
    pub first : Good one
    pub second : Then one two
    pub stands : Stands file at (code one ++ codes two) e

  pub made_back :
      (x : A) (y : B) (at : ℕ) (rest : List ℕ) → Good x → Then x y → drop at file ≡ (code x ++ codes y) ++ rest
      → and_then (p at) (λ x e. and_then (q x e) (λ y f. got (make x y) f)) ≡ got (make x y) (at + length (code x ++ codes y))
  made_back x y at rest g t there =
      let e : drop at file ≡ code x ++ (codes y ++ rest) = there ∙ append_assoc (code x) (codes y) rest in
      let len : at + length (code x) + length (codes y) ≡ at + length (code x ++ codes y) = omega (arith, length-append (code x) (codes y)) in
      then_got (p at) _ (exact.back x at _ g e)
      ∙ then_got (q x (at + length (code x))) _ ((exacts x).back y (at + length (code x)) rest t (behind file at (code x) (codes y ++ rest) e))
      ∙ ap (got (make x y)) len

  pub made_form : (z : C) (at e : ℕ) → and_then (p at) (λ x e. and_then (q x e) (λ y f. got (make x y) f)) ≡ got z e → Made z at e
  made_form z at e h =
      cut_got (p at) _ h (λ x d hx h. cut_got (q x d) _ h (λ y c hy h.
      let a : make x y ≡ z = cc in
      let b : c ≡ e = cc in
      let f = exact.form x at d hx in
      let g = (exacts x).form y d c hy in
      record {
        one = x;
        two = y;
        made = a;
        first = f.0;
        second = g.0;
        stands = subst (Stands file at (code x ++ codes y)) b (stands_join f.1 g.1);
      }))

-- ── the parts of a formula ──
abbrev pub TimedWithin : List ℕ → Timed → Type 0
TimedWithin ars g = PatternBelow number_limit ars g.pattern × Number g.time

abbrev pub Scoped : List ℕ → ℕ → Head → Type 0
Scoped ars n h = HeadBelow number_limit ars n h.sorts h.guard.pattern h.guard.time

-- an atom behind a tag: its bytes, and its tag or the next one
pub record AtomForm (file ars : List ℕ) (tag at : ℕ) (a : Atom) (e : ℕ) : Type 0 where
  pub within : AtomBelow number_limit ars a
  pub stands : Stands file at (encode_atom a) e
  pub low : atom_tag a ≤ tag
  pub high : tag ≤ suc (atom_tag a)

pub small_limit : 256 < number_limit
unfolding number_limit
small_limit = omega arith

term_bytes : (t n : ℕ) → t < term_tags → encode_term (term_of t n) ≡ groups t ++ groups n
term_bytes zero n h = refl
term_bytes (suc zero) n h = refl
term_bytes (suc (suc t)) n h = absurd (omega arith)

term_range : (b : Bool) (n : ℕ) → n < number_limit → TermBelow number_limit (pick b (var n) (public n))
term_range true n h = h
term_range false n h = h

module _ (file : List ℕ) (bytes : Bytes file) where
  abbrev Tag : ℕ → Type 0
  Tag t = (t < term_tags) × Number t

  term_back :
      (t : Term) (at : ℕ) (rest : List ℕ) → TermBelow number_limit t → drop at file ≡ encode_term t ++ rest → term_at file at ≡ got t (at + length (encode_term t))
  unfolding term_at
  term_back (var x) at rest w there =
      made_back file (below file term_tags) Tag groups (below_exact file bytes term_tags) (λ t. read_number file) (λ t. Number) groups
      (λ t. number_exact file bytes) term_of 0 x at rest (omega arith, omega (arith, small_limit)) w there
  term_back (public n) at rest w there =
      made_back file (below file term_tags) Tag groups (below_exact file bytes term_tags) (λ t. read_number file) (λ t. Number) groups
      (λ t. number_exact file bytes) term_of 1 n at rest (omega arith, omega (arith, small_limit)) w there

  pub term_exact : Exact file (term_at file) (TermBelow number_limit) encode_term
  unfolding term_at
  term_exact = record {
    back = term_back;
    form = λ t at e h.
        let m = made_form file (below file term_tags) Tag groups (below_exact file bytes term_tags) (λ t. read_number file) (λ t. Number) groups
        (λ t. number_exact file bytes) term_of t at e h in
        subst (λ (u : Term). TermBelow number_limit u × Stands file at (encode_term u) e) m.made (
          term_range (eqb m.one 0) m.two m.second,
          subst (λ (l : List ℕ). Stands file at l e) (sym (term_bytes m.one m.two m.first.0)) m.stands,
        );
  }

  sort_back : (s : Sort) (at : ℕ) (rest : List ℕ) → drop at file ≡ encode_sort s ++ rest → sort_at file at ≡ got s (at + length (encode_sort s))
  unfolding sort_at
  sort_back msg at rest there = then_got (read_number file at) _ (read_back file at 0 rest (omega (arith, small_limit)) there)
  sort_back tmp at rest there = then_got (read_number file at) _ (read_back file at 3 rest (omega (arith, small_limit)) there)

  pub sort_exact : Exact file (sort_at file) (λ s. Unit {0}) encode_sort
  unfolding sort_at
  sort_exact = record {
    back = λ s at rest w there. sort_back s at rest there;
    form = λ s at e h. cut_got (read_number file at) _ h (λ v d hv h.
        let f = read_form file bytes at v d hv in
        cut_eq _ _ _ v 0 h
        (λ z h. (tt, stands v d 0 msg s e z (cc) (cc) refl f.1))
        (λ _ h. cut_eq _ _ _ v 3 h
        (λ z h. (tt, stands v d 3 tmp s e z (cc) (cc) refl f.1))
        (λ _ h. clash (cc))));
  }
    where
      stands :
          {at : ℕ} (v d w : ℕ) (t s : Sort) (e : ℕ) → v ≡ w → t ≡ s → d ≡ e → encode_sort t ≡ groups w → Stands file at (groups v) d
          → Stands file at (encode_sort s) e
      stands {at} v d w t s e a b c g h =
          subst₂ (λ (l : List ℕ) (k : ℕ). Stands file at l k) (ap groups a ∙ sym g ∙ ap encode_sort b) c h

  pub equal_back :
      (t u : Term) (at : ℕ) (rest : List ℕ) → TermBelow number_limit t × TermBelow number_limit u → drop at file ≡ encode_atom (equal t u) ++ rest
      → equal_at file at ≡ got (equal t u) (at + length (encode_atom (equal t u)))
  unfolding equal_at
  equal_back t u at rest w there =
      made_back file (term_at file) (TermBelow number_limit) encode_term term_exact (λ t. term_at file) (λ t. TermBelow number_limit) encode_term (λ t. term_exact)
      equal t u at rest w.0 w.1 there

  pub times_back :
      (q : Bool) (i j at : ℕ) (rest : List ℕ) → Number i × Number j → drop at file ≡ (groups i ++ groups j) ++ rest
      → times_at file q at ≡ got (times_of q i j) (at + length (groups i ++ groups j))
  unfolding times_at
  times_back q i j at rest w there =
      made_back file (read_number file) Number groups (number_exact file bytes) (λ i. read_number file) (λ i. Number) groups
      (λ i. number_exact file bytes) (times_of q) i j at rest w.0 w.1 there

  module _ (ars : List ℕ) (few : length ars ≤ 256) where
    pub fact_exact : Exact file (fact_at file ars) (PatternBelow number_limit ars) encode_pattern
    unfolding fact_at
    fact_exact =
        exact_as file (fact_at file ars) _ (PatternBelow number_limit ars) encode_pattern
        (then_exact file (below file (length ars)) (λ y. (y < length ars) × Number y) groups (below_exact file bytes (length ars))
        (λ y. many (term_at file) (get_or ars y 0)) (λ y ts. (length ts ≡ get_or ars y 0) × All (TermBelow number_limit) ts) (flat encode_term)
        (λ y g. many_exact file (term_at file) (TermBelow number_limit) encode_term term_exact (get_or ars y 0))
        pattern_of (λ g. g.symbol) (λ g. g.terms) (λ g. refl) (λ y ts. refl) (λ y ts. refl))
        (λ g w. ((w.known, omega (arith, w.known, small_limit)), (w.takes, w.each)))
        (λ g w. record { known = w.0.0; takes = w.1.0; each = w.1.1 })

    pub timed_exact : Exact file (timed_at file ars) (TimedWithin ars) encode_timed
    unfolding timed_at
    timed_exact =
        then_exact file (fact_at file ars) (PatternBelow number_limit ars) encode_pattern fact_exact (λ g. read_number file) (λ g. Number) groups
        (λ g w. number_exact file bytes) timed_of (λ g. g.pattern) (λ g. g.time) (λ g. refl) (λ g i. refl) (λ g i. refl)

    sorts_exact : Exact file (counted file most_new (sort_at file)) (λ s. (length s ≤ most_new) × All (λ t. Unit {0}) s) (listed encode_sort)
    sorts_exact = counted_exact file (sort_at file) (λ s. Unit {0}) encode_sort sort_exact bytes most_new (omega (arith, small_limit))

    head_exact : Exact file (head_at file ars) (λ h. ((length h.sorts ≤ most_new) × All (λ t. Unit {0}) h.sorts) × TimedWithin ars h.guard) encode_head
    unfolding head_at
    head_exact =
        then_exact file (counted file most_new (sort_at file)) (λ s. (length s ≤ most_new) × All (λ t. Unit {0}) s) (listed encode_sort) sorts_exact
        (λ s. timed_at file ars) (λ s. TimedWithin ars) encode_timed (λ s w. timed_exact) head_of (λ h. h.sorts) (λ h. h.guard)
        (λ h. refl) (λ s g. refl) (λ s g. refl)

    every_sort : (s : List Sort) → All (λ t. Unit {0}) s
    every_sort [] = tt
    every_sort (t ∷ s) = (tt, every_sort s)

    pub scoped_exact : (n : ℕ) → Exact file (scoped_at file ars n) (Scoped ars n) encode_head
    unfolding scoped_at
    scoped_exact n =
        exact_as file (scoped_at file ars n) _ (Scoped ars n) encode_head
        (test_exact file (head_at file ars) _ encode_head head_exact (λ h. leb (n + length h.sorts) most_scope))
        (λ h w. (((w.few, every_sort h.sorts), (w.guard, w.time)), le_leb (n + length h.sorts) most_scope w.room))
        (λ h w. record { few = w.0.0.0; room = leb_le (n + length h.sorts) most_scope w.1; guard = w.0.1.0; time = w.0.1.1 })

    -- ── atoms ──
    pub action_back :
        (g : Pattern) (i at : ℕ) (rest : List ℕ) → PatternBelow number_limit ars g × Number i → drop at file ≡ encode_timed (timed_of g i) ++ rest
        → action_at file ars at ≡ got (action g i) (at + length (encode_timed (timed_of g i)))
    unfolding action_at
    action_back g i at rest w there = then_got (timed_at file ars at) _ (timed_exact.back (timed_of g i) at rest w there)

    equal_form : (tag at : ℕ) (a : Atom) (e : ℕ) → equal_at file at ≡ got a e → 1 ≤ tag → tag < 3 → AtomForm file ars tag at a e
    unfolding equal_at
    equal_form tag at a e h l k =
        let m = made_form file (term_at file) (TermBelow number_limit) encode_term term_exact (λ t. term_at file) (λ t. TermBelow number_limit) encode_term
        (λ t. term_exact)
        equal a at e h in
        subst (λ (a : Atom). AtomForm file ars tag at a e) m.made
        (record { within = (m.first, m.second); stands = m.stands; low = omega arith; high = omega arith })

    times_form :
        (q : Bool) (tag at : ℕ) (a : Atom) (e : ℕ) → times_at file q at ≡ got a e → atom_tag (times_of q 0 0) ≤ tag
        → tag ≤ suc (atom_tag (times_of q 0 0)) → AtomForm file ars tag at a e
    unfolding times_at
    times_form q tag at a e h l k =
        let m = made_form file (read_number file) Number groups (number_exact file bytes) (λ i. read_number file) (λ i. Number) groups
        (λ i. number_exact file bytes) (times_of q) a at e h in
        subst (λ (a : Atom). AtomForm file ars tag at a e) m.made (go q m.one m.two m.first m.second m.stands l k)
      where
        go :
            (q : Bool) (i j : ℕ) → Number i → Number j → Stands file at (groups i ++ groups j) e → atom_tag (times_of q 0 0) ≤ tag
            → tag ≤ suc (atom_tag (times_of q 0 0)) → AtomForm file ars tag at (times_of q i j) e
        go true i j f g s l k = record { within = (f, g); stands = s; low = l; high = k }
        go false i j f g s l k = record { within = (f, g); stands = s; low = l; high = k }

    action_form : (tag at : ℕ) (a : Atom) (e : ℕ) → action_at file ars at ≡ got a e → 7 ≤ tag → tag < 9 → AtomForm file ars tag at a e
    unfolding action_at
    action_form tag at a e h l k =
        cut_got (timed_at file ars at) _ h (λ g d hg h.
        let b : action g.pattern g.time ≡ a = cc in
        let c : d ≡ e = cc in
        let f = timed_exact.form g at d hg in
        subst₂ (AtomForm file ars tag at) b c (record { within = f.0; stands = f.1; low = omega arith; high = omega arith }))

    pub atom_form : (tag at : ℕ) (a : Atom) (e : ℕ) → atom_at file ars tag at ≡ got a e → 1 ≤ tag → tag < 9 → AtomForm file ars tag at a e
    atom_form tag at a e h l k =
        cut_lt _ _ _ tag 3 h
        (λ u h. equal_form tag at a e h l u)
        (λ u h. cut_lt _ _ _ tag 7 h
        (λ v h. by_size tag 5
        (λ w. times_form true tag at a e (ap (λ (q : Bool). times_at file q at) (sym (lt-ltb tag 5 w)) ∙ h) (omega arith) (omega arith))
        (λ w. times_form false tag at a e (ap (λ (q : Bool). times_at file q at) (sym (le-ltb tag 5 w)) ∙ h) (omega arith) (omega arith)))
        (λ v h. action_form tag at a e h v k))
