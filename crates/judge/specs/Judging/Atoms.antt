-- An atom by its tag: the place behind it, and its truth.
use Rattle.std.specs.Prelude.{ℕ, ◌≤◌, ◌<◌, Bool, true, false, not, ◌&&◌, ◌||◌, ◌≡◌, refl, ltb}
use mathlib.Core.List.{List, [], ◌++◌, append-nil}
use Rattle.std.proofs.Math.Bool.{or-false}
use Rattle.std.proofs.Common.{sym, ◌∙◌, arith, lt-ltb, le-ltb}
use Rattle.std.proofs.Math.Path.{ap, ap₂}
use Rattle.std.proofs.Math.ListN.{length, get_or}
use Rattle.std.proofs.Math.Dec.{eqb}
use Rattle.lists.specs.Choice.{pick}
use Rattle.lists.specs.Tests.{and_split}
use Rattle.number.specs.Reading.{Read, read_number}
use Rattle.number.specs.Reading.Laws.{cut_got}
use Rattle.property.specs.Figures.{before_tag, same_time_tag, action_tag, most_scope}
use Rattle.property.specs.Formula.{Sort, tmp, Atom, equal, action}
use Rattle.property.specs.Fit.{in_scope, term_fits, pattern_fits, atom_fits}
use Rattle.property.specs.Meaning.{Trace}
use Rattle.property.specs.Layout.{Timed, term_at, timed_at, equal_at, times_at, times_of, action_at, atom_at}
use Rattle.property.specs.Judge.{test}
use Rattle.property.specs.Judge.Numbers.{numbers}
use Rattle.judge.specs.declared.reading.Num.{Num}
use Rattle.judge.specs.declared.reading.Coded.{Coded}
use Rattle.judge.specs.Bindings.{bound, value}
use Rattle.judge.specs.Bindings.Slots.{scope_short, time_value, term_value}
use Rattle.judge.specs.Reading.{NumberIs, TermIs, FactIs, AtomEnds}
use Rattle.judge.specs.Judging.{Stated, AtomIs, Guarded, Fitting, AtomSaid, Occurs, traced}

-- ── the reader of each tag ──
module _ (file ars : List ℕ) where
  atom_equal : (tag at : ℕ) → tag < before_tag → atom_at file ars tag at ≡ equal_at file at
  atom_equal tag at l =
      ap (λ (z : Bool). pick z (equal_at file at) (pick (ltb tag action_tag) (times_at file (ltb tag same_time_tag) at) (action_at file ars at)))
      (lt-ltb tag before_tag l)

  atom_times : (tag at : ℕ) → before_tag ≤ tag → tag < action_tag → atom_at file ars tag at ≡ times_at file (ltb tag same_time_tag) at
  atom_times tag at l m =
      ap₂ (λ (y z : Bool). pick y (equal_at file at) (pick z (times_at file (ltb tag same_time_tag) at) (action_at file ars at)))
      (le-ltb tag before_tag l) (lt-ltb tag action_tag m)

  atom_action : (tag at : ℕ) → action_tag ≤ tag → atom_at file ars tag at ≡ action_at file ars at
  atom_action tag at m =
      ap₂ (λ (y z : Bool). pick y (equal_at file at) (pick z (times_at file (ltb tag same_time_tag) at) (action_at file ars at)))
      (le-ltb tag before_tag (omega arith)) (le-ltb tag action_tag m)

-- ── the place behind it ──
module _ (file table : List ℕ) {tag at : ℕ} where
  pub ends_equal : {t u : Num} → tag < before_tag → TermIs file at t → TermIs file t.next u → AtomEnds file table tag at u.next
  unfolding equal_at
  ends_equal l a b = record {
    ends = λ ars _ x e h. cut_got (term_at file at) _ (sym (atom_equal file ars tag at l) ∙ h) (λ p d hp h. cut_got (term_at file d) _ h (λ q c hq h.
        let z : c ≡ e = cc in
        (b.says q c (ap (term_at file) (a.says p d hp).1 ∙ hq)).1 ∙ z));
  }

  pub ends_times :
      {i j : Num} → before_tag ≤ tag → tag < action_tag → NumberIs file at i → NumberIs file i.next j
      → AtomEnds file table tag at j.next
  unfolding times_at
  ends_times l m a b = record {
    ends = λ ars _ x e h. cut_got (read_number file at) _ (sym (atom_times file ars tag at l m) ∙ h) (λ p d hp h. cut_got (read_number file d) _ h (λ q c hq h.
        let z : c ≡ e = cc in
        (b.says q c (ap (read_number file) (a.says p d hp).1 ∙ hq)).1 ∙ z));
  }

  pub ends_action : {g : Coded} → action_tag ≤ tag → FactIs file table at g → AtomEnds file table tag at g.next
  unfolding action_at
  ends_action l a = record {
    ends = λ ars k x e h. cut_got (timed_at file ars at) _ (sym (atom_action file ars tag at l) ∙ h) (λ g d hg h.
        let z : d ≡ e = cc in
        (a.says ars k g d hg).1 ∙ z);
  }

-- ── its truth ──
-- of two times, as the code has it: earlier where the order is asked, the same where not
abbrev pub times_test : Bool → ℕ → ℕ → Bool
times_test order x y = (order && ltb x y) || (not order && eqb x y)

module _ (file table : List ℕ) (tr : List ℕ → Trace ℕ) (base n : ℕ) (b : List ℕ) (at : ℕ) where
  pub said_equal :
      {t u : Num} {x y : ℕ} → TermIs file at t → TermIs file t.next u → x ≡ value base b t.value → y ≡ value base b u.value
      → (s : Stated) → AtomIs table (λ ars. equal_at file at) n s → AtomSaid tr base b (record { truth = eqb x y; next = u.next }) s
  unfolding equal_at
  said_equal l r xq yq s a =
      cut_got (term_at file at) _ a.reads (λ p d hp h. cut_got (term_at file d) _ h (λ q c hq h.
      let z : c ≡ s.end = cc in
      let w : equal p q ≡ s.atom = cc in
      let i = l.says p d hp in
      let j = r.says q c (ap (term_at file) i.1 ∙ hq) in
      let ok = and_split (term_fits s.scope p) (term_fits s.scope q) (ap (atom_fits s.scope) w ∙ a.fits) in
      record {
        truth = ap₂ eqb
            (xq ∙ ap (value base b) i.0 ∙ term_value base s.scope b p (omega (arith, a.size, a.few)) ok.0)
            (yq ∙ ap (value base b) j.0 ∙ term_value base s.scope b q (omega (arith, a.size, a.few)) ok.1)
            ∙ ap (test (numbers base) (tr s.ars) (bound s.scope b)) w;
        next = j.1 ∙ z;
      }))

  times_test_lem :
      (order : Bool) (s : Stated) (i j : ℕ) → atom_fits s.scope (times_of order i j) ≡ true
      → times_test order (get_or b i 0) (get_or b j 0) ≡ test (numbers base) (tr s.ars) (bound s.scope b) (times_of order i j)
  times_test_lem true s i j e =
      let ok = and_split (in_scope s.scope i tmp) (in_scope s.scope j tmp) e in
      or-false (ltb (get_or b i 0) (get_or b j 0)) ∙ ap₂ ltb (time_value s.scope b i ok.0) (time_value s.scope b j ok.1)
  times_test_lem false s i j e =
      let ok = and_split (in_scope s.scope i tmp) (in_scope s.scope j tmp) e in
      ap₂ eqb (time_value s.scope b i ok.0) (time_value s.scope b j ok.1)

  times_short :
      (order : Bool) (s : Stated) (i j : ℕ) → atom_fits s.scope (times_of order i j) ≡ true → (i < length s.scope) × (j < length s.scope)
  times_short order s i j e = let ok = and_split (in_scope s.scope i tmp) (in_scope s.scope j tmp) (go order e) in
      (scope_short s.scope i tmp ok.0, scope_short s.scope j tmp ok.1)
    where
      go : (q : Bool) → atom_fits s.scope (times_of q i j) ≡ true → (in_scope s.scope i tmp && in_scope s.scope j tmp) ≡ true
      go true e = e
      go false e = e

  pub said_times :
      {i j : Num} {x y : ℕ} (order : Bool) → NumberIs file at i → NumberIs file i.next j
      → (i.value < most_scope → x ≡ get_or b i.value 0) → (j.value < most_scope → y ≡ get_or b j.value 0)
      → (s : Stated) → AtomIs table (λ ars. times_at file order at) n s
      → AtomSaid tr base b (record { truth = times_test order x y; next = j.next }) s
  unfolding times_at
  said_times order l r xq yq s a =
      cut_got (read_number file at) _ a.reads (λ p d hp h. cut_got (read_number file d) _ h (λ q c hq h.
      let z : c ≡ s.end = cc in
      let w : times_of order p q ≡ s.atom = cc in
      let i = l.says p d hp in
      let j = r.says q c (ap (read_number file) i.1 ∙ hq) in
      let ok = ap (atom_fits s.scope) w ∙ a.fits in
      let short = times_short order s p q ok in
      record {
        truth = ap₂ (times_test order)
            (xq (omega (arith, i.0, short.0, a.size, a.few)) ∙ ap (λ (m : ℕ). get_or b m 0) i.0)
            (yq (omega (arith, j.0, short.1, a.size, a.few)) ∙ ap (λ (m : ℕ). get_or b m 0) j.0)
            ∙ times_test_lem order s p q ok
            ∙ ap (test (numbers base) (tr s.ars) (bound s.scope b)) w;
        next = j.1 ∙ z;
      }))

-- the guard that a fact with its time is, with no new variable
abbrev plain : List ℕ → List Sort → Timed → Guarded
plain ars scope g = record { ars = ars; scope = scope; sorts = []; guard = g }

module _ (file table starts symbols classes : List ℕ) (base n : ℕ) (b : List ℕ) (at : ℕ) where
  pub said_action :
      {c : Coded} {found : Bool} → FactIs file table at c → ((x : Guarded) → Fitting n c x → Occurs starts symbols classes base b found x)
      → (s : Stated) → AtomIs table (λ ars. action_at file ars at) n s
      → AtomSaid (traced starts symbols classes) base b (record { truth = found; next = c.next }) s
  unfolding action_at
  said_action {c} l o s a =
      cut_got (timed_at file s.ars at) _ a.reads (λ g d hg h.
      let z : d ≡ s.end = cc in
      let w : action g.pattern g.time ≡ s.atom = cc in
      let v = l.says s.ars a.arities g d hg in
      let nil : s.scope ++ [] ≡ s.scope = append-nil s.scope in
      let f : Fitting n c (plain s.ars s.scope g) = record {
        size = a.size;
        few = omega (arith, ap length nil, a.size, a.few);
        carries = v.0;
        fits = ap (λ (y : List Sort). pattern_fits y g.pattern g.time) nil ∙ ap (atom_fits s.scope) w ∙ a.fits;
        guards = refl;
      } in
      record {
        truth = (o (plain s.ars s.scope g) f).found
            ∙ ap (λ (y : List Sort). test (numbers base) (traced starts symbols classes s.ars) (bound y b) (action g.pattern g.time)) nil
            ∙ ap (test (numbers base) (traced starts symbols classes s.ars) (bound s.scope b)) w;
        next = v.1 ∙ z;
      })

-- of each tag its own reader
module _ (file table : List ℕ) (tag at n : ℕ) where
  as_read :
      (f : List ℕ → Read Atom) → ((ars : List ℕ) → atom_at file ars tag at ≡ f ars) → (s : Stated)
      → AtomIs table (λ ars. atom_at file ars tag at) n s → AtomIs table f n s
  as_read f same s a =
      record { arities = a.arities; reads = sym (same s.ars) ∙ a.reads; size = a.size; few = a.few; fits = a.fits }

  pub as_equal : tag < before_tag → (s : Stated) → AtomIs table (λ ars. atom_at file ars tag at) n s → AtomIs table (λ ars. equal_at file at) n s
  as_equal l = as_read (λ ars. equal_at file at) (λ ars. atom_equal file ars tag at l)

  pub as_times :
      before_tag ≤ tag → tag < action_tag → (s : Stated) → AtomIs table (λ ars. atom_at file ars tag at) n s
      → AtomIs table (λ ars. times_at file (ltb tag same_time_tag) at) n s
  as_times l m = as_read (λ ars. times_at file (ltb tag same_time_tag) at) (λ ars. atom_times file ars tag at l m)

  pub as_action : action_tag ≤ tag → (s : Stated) → AtomIs table (λ ars. atom_at file ars tag at) n s → AtomIs table (λ ars. action_at file ars at) n s
  as_action l = as_read (λ ars. action_at file ars at) (λ ars. atom_action file ars tag at l)
