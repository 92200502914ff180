-- What stands before a quantifier's body, as code has it.
use Rattle.std.specs.Prelude.{ℕ, suc, ◌+◌, ◌≤◌, ◌<◌, Bool, true, false, ◌&&◌, ◌≡◌, leb, eqb, Option, Some, None}
use Rattle.std.specs.Prelude.{List, [], ◌∷◌, ◌++◌, length, get_or, set, map, take, drop}
use Rattle.std.proofs.Math.Path.{refl, ap}
use Rattle.std.proofs.Common.{ap₂, sym, ◌∙◌, subst, arith, add-one, eq-eqb, ne_eqb}
use Rattle.std.proofs.Math.Seq.{drop-cons, take-suc-set, drop-length, take-length, take-append_seam, drop-append_seam}
use Rattle.std.proofs.lemmas.List.{map-append, length-map, take-map, drop-map, length-append, length-take-le, take-append-drop}
use Rattle.std.proofs.lemmas.Option.{same_Some, some_pair_parts}
use Rattle.lists.specs.Choice.{pick, cut_lt, clash}
use Rattle.lists.specs.Tests.{le_leb, gt_leb}
use Rattle.lists.specs.Lists.{any_by}
use Rattle.number.specs.Reading.{Read, got, fault, and_then, read_number, below, many, seen}
use Rattle.number.specs.Reading.Laws.{cut_got, then_got, then_fault}
use Rattle.number.specs.Reading.Many.{many_snoc, many_stop, many_length, counted_got, counted_fault}
use Rattle.property.specs.Figures.{most_new, most_scope}
use Rattle.property.specs.Formula.{Sort, msg, tmp, Term, pattern_of}
use Rattle.property.specs.Fit.{pattern_fits, guarded}
use Rattle.property.specs.Layout.{timed_of, Head, head_of, term_at, sort_at, timed_at, head_at, scoped_at}
use Rattle.property.specs.Walk.{Placed, placed_of, guard_from, guard_at, as_guard, as_sort, as_sorts, in_guard}
use Rattle.property.specs.Walk.{guard_fits, GuardRead, GuardIs, head_from, HeadRead, HeadIs, saw, opened_of}
use Rattle.property.specs.Walk.Facts.{guard_timed_lem}
use Rattle.property.specs.declared.terms.Sort.TheVariants as sort
use Rattle.property.specs.declared.facts.Guard.{Guard}
use Rattle.property.specs.declared.heads.Opened.{Opened}

-- ── one sort ──
module _ (file : List ℕ) (at : ℕ) where
  abbrev sort_by : ℕ → ℕ → Read Sort
  sort_by v e = pick (eqb v 0) (got msg e) (pick (eqb v 3) (got tmp e) fault)

  sort_got : {v e : ℕ} → got v e ≡ read_number file at → sort_by v e ≡ sort_at file at
  unfolding sort_at
  sort_got h = sym (then_got (read_number file at) _ (sym h))

  pub sort_message : {v e : ℕ} → got v e ≡ read_number file at → v ≡ 0 → as_sort (Some (sort.Message, e)) ≡ sort_at file at
  sort_message {v} {e} h z = ap (λ (b : Bool). pick b (got msg e) (pick (eqb v 3) (got tmp e) fault)) (sym (eq-eqb v 0 z)) ∙ sort_got h

  pub sort_time : {v e : ℕ} → got v e ≡ read_number file at → (v ≡ 0 → ⊥) → v ≡ 3 → as_sort (Some (sort.Time, e)) ≡ sort_at file at
  sort_time {v} {e} h z w =
      ap₂ (λ (b c : Bool). pick b (got msg e) (pick c (got tmp e) fault)) (sym (ne_eqb v 0 z)) (sym (eq-eqb v 3 w)) ∙ sort_got h

  pub sort_other : {v e : ℕ} → got v e ≡ read_number file at → (v ≡ 0 → ⊥) → (v ≡ 3 → ⊥) → fault ≡ sort_at file at
  sort_other {v} {e} h z w =
      ap₂ (λ (b c : Bool). pick b (got msg e) (pick c (got tmp e) fault)) (sym (ne_eqb v 0 z)) (sym (ne_eqb v 3 w)) ∙ sort_got h

  pub sort_none : fault ≡ read_number file at → fault ≡ sort_at file at
  unfolding sort_at
  sort_none h = sym (then_fault (read_number file at) _ (sym h))

-- ── the sorts of the new variables: j are read ──
module _ {E : Type 0} (meaning : E → Sort) (file : List ℕ) (at : ℕ) where
  abbrev pub Sorting : List E → ℕ → ℕ → Type 0
  Sorting now j i = many (sort_at file) j at ≡ got (map meaning (take j now)) i

  pub sorting_begins : (now : List E) → Sorting now 0 at
  unfolding many
  sorting_begins now = refl

  pub sorting_next : (now : List E) {j i e : ℕ} (v : E) → j < length now → Sorting now j i → got (meaning v) e ≡ sort_at file i
      → Sorting (set now j v) (j + 1) e
  sorting_next now {j} {i} {e} v l s h =
      rw add-one (many_snoc (sort_at file) j at i e (map meaning (take j now)) (meaning v) s (sym h)
      ∙ ap (λ (l : List Sort). got l e)
      (sym (ap (map meaning) (take-suc-set now j v l) ∙ map-append meaning (take j now) (v ∷ []))))

  pub sorting_ends : (now : List E) {j i : ℕ} → j ≡ length now → Sorting now j i
      → as_sorts (Some i) (map meaning now) ≡ many (sort_at file) (length now) at
  sorting_ends now {j} {i} z s =
      ap (λ (l : List E). got (map meaning l) i) (sym (ap (λ (n : ℕ). take n now) z ∙ take-length now))
      ∙ sym s ∙ ap (λ (n : ℕ). many (sort_at file) n at) z

  pub sorting_stops :
      (now : List E) {j i : ℕ} → j < length now → Sorting now j i → fault ≡ sort_at file i → fault ≡ many (sort_at file) (length now) at
  sorting_stops now {j} {i} l s h = sym (many_stop (sort_at file) j (length now) at i (map meaning (take j now)) s (sym h) l)

-- ── each new variable is in its guard ──
pub among : (q : Term → Bool) (r : Read (List Term)) {e : ℕ} {b : Bool} → saw e b ≡ seen (any_by q) r → (ts : List Term) (d : ℕ) → r ≡ got ts d → b ≡ any_by q
    ts
among q r {e} {b} h ts d g = (some_pair_parts e d b (any_by q ts) (h ∙ ap (seen (any_by q)) g)).1

pub among_none : {b : Bool} (q : Term → Bool) (r : Read (List Term)) → None ≡ seen (any_by q) r → (ts : List Term) (d : ℕ) → r ≡ got ts d → b ≡ any_by q ts
among_none q r h ts d g = let z : None ≡ saw d (any_by q ts) = h ∙ ap (seen (any_by q)) g in clash (cc)

-- those before x are
module _ {E : Type 0} (meaning : E → Sort) (ts : List Term) (i : ℕ) (sorts : List E) where
  abbrev pub rest_guarded : ℕ → Bool
  rest_guarded x = guarded x (map meaning (drop x sorts)) ts i

  guarded_more : (x : ℕ) (t : Sort) (s : List Sort) → guarded x (t ∷ s) ts i ≡ (in_guard t x ts i && guarded (suc x) s ts i)
  guarded_more x msg s = refl
  guarded_more x tmp s = refl

  guarded_at : (x : ℕ) (v : E) → x < length sorts → rest_guarded x ≡ (in_guard (meaning (get_or sorts x v)) x ts i && rest_guarded (suc x))
  guarded_at x v l =
      ap (λ (l : List E). guarded x (map meaning l) ts i) (drop-cons sorts x v l)
      ∙ guarded_more x (meaning (get_or sorts x v)) (map meaning (drop (suc x) sorts))

  pub guarded_next :
      (x : ℕ) (v : E) {b : Bool} → x < length sorts → b ≡ in_guard (meaning (get_or sorts x v)) x ts i → b ≡ true
      → rest_guarded (x + 1) ≡ rest_guarded x
  guarded_next x v l h z = rw add-one (sym (guarded_at x v l ∙ ap (λ (c : Bool). c && rest_guarded (suc x)) (sym h ∙ z)))

  pub guarded_stops :
      (x : ℕ) (v : E) {b : Bool} → x < length sorts → b ≡ in_guard (meaning (get_or sorts x v)) x ts i → b ≡ false
      → false ≡ rest_guarded x
  guarded_stops x v l h z = sym (guarded_at x v l ∙ ap (λ (c : Bool). c && rest_guarded (suc x)) (sym h ∙ z))

  pub guarded_ends : (x : ℕ) → x ≡ length sorts → true ≡ rest_guarded x
  guarded_ends x z = ap (λ (l : List E). guarded x (map meaning l) ts i) (sym (ap (λ (n : ℕ). drop n sorts) z ∙ drop-length sorts))

-- ── the guard ──
module _ (file ars : List ℕ) where
  -- its terms stand at its place
  pub placed_terms : (y at e : ℕ) (g : Placed) → guard_from file ars y at ≡ got g e → (d : ℕ) ×
      (many (term_at file) (length g.terms) g.place ≡ got g.terms d)
  placed_terms y at e g h =
      cut_lt _ _ _ y (length ars) h
      (λ l h. cut_got (many (term_at file) (get_or ars y 0) at) _ h (λ ts d ht h. cut_got (read_number file d) _ h (λ i c hi h.
      let p : placed_of at y ts i ≡ g = cc in
      subst (λ (w : Placed). (d : ℕ) × (many (term_at file) (length w.terms) w.place ≡ got w.terms d)) p
      (d, ap (λ (n : ℕ). many (term_at file) n at) (many_length (term_at file) (get_or ars y 0) at d ts ht) ∙ ht))))
      (λ l h. clash (cc))

  module _ {E : Type 0} (meaning : E → Sort) (at n : ℕ) (sorts : List E) (short : n ≤ length sorts) where
    abbrev pub Wide : List Sort
    Wide = map meaning sorts

    wide_length : length Wide ≡ length sorts
    wide_length = length-map sorts meaning

    bound : length (take n Wide) ≡ n
    bound = length-take-le n Wide (omega (arith, wide_length))

    pub new_end :
        {g : Guard} {w : Bool} {o : Opened} → Some g ≡ as_guard Wide (guard_at file ars at)
        → ((ts : List Term) (d : ℕ) → many (term_at file) g.count g.terms ≡ got ts d → w ≡ guarded n (map meaning (drop n sorts)) ts g.time)
        → o ≡ opened_of (length sorts) g.end (g.fits && w)
        → GuardRead file ars at Wide n o
    new_end {g} {w} {o} h f z = go (guard_at file ars at) refl h
      where
        go : (r : Read Placed) → guard_at file ars at ≡ r → Some g ≡ as_guard Wide r → GuardRead file ars at Wide n o
        go fault q h = clash (cc)
        go (got p d) q h =
            let a = same_Some _ _ h in
            let t = cut_got (read_number file at) (λ y e. guard_from file ars y e) q (λ y u hy hg. placed_terms y u d p hg) in
            let hw : w ≡ guarded n (drop n Wide) p.terms p.time =
            f p.terms t.0 (ap (λ (x : Guard). many (term_at file) x.count x.terms) a ∙ t.1)
            ∙ ap₂ (λ (x : Guard) (s : List Sort). guarded n s p.terms x.time) a (sym (drop-map meaning n sorts)) in
            record {
              guard = timed_of (pattern_of p.symbol p.terms) p.time;
              there = guard_timed_lem Wide file ars at ∙ ap (λ (r : Read Placed). and_then r
                  (λ g e. got (timed_of (pattern_of g.symbol g.terms) g.time) e)) q
                  ∙ ap (got (timed_of (pattern_of p.symbol p.terms) p.time)) (sym (ap (λ (x : Guard). x.end) a) ∙ ap (λ (x : Opened). x.end) (sym z));
              count = ap (λ (x : Opened). x.count) z ∙ sym wide_length;
              right = ap (λ (x : Opened). x.fits) z ∙ ap₂ ◌&&◌
                  (ap (λ (x : Guard). x.fits) a ∙ ap (λ (s : List Sort). pattern_fits s (pattern_of p.symbol p.terms) p.time) (sym (take-append-drop n Wide)))
                  (hw ∙ ap (λ (x : ℕ). guarded x (drop n Wide) p.terms p.time) (sym bound));
            }

    pub new_none : None ≡ as_guard Wide (guard_at file ars at) → timed_at file ars at ≡ fault
    new_none h = guard_timed_lem Wide file ars at ∙ go (guard_at file ars at) h
      where
        go : (r : Read Placed) → None ≡ as_guard Wide r → and_then r (λ g e. got (timed_of (pattern_of g.symbol g.terms) g.time) e) ≡ fault
        go fault h = refl
        go (got g d) h = clash (cc)

  -- ── the sorts and the guard: the new sorts stand behind those in scope ──
  module _
      {E : Type 0} (meaning : E → Sort) (at n : ℕ) (old new mid : List E)
      (short : n ≤ length old) (wide : take (n + length mid) new ≡ take n old ++ mid) where
    abbrev rest : List Sort → ℕ → Read Head
    rest s e = and_then (timed_at file ars e) (λ g d. got (head_of s g) d)

    front : length (take n old) ≡ n
    front = length-take-le n old short

    taken : take n (map meaning (take n old ++ mid)) ≡ take n (map meaning old)
    taken =
        take-map meaning n (take n old ++ mid)
        ∙ ap (map meaning) (ap (λ (x : ℕ). take x (take n old ++ mid)) (sym front) ∙ take-append_seam (take n old) mid)
        ∙ sym (take-map meaning n old)

    dropped : drop n (map meaning (take n old ++ mid)) ≡ map meaning mid
    dropped =
        drop-map meaning n (take n old ++ mid)
        ∙ ap (map meaning) (ap (λ (x : ℕ). drop x (take n old ++ mid)) (sym front) ∙ drop-append_seam (take n old) mid)

    widened : take (n + length mid) (map meaning new) ≡ take n (map meaning old) ++ map meaning mid
    widened =
        take-map meaning (n + length mid) new ∙ ap (map meaning) wide ∙ map-append meaning (take n old) mid
        ∙ ap (λ (s : List Sort). s ++ map meaning mid) (sym (take-map meaning n old))

    abbrev Front : Read (List Sort)
    Front = many (sort_at file) (length mid) at

    sorts_end : {e : ℕ} {o : Opened} → got (map meaning mid) e ≡ Front → GuardRead file ars e (map meaning (take n old ++ mid)) n o
        → HeadRead (head_from file ars (length mid) at) n (map meaning old) (map meaning new) o
    sorts_end {e} {o} s g =
        let c : o.count ≡ n + length mid =
        g.count ∙ length-map (take n old ++ mid) meaning ∙ length-append (take n old) mid ∙ ap (λ (x : ℕ). x + length mid) front in
        record {
          head = head_of (map meaning mid) g.guard;
          there = then_got Front rest (sym s) ∙ then_got (timed_at file ars e) _ g.there;
          count = c ∙ ap (λ (x : ℕ). n + x) (sym (length-map mid meaning));
          scope = ap (λ (x : ℕ). take x (map meaning new)) c ∙ widened;
          right = g.right ∙ ap₂ (λ (x y : List Sort). guard_fits x y g.guard) taken dropped;
        }

    pub sorts_by :
        (r : Option Opened) {e : ℕ} → got (map meaning mid) e ≡ Front → GuardIs file ars e (map meaning (take n old ++ mid)) n r
        → HeadIs (head_from file ars (length mid) at) n (map meaning old) (map meaning new) r
    sorts_by (Some o) s g = sorts_end s g
    sorts_by None s g = then_got Front rest (sym s) ∙ then_fault (timed_at file ars _) _ g

  -- ── with the count, and 16 in scope ──
  from_sorts : (k at e : ℕ) (h : Head) → head_from file ars k at ≡ got h e → length h.sorts ≡ k
  from_sorts k at e h q =
      cut_got (many (sort_at file) k at) _ q (λ s d hs q. cut_got (timed_at file ars d) _ q (λ g c hg q.
      let p : head_of s g ≡ h = cc in
      sym (ap (λ (x : Head). length x.sorts) p) ∙ many_length (sort_at file) k at d s hs))

  module _ (at n : ℕ) where
    abbrev scoped : Read Head → Read Head
    scoped r = and_then r (λ h e. pick (leb (n + length h.sorts) most_scope) (got h e) fault)

    scoped_from : {k e : ℕ} → got k e ≡ below file (most_new + 1) at → scoped_at file ars n at ≡ scoped (head_from file ars k e)
    unfolding scoped_at head_at
    scoped_from {k} {e} h =
        ap (λ (r : Read (List Sort)). scoped (and_then r (λ s e. and_then (timed_at file ars e) (λ g d. got (head_of s g) d))))
        (counted_got file (sort_at file) most_new at k e (sym h))

    scoped_in :
        {k d : ℕ} {o : Opened} {old new : List Sort} → got k d ≡ below file (most_new + 1) at → n + k ≤ most_scope
        → HeadRead (head_from file ars k d) n old new o → HeadRead (scoped_at file ars n at) n old new o
    scoped_in {k} {d} {o} h l r =
        let z : n + length r.head.sorts ≤ most_scope = omega (arith, from_sorts k d o.end r.head r.there) in
        record {
          head = r.head;
          there = scoped_from h ∙ ap scoped r.there
              ∙ ap (λ (b : Bool). pick b (got r.head o.end) fault) (le_leb (n + length r.head.sorts) most_scope z);
          count = r.count;
          scope = r.scope;
          right = r.right;
        }

    scoped_none : {k d : ℕ} → got k d ≡ below file (most_new + 1) at → head_from file ars k d ≡ fault → scoped_at file ars n at ≡ fault
    scoped_none h q = scoped_from h ∙ ap scoped q

    pub scoped_by :
        (r : Option Opened) {k d : ℕ} (old new : List Sort) → got k d ≡ below file (most_new + 1) at → n + k ≤ most_scope
        → HeadIs (head_from file ars k d) n old new r → HeadIs (scoped_at file ars n at) n old new r
    scoped_by (Some o) old new h l q = scoped_in h l q
    scoped_by None old new h l q = scoped_none h q

    pub scoped_stops : {k d : ℕ} → got k d ≡ below file (most_new + 1) at → fault ≡ many (sort_at file) k d → scoped_at file ars n at ≡ fault
    scoped_stops {k} {d} h q = scoped_none h (then_fault (many (sort_at file) k d) _ (sym q))

    pub scoped_many : {k d : ℕ} → got k d ≡ below file (most_new + 1) at → most_scope < n + k → scoped_at file ars n at ≡ fault
    scoped_many {k} {d} h l = scoped_from h ∙ go (head_from file ars k d) refl
      where
        go : (r : Read Head) → head_from file ars k d ≡ r → scoped r ≡ fault
        go fault q = refl
        go (got g e) q =
            let z : most_scope < n + length g.sorts = omega (arith, from_sorts k d e g q) in
            ap (λ (b : Bool). pick b (got g e) fault) (gt_leb (n + length g.sorts) most_scope z)

    pub scoped_fault : fault ≡ below file (most_new + 1) at → scoped_at file ars n at ≡ fault
    unfolding scoped_at head_at
    scoped_fault h =
        ap (λ (r : Read (List Sort)). scoped (and_then r (λ s e. and_then (timed_at file ars e) (λ g d. got (head_of s g) d))))
        (counted_fault file (sort_at file) most_new at (sym h))
