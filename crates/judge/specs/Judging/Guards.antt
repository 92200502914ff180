-- The guard against an entry: what code compares and binds is the definition's match.
use Rattle.std.specs.Prelude.{ℕ, suc, ◌+◌, ◌-◌, ◌≤◌, ◌<◌, List, [], ◌∷◌, ◌++◌, map, Bool, true, false, ◌&&◌, ◌||◌, ◌≡◌, refl, length, get_or, ltb, leb, eqb}
use Rattle.std.proofs.lemmas.Bool.{false≢true}
use Rattle.std.proofs.Common.{sym, ap, ap₂, ◌∙◌, arith, add-one, length-append, get_or-take, leb-false, eq-eqb, ne_eqb, eqb-true}
use Rattle.std.specs.Prelude.{Some, None}
use Rattle.lists.specs.Choice.{pick, clash}
use Rattle.lists.specs.Tests.{by_bool, and_split, and_false, or_split}
use Rattle.lists.specs.Lists.{any_by, all_by, row}
use Rattle.property.specs.Figures.{most_scope}
use Rattle.property.specs.Formula.{Sort, msg, tmp}
use Rattle.property.specs.Fit.{is_var, in_scope, term_fits, guarded}
use Rattle.property.specs.Meaning.{Value, message, time, time_at, term_under, Entry}
use Rattle.property.specs.Layout.{Timed}
use Rattle.property.specs.Judge.{first, found, matches, same_all}
use Rattle.judge.specs.declared.reading.Coded.{Coded}
use Rattle.property.specs.Judge.Numbers.{numbers}
use Rattle.judge.specs.Tables.{class_at, entry_of}
use Rattle.judge.specs.Bindings.{bound_from, bound, code, value, is_new, put, finish, all_up}
use Rattle.judge.specs.Bindings.Slots.{scope_short, scope_append, scope_one, bound_append, bound_length, bound_same, time_value}
use Rattle.judge.specs.Bindings.Slots.{put_low, put_at, none_new, finish_length, finish_low, finish_first}
use Rattle.judge.specs.Bindings.Tests.{all_same, all_terms, all_fails}
use Rattle.judge.specs.Judging.{Guarded, Fitting, binds_to, meets, Matching}

-- what the new variables are bound to, slot by slot
found_slots :
    (base : ℕ) (g : Timed) (en : Entry ℕ) (c : List ℕ) (s : List Sort) (x : ℕ) → guarded x s g.pattern.terms g.time ≡ true
    → ((y : ℕ) → in_scope s y msg ≡ true → ¬ (x + y ≡ g.time))
    → ((y : ℕ) → x ≤ y → y < x + length s → ¬ (y ≡ g.time) → any_by (is_var y) g.pattern.terms ≡ true
    → get_or c y 0 ≡ first (numbers base) y g.pattern.terms en.fact.messages)
    → (x ≤ g.time → get_or c g.time 0 ≡ en.node) → bound_from x s c ≡ found (numbers base) x s g.pattern en
found_slots base g en c [] x e k h t = refl
found_slots base g en c (msg ∷ s) x e k h t =
    let p = and_split (any_by (is_var x) g.pattern.terms) (guarded (suc x) s g.pattern.terms g.time) e in
    ap₂ (λ v l. message v ∷ l) (h x (omega arith) (omega arith) (λ q. k 0 refl (omega (arith, q))) p.0)
    (found_slots base g en c s (suc x) p.1 (λ y i q. k (suc y) i (omega (arith, q))) (λ y i j. h y (omega arith) (omega arith)) (λ l. t (omega arith)))
found_slots base g en c (tmp ∷ s) x e k h t =
    let p = and_split (eqb x g.time) (guarded (suc x) s g.pattern.terms g.time) e in
    let z : x ≡ g.time = eqb-true x g.time p.0 in
    ap₂ (λ v l. time v ∷ l) (ap (λ (m : ℕ). get_or c m 0) z ∙ t (omega (arith, z)))
    (found_slots base g en c s (suc x) p.1 (λ y i q. k (suc y) i (omega (arith, q))) (λ y i j. h y (omega arith) (omega arith)) (λ l. t (omega arith)))

-- ── what code compares and binds ──
abbrev pub code_at : Coded → ℕ → ℕ
code_at c j = get_or c.codes j 0

module _ (classes : List ℕ) (c : Coded) (e : ℕ) where
  -- each term has the class of the argument, under the values v
  abbrev pub agrees : ℕ → List ℕ → Bool
  agrees base v = all_up (λ j. eqb (value base v (code_at c j)) (class_at classes e j)) c.count

  -- the same of the terms that are no new variables
  abbrev pub known_agree : ℕ → ℕ → List ℕ → Bool
  known_agree base n v = all_up (λ j. is_new n (code_at c j) || eqb (value base v (code_at c j)) (class_at classes e j)) c.count

  -- where all are bound, these are all terms
  pub all_known : (base : ℕ) (v : List ℕ) → known_agree base most_scope v ≡ agrees base v
  all_known base v = all_same _ _ c.count (λ j l. ap (λ (z : Bool). z || eqb (value base v (code_at c j)) (class_at classes e j)) (none_new (code_at c j)))

  -- the entry's arguments are bound, then its node
  abbrev pub taken : ℕ → List ℕ → List ℕ
  taken n b = finish (code_at c) (class_at classes e) n c.count b

  abbrev pub made : ℕ → ℕ → List ℕ → List ℕ
  made node n b = put n c.time (suc node) (taken n b)

module _ (symbols classes : List ℕ) (base : ℕ) (c : Coded) (node e : ℕ) where
  module _ {n : ℕ} (x : Guarded) (ok : Fitting n c x) where
    abbrev all : List Sort
    all = x.scope ++ x.sorts

    abbrev here : Entry ℕ
    here = entry_of x.ars symbols classes node e

    coded : (j : ℕ) → j < length x.guard.pattern.terms → code_at c j ≡ get_or (map code x.guard.pattern.terms) j 0
    coded j l =
        sym (get_or-take c.count c.codes j 0 (omega (arith, ok.carries.counts)))
        ∙ ap (λ (r : List ℕ). get_or r j 0) ok.carries.coded

    terms_fit : all_by (term_fits all) x.guard.pattern.terms ≡ true
    terms_fit = (and_split (all_by (term_fits all) x.guard.pattern.terms) (in_scope all x.guard.time tmp) ok.fits).0

    time_fits : in_scope all x.guard.time tmp ≡ true
    time_fits = (and_split (all_by (term_fits all) x.guard.pattern.terms) (in_scope all x.guard.time tmp) ok.fits).1

    pub time_short : c.time < most_scope
    time_short = omega (arith, ok.carries.times, ok.few, scope_short all x.guard.time tmp time_fits)

    -- ── an entry of another symbol ──
    off : (p q r : Bool) → q ≡ false → (p && (q && r)) ≡ false
    off p q r z = ap (λ (y : Bool). p && (y && r)) z ∙ and_false p

    pub other_misses :
        (v : List (Value ℕ ℕ)) → ¬ (get_or symbols e 0 ≡ c.symbol)
        → matches (numbers base) v x.guard.pattern x.guard.time here ≡ false
    other_misses v d =
        off (eqb (time_at 0 v x.guard.time) (suc node)) (eqb x.guard.pattern.symbol (get_or symbols e 0))
        (same_all (numbers base) (map (term_under (numbers base) v) x.guard.pattern.terms) here.fact.messages)
        (ne_eqb x.guard.pattern.symbol (get_or symbols e 0) (λ q. d (sym q ∙ sym ok.carries.symbols)))

    -- ── an entry of the guard's symbol ──
    module _ (same : get_or symbols e 0 ≡ c.symbol) where
      messages_are : here.fact.messages ≡ row (class_at classes e) (length x.guard.pattern.terms)
      messages_are =
          ap (row (class_at classes e)) (ap (λ (m : ℕ). get_or x.ars m 0) (same ∙ ok.carries.symbols) ∙ sym ok.carries.arity ∙ ok.carries.counts)

      -- under any values, the test is the definition's
      pub match_under :
          (v : List ℕ) → (eqb (get_or v c.time 0) (suc node) && agrees classes c e base v)
          ≡ matches (numbers base) (bound all v) x.guard.pattern x.guard.time here
      match_under v =
          ap₂ ◌&&◌
          (ap (λ (m : ℕ). eqb m (suc node)) (ap (λ (m : ℕ). get_or v m 0) ok.carries.times ∙ time_value all v x.guard.time time_fits))
          (all_same (λ j. eqb (value base v (code_at c j)) (class_at classes e j))
          (λ j. eqb (value base v (get_or (map code x.guard.pattern.terms) j 0)) (class_at classes e j)) c.count
          (λ j l. ap (λ (i : ℕ). eqb (value base v i) (class_at classes e j)) (coded j (omega (arith, ok.carries.counts))))
          ∙ ap (all_up (λ j. eqb (value base v (get_or (map code x.guard.pattern.terms) j 0)) (class_at classes e j))) ok.carries.counts
          ∙ all_terms base all v x.guard.pattern.terms (class_at classes e) ok.few terms_fit
          ∙ ap (same_all (numbers base) (map (term_under (numbers base) (bound all v)) x.guard.pattern.terms)) (sym messages_are)
          ∙ ap (λ (z : Bool). z && same_all (numbers base) (map (term_under (numbers base) (bound all v)) x.guard.pattern.terms) here.fact.messages)
          (sym (eq-eqb x.guard.pattern.symbol (get_or symbols e 0) (sym (same ∙ ok.carries.symbols)))))

      module _ (b : List ℕ) (long : length b ≡ most_scope) where
        low : (y : ℕ) → y < n → get_or (made classes c e node n b) y 0 ≡ get_or b y 0
        low y l =
            put_low n c.time (suc node) (taken classes c e n b) y l ∙ finish_low (code_at c) (class_at classes e) n c.count b y l

        filled : length (taken classes c e n b) ≡ most_scope
        filled = finish_length (code_at c) (class_at classes e) n c.count b ∙ long

        fresh :
            (y : ℕ) → n ≤ y → y < most_scope → ¬ (y ≡ x.guard.time) → any_by (is_var y) x.guard.pattern.terms ≡ true
            → get_or (made classes c e node n b) y 0 ≡ first (numbers base) y x.guard.pattern.terms
            (row (class_at classes e) (length x.guard.pattern.terms))
        fresh y l i d a =
            put_at n c.time (suc node) (taken classes c e n b) y l i (omega (arith, filled))
            ∙ ap (λ (z : Bool). pick z (suc node) (get_or (taken classes c e n b) y 0)) (ne_eqb y c.time (λ q. d (q ∙ ok.carries.times)))
            ∙ ap (λ (k : ℕ). get_or (finish (code_at c) (class_at classes e) n k b) y 0) ok.carries.counts
            ∙ finish_first base x.guard.pattern.terms (code_at c) (class_at classes e) n b y coded l (omega (arith, long)) i a

        stamped : n ≤ x.guard.time → get_or (made classes c e node n b) x.guard.time 0 ≡ suc node
        stamped l =
            ap (λ (m : ℕ). get_or (made classes c e node n b) m 0) (sym ok.carries.times)
            ∙ put_at n c.time (suc node) (taken classes c e n b) c.time (omega (arith, ok.carries.times)) time_short
            (omega (arith, filled, time_short))
            ∙ ap (λ (z : Bool). pick z (suc node) (get_or (taken classes c e n b) c.time 0)) (eq-eqb c.time c.time refl)

        -- what is bound is the definition's
        pub bound_made : bound all (made classes c e node n b) ≡ binds_to base b x here
        bound_made =
            let z : 0 + length x.scope ≡ length x.scope = omega arith in
            bound_append 0 x.scope x.sorts (made classes c e node n b)
            ∙ ap₂ ◌++◌ (bound_same 0 x.scope (made classes c e node n b) b (λ y l. low y (omega (arith, ok.size))))
            (ap (λ (m : ℕ). bound_from m x.sorts (made classes c e node n b)) z
            ∙ found_slots base x.guard here (made classes c e node n b) x.sorts (length x.scope) ok.guards
            (λ y i q. scope_one x.sorts y i (sym (scope_append x.scope x.sorts y tmp) ∙ ap (λ (m : ℕ). in_scope all m tmp) q ∙ time_fits))
            (λ y i j d a. fresh y (omega (arith, ok.size)) (omega (arith, ok.few, length-append x.scope x.sorts)) d a
            ∙ ap (first (numbers base) y x.guard.pattern.terms) (sym messages_are))
            (λ l. stamped (omega (arith, ok.size)))
            ∙ ap (λ (m : ℕ). found (numbers base) m x.sorts x.guard.pattern here) (sym (bound_length 0 x.scope b)))

        pub match_made :
            (eqb (get_or (made classes c e node n b) c.time 0) (suc node) && agrees classes c e base (made classes c e node n b)) ≡ meets base b x here
        match_made = match_under (made classes c e node n b) ∙ ap (λ v. matches (numbers base) v x.guard.pattern x.guard.time here) bound_made

        -- what is known does not change where the new variables are bound
        known_stays : (t : ℕ) → is_new n t ≡ false → value base (made classes c e node n b) t ≡ value base b t
        known_stays t z = go (leb n t) refl z
          where
            go : (y : Bool) → leb n t ≡ y → (y && ltb t most_scope) ≡ false → value base (made classes c e node n b) t ≡ value base b t
            go true h z =
                ap (λ (q : Bool). pick q (get_or (made classes c e node n b) t 0) (base + (t - most_scope))) z
                ∙ sym (ap (λ (q : Bool). pick q (get_or b t 0) (base + (t - most_scope))) z)
            go false h z = ap (λ (v : ℕ). pick (ltb t most_scope) v (base + (t - most_scope))) (low t (leb-false n t h))

        pub known_fails : known_agree classes c e base n b ≡ false → meets base b x here ≡ false
        known_fails h =
            sym match_made
            ∙ ap (λ (z : Bool). eqb (get_or (made classes c e node n b) c.time 0) (suc node) && z)
            (all_fails _ _ c.count (λ j l q. known (code_at c j) (class_at classes e j) (is_new n (code_at c j)) refl q) h)
            ∙ and_false (eqb (get_or (made classes c e node n b) c.time 0) (suc node))
          where
            known :
                (t m : ℕ) (z : Bool) → is_new n t ≡ z → (z || eqb (value base b t) m) ≡ false
                → eqb (value base (made classes c e node n b) t) m ≡ false
            known t m true k q = absurd (false≢true (sym q))
            known t m false k q = ap (λ (v : ℕ). eqb v m) (known_stays t k) ∙ q

        -- a time that is known, and another
        pub time_fails : (t : ℕ) → t ≡ get_or b c.time 0 → (leb n c.time || eqb t (suc node)) ≡ false → meets base b x here ≡ false
        time_fails t q h =
            let p = or_split (leb n c.time) (eqb t (suc node)) h in
            sym match_made
            ∙ ap (λ (z : Bool). z && agrees classes c e base (made classes c e node n b))
            (ap (λ (m : ℕ). eqb m (suc node)) (low c.time (leb-false n c.time p.0) ∙ sym q) ∙ p.1)

-- ── what the returns of the code say ──
module _ (classes : List ℕ) (base : ℕ) (c : Coded) (node e : ℕ) (n : ℕ) (b : List ℕ) (long : length b ≡ most_scope) where
  pub matching_known :
      {t : ℕ} {known : Bool} → (c.time < most_scope → t ≡ get_or b c.time 0) → known ≡ known_agree classes c e base n b
      → ((leb n c.time || eqb t (node + 1)) && known) ≡ false → (symbols : List ℕ) → get_or symbols e 0 ≡ c.symbol → (x : Guarded) → Fitting n c x
      → Matching symbols classes base b node e None x
  matching_known {t} {known} tq k z symbols same x ok =
      record {
        matched = sym (by_bool known
            (λ y. time_fails symbols classes base c node e x ok same b long t (tq (time_short symbols classes base c node e x ok))
            (ap (λ (m : ℕ). leb n c.time || eqb t m) (sym (add-one node)) ∙ last (leb n c.time || eqb t (node + 1)) y z))
            (λ y. known_fails symbols classes base c node e x ok same b long (sym k ∙ y)));
        binds = λ v q. clash (cc);
      }
    where
      last : (a : Bool) {d : Bool} → d ≡ true → (a && d) ≡ false → a ≡ false
      last true y z = absurd (false≢true (sym z ∙ y))
      last false y z = refl

  -- under the values that are bound, all is known
  module _ {t : ℕ} {same : Bool} (d v : List ℕ) (dq : d ≡ taken classes c e n b) (vq : v ≡ put n c.time (node + 1) d)
      (tq : c.time < most_scope → t ≡ get_or v c.time 0) (sq : same ≡ known_agree classes c e base most_scope v)
      (symbols : List ℕ) (sym-is : get_or symbols e 0 ≡ c.symbol) (x : Guarded) (ok : Fitting n c x) where
    abbrev Found : Bool
    Found = eqb t (node + 1) && same

    values_made : v ≡ made classes c e node n b
    values_made = vq ∙ ap₂ (λ (i : ℕ) (l : List ℕ). put n c.time i l) (add-one node) dq

    found_meets : Found ≡ meets base b x (entry_of x.ars symbols classes node e)
    found_meets =
        ap₂ ◌&&◌
        (ap₂ eqb (tq (time_short symbols classes base c node e x ok) ∙ ap (λ (l : List ℕ). get_or l c.time 0) values_made) (add-one node))
        (sq ∙ all_known classes c e base v ∙ ap (agrees classes c e base) values_made)
        ∙ match_made symbols classes base c node e x ok sym-is b long

    pub matching_made : Found ≡ true → Matching symbols classes base b node e (Some v) x
    matching_made z = record {
      matched = sym z ∙ found_meets;
      binds = λ w q.
          let p : v ≡ w = cc in
          ap (bound (x.scope ++ x.sorts)) (sym p ∙ values_made) ∙ bound_made symbols classes base c node e x ok sym-is b long;
    }

    pub matching_missed : Found ≡ false → Matching symbols classes base b node e None x
    matching_missed z = record { matched = sym z ∙ found_meets; binds = λ w q. clash (cc) }
