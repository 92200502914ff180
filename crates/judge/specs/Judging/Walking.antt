-- The walk over the entries: what a loop has found up to an entry of the symbol, and the rest, are the whole.
use Rattle.std.specs.Prelude.{ℕ, ◌+◌, ◌≤◌, ◌<◌, List, ◌++◌, Bool, true, false, ◌&&◌, ◌||◌, ◌≡◌, get_or, eqb, Option, Some, None}
use Rattle.std.specs.Option.{is_some}
use Rattle.std.proofs.Common.{sym, ap, ap₂, ◌∙◌, subst, subst₂, arith, add-one}
use Rattle.lists.specs.Choice.{clash}
use Rattle.lists.specs.Lists.{any_by}
use Rattle.property.specs.Figures.{most_scope}
use Rattle.property.specs.Formula.{Formula}
use Rattle.property.specs.Meaning.{Entry}
use Rattle.property.specs.Layout.{head_of, quantified}
use Rattle.property.specs.Judge.{judge, matches, entries_from}
use Rattle.property.specs.Judge.Numbers.{numbers}
use Rattle.judge.specs.declared.reading.Coded.{Coded}
use Rattle.judge.specs.declared.reading.Guard.{Guard}
use Rattle.judge.specs.declared.judging.Judged.{Judged}
use Rattle.judge.specs.Tables.{entry_of, rest, total, Shape, Past, Of}
use Rattle.judge.specs.Tables.Entries.{rest_begins, rest_at, rest_ends, rest_skip}
use Rattle.judge.specs.Bindings.{bound}
use Rattle.judge.specs.Folding.{join, join_assoc, join_unit, join_begin, over, over_any, over_all, over_miss, over_hit}
use Rattle.judge.specs.Judging.{Written, written_of, Fits, Guarded, Fitting, Bodied, binds_to, meets, Matching, Occurs, Says, Walked, traced, truth_of}
use Rattle.judge.specs.Judging.Guards.{known_agree, all_known, time_short, other_misses, match_under}

-- ── what a loop has at entry e ──
module _ (starts symbols classes : List ℕ) where
  -- a node that is not behind it
  pub record Standing (node e : ℕ) : Type 0 where
    pub within : e ≤ total starts
    pub past : Past starts node e

  module _ (base : ℕ) where
    -- whether the fact of an action has occurred
    abbrev hits : List ℕ → Guarded → Entry ℕ → Bool
    hits b x en = matches (numbers base) (bound (x.scope ++ x.sorts) b) x.guard.pattern x.guard.time en

    abbrev left : List ℕ → Guarded → ℕ → Bool
    left b x e = any_by (hits b x) (rest x.ars symbols classes starts e)

    -- not so far
    pub record Occurring (c : Coded) (b : List ℕ) (node e : ℕ) : Type 0 where
      pub stands : Standing node e
      pub so_far : (n : ℕ) (x : Guarded) → Fitting n c x → left b x e ≡ any_by (hits b x) (entries_from 1 (traced starts symbols classes x.ars))

    -- the truth of a quantifier so far
    abbrev meet : List ℕ → Guarded → Entry ℕ → Bool
    meet b x en = meets base b x en

    abbrev pass : List ℕ → Guarded → Formula → Entry ℕ → Bool
    pass b x φ en = judge (numbers base) (traced starts symbols classes x.ars) (binds_to base b x en) φ

    abbrev onward : Bool → List ℕ → Guarded → Formula → ℕ → Bool
    onward every b x φ e = over (meet b x) every (pass b x φ) (rest x.ars symbols classes starts e)

    abbrev wanted : Bool → List ℕ → Guarded → Formula → Bool
    wanted every b x φ = truth_of starts symbols classes base x.ars x.scope b (quantified every (head_of x.sorts x.guard) φ)

    -- and the place behind the body, once it was judged
    pub record Walking (file table : List ℕ) (h : Guard) (n : ℕ) (b : List ℕ) (truth : Bool) (next : Option ℕ) (node e : ℕ) : Type 0 where
      pub stands : Standing node e
      pub so_far :
          (x : Guarded) (φ : Formula) (k : ℕ) → Bodied file table h n x φ k
          → join h.every truth (onward h.every b x φ e) ≡ wanted h.every b x φ
      pub ended : (i : ℕ) → next ≡ Some i → (x : Guarded) (φ : Formula) (k : ℕ) → Bodied file table h n x φ k → i ≡ k

-- the same at equal values
module _ {starts symbols classes : List ℕ} {base : ℕ} {file table : List ℕ} {h : Guard} {n : ℕ} {b : List ℕ} {e : ℕ} where
  pub walks :
      {t u : Bool} {i j : Option ℕ} {x y : ℕ} → t ≡ u → i ≡ j → x ≡ y → Walking starts symbols classes base file table h n b t i x e
      → Walking starts symbols classes base file table h n b u j y e
  walks {t} {u} {i} {j} {x} {y} p q r w =
      subst (λ (z : Bool). Walking starts symbols classes base file table h n b z j y e) p
      (subst₂ (λ (k : Option ℕ) (m : ℕ). Walking starts symbols classes base file table h n b t k m e) q r w)

-- ── step by step ──
module _ {starts symbols classes : List ℕ} (shape : Shape starts symbols classes) where
  abbrev At : ℕ → ℕ → Type 0
  At node e = Standing starts symbols classes node e

  standing_begins : At 0 0
  standing_begins = record { within = omega arith; past = record { inside = shape.some; begun = omega (arith, shape.first) } }

  standing_next : {node e : ℕ} → e < total starts → Of starts node e → At node (e + 1)
  standing_next l o = record { within = omega arith; past = record { inside = omega (arith, o.inside); begun = omega (arith, o.begun) } }

  -- past an entry of another symbol
  standing_skip : {node e : ℕ} → e < total starts → At node e → At node (e + 1)
  standing_skip l s = record { within = omega arith; past = record { inside = s.past.inside; begun = omega (arith, s.past.begun) } }

  module _ (base : ℕ) (c : Coded) (b : List ℕ) where
    abbrev any : Guarded → List (Entry ℕ) → Bool
    any x = any_by (hits starts symbols classes base b x)

    abbrev Found : ℕ → ℕ → Type 0
    Found node e = Occurring starts symbols classes base c b node e

    pub occurring_begins : Found 0 0
    occurring_begins = record { stands = standing_begins; so_far = λ n x ok. ap (any x) (sym (rest_begins x.ars shape)) }

    pub occurring_skip : {node e : ℕ} → e < total starts → ¬ (get_or symbols e 0 ≡ c.symbol) → Found node e → Found node (e + 1)
    occurring_skip {node} {e} l d w =
        record {
          stands = standing_skip l w.stands;
          so_far = λ n x ok.
              sym (rest_skip x.ars shape (any x) e l (λ node es. ap (λ (z : Bool). z || any x es)
              (other_misses symbols classes base c node e x ok (bound (x.scope ++ x.sorts) b) d)))
              ∙ w.so_far n x ok;
        }

    -- the entry is of the symbol: what code compared is whether it hits
    module _ {same : Bool} {node' node e t : ℕ} (l : e < total starts) (here : get_or symbols e 0 ≡ c.symbol) (w : Found node' e)
        (o : Of starts node e) (tq : c.time < most_scope → t ≡ get_or b c.time 0) (sq : same ≡ known_agree classes c e base most_scope b) where
      hit_is : {n : ℕ} (x : Guarded) → Fitting n c x
          → (eqb t (node + 1) && same) ≡ hits starts symbols classes base b x (entry_of x.ars symbols classes node e)
      hit_is x ok =
          ap₂ ◌&&◌ (ap₂ eqb (tq (time_short symbols classes base c node e x ok)) (add-one node)) (sq ∙ all_known classes c e base b)
          ∙ match_under symbols classes base c node e x ok here b

      left_is : {n : ℕ} (x : Guarded) → Fitting n c x
          → ((eqb t (node + 1) && same) || left starts symbols classes base b x (e + 1))
          ≡ any_by (hits starts symbols classes base b x) (entries_from 1 (traced starts symbols classes x.ars))
      left_is {n} x ok =
          ap (λ (z : Bool). z || left starts symbols classes base b x (e + 1)) (hit_is x ok)
          ∙ sym (ap (any x) (rest_at x.ars shape o))
          ∙ w.so_far n x ok

      pub occurring_next : (eqb t (node + 1) && same) ≡ false → Found node (e + 1)
      occurring_next z = record {
        stands = standing_next l o;
        so_far = λ n x ok. ap (λ (y : Bool). y || left starts symbols classes base b x (e + 1)) (sym z) ∙ left_is x ok;
      }

      pub occurring_hit : {n : ℕ} → (eqb t (node + 1) && same) ≡ true → (x : Guarded) → Fitting n c x → Occurs starts symbols classes base b true x
      occurring_hit z x ok = record { found = ap (λ (y : Bool). y || left starts symbols classes base b x (e + 1)) (sym z) ∙ left_is x ok }

    pub occurring_ends : {node e n : ℕ} → ¬ (e < total starts) → Found node e → (x : Guarded) → Fitting n c x → Occurs starts symbols classes base b false x
    occurring_ends {node} {e} {n} l w x ok =
        record { found = ap (any x) (sym (rest_ends x.ars shape (omega (arith, w.stands.within)))) ∙ w.so_far n x ok }

  module _ (base : ℕ) (file table : List ℕ) (h : Guard) (n : ℕ) (b : List ℕ) where
    abbrev fold : Guarded → Formula → List (Entry ℕ) → Bool
    fold x φ = over (meet starts symbols classes base b x) h.every (pass starts symbols classes base b x φ)

    abbrev ahead : Guarded → Formula → ℕ → Bool
    ahead x φ e = onward starts symbols classes base h.every b x φ e

    abbrev Walks : Bool → Option ℕ → ℕ → ℕ → Type 0
    Walks truth next node e = Walking starts symbols classes base file table h n b truth next node e

    abbrev every_entry : Guarded → List (Entry ℕ)
    every_entry x = entries_from 1 (traced starts symbols classes x.ars)

    wanted_over : (x : Guarded) (φ : Formula) → ahead x φ 0 ≡ wanted starts symbols classes base h.every b x φ
    wanted_over x φ = ap (fold x φ) (sym (rest_begins x.ars shape)) ∙ go h.every
      where
        go :
            (q : Bool) → over (meet starts symbols classes base b x) q (pass starts symbols classes base b x φ) (every_entry x)
            ≡ wanted starts symbols classes base q b x φ
        go true = over_all (meet starts symbols classes base b x) (pass starts symbols classes base b x φ) (every_entry x)
        go false = over_any (meet starts symbols classes base b x) (pass starts symbols classes base b x φ) (every_entry x)

    pub walking_begins : Walks h.every None 0 0
    walking_begins =
        record {
          stands = standing_begins;
          so_far = λ x φ k w. join_begin h.every (ahead x φ 0) ∙ wanted_over x φ;
          ended = λ i q. clash (cc);
        }

    pub walking_skip :
        {truth : Bool} {next : Option ℕ} {node e : ℕ} → e < total starts → ¬ (get_or symbols e 0 ≡ h.fact.symbol) → Walks truth next node e
        → Walks truth next node (e + 1)
    walking_skip {truth} {next} {node} {e} l d v =
        record {
          stands = standing_skip l v.stands;
          so_far = λ x φ k w.
              ap (join h.every truth) (sym (rest_skip x.ars shape (fold x φ) e l
              (λ node es. over_miss (meet starts symbols classes base b x) h.every (pass starts symbols classes base b x φ)
              (entry_of x.ars symbols classes node e) es
              (other_misses symbols classes base h.fact node e x w.fitting (binds_to base b x (entry_of x.ars symbols classes node e)) d))))
              ∙ v.so_far x φ k w;
          ended = v.ended;
        }

    pub walking_ends :
        {truth : Bool} {next : Option ℕ} {node e end : ℕ} → ¬ (e < total starts) → Walks truth next node e
        → ((x : Guarded) (φ : Formula) (k : ℕ) → Bodied file table h n x φ k → end ≡ k) → (x : Guarded) (φ : Formula) (k : ℕ)
        → Bodied file table h n x φ k → Walked starts symbols classes base h.every b (record { truth = truth; next = end }) x φ k
    walking_ends {truth} {e = e} l v ends x φ k w =
        record {
          truth = sym (join_unit h.every truth)
              ∙ ap (λ (r : List (Entry ℕ)). join h.every truth (fold x φ r)) (sym (rest_ends x.ars shape (omega (arith, v.stands.within))))
              ∙ v.so_far x φ k w;
          next = ends x φ k w;
        }

    -- an entry of the symbol
    module _ {truth : Bool} {next : Option ℕ} {node' node e : ℕ} (l : e < total starts) (m : Option (List ℕ)) (o : Of starts node e)
        (says : (x : Guarded) → Fitting n h.fact x → Matching symbols classes base b node e m x) (v : Walks truth next node' e) where
      abbrev here : Guarded → Entry ℕ
      here x = entry_of x.ars symbols classes node e

      pub walking_miss : m ≡ None → Walks truth next node (e + 1)
      walking_miss z =
          record {
            stands = standing_next l o;
            so_far = λ x φ k w.
                ap (join h.every truth) (sym (over_miss (meet starts symbols classes base b x) h.every (pass starts symbols classes base b x φ) (here x)
                (rest x.ars symbols classes starts (e + 1)) (sym (says x w.fitting).matched ∙ ap is_some z))
                ∙ sym (ap (fold x φ) (rest_at x.ars shape o)))
                ∙ v.so_far x φ k w;
            ended = v.ended;
          }

      pub walking_match :
          {inner : ℕ} {values : List ℕ} {a : Judged} → m ≡ Some values → inner ≡ n + h.fresh
          → ((w : Written) → Fits file table h.fact.next inner w → Says starts symbols classes base values a w)
          → Walks (join h.every truth a.truth) (Some a.next) node (e + 1)
      walking_match {inner} {values} {a} z q judged =
          record {
            stands = standing_next l o;
            so_far = λ x φ k w.
                sym (join_assoc h.every truth a.truth (ahead x φ (e + 1)))
                ∙ ap (join h.every truth) (ap (λ (y : Bool). join h.every y (ahead x φ (e + 1))) (holds x φ k w)
                ∙ sym (over_hit (meet starts symbols classes base b x) h.every (pass starts symbols classes base b x φ) (here x)
                (rest x.ars symbols classes starts (e + 1)) (sym (says x w.fitting).matched ∙ ap is_some z))
                ∙ sym (ap (fold x φ) (rest_at x.ars shape o)))
                ∙ v.so_far x φ k w;
            ended = λ i y x φ k w. let p : i ≡ a.next = cc in p ∙ (told x φ k w).next;
          }
        where
          told :
              (x : Guarded) (φ : Formula) (k : ℕ) → Bodied file table h n x φ k
              → Says starts symbols classes base values a (written_of x.ars (x.scope ++ x.sorts) φ k)
          told x φ k w =
              judged (written_of x.ars (x.scope ++ x.sorts) φ k)
              (subst (λ (i : ℕ). Fits file table h.fact.next i (written_of x.ars (x.scope ++ x.sorts) φ k)) (sym q) w.body)

          holds : (x : Guarded) (φ : Formula) (k : ℕ) → Bodied file table h n x φ k → a.truth ≡ pass starts symbols classes base b x φ (here x)
          holds x φ k w =
              (told x φ k w).truth
              ∙ ap (λ u. judge (numbers base) (traced starts symbols classes x.ars) u φ) ((says x w.fitting).binds values z)
