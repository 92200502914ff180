-- What the returns of judge and skip say, and what their calls ask, tag by tag.
use Rattle.std.specs.Prelude.{ℕ, ◌+◌, ◌≤◌, ◌<◌, List, [], ◌++◌, Bool, true, false, not, ◌≡◌, refl, length, eqb}
use Rattle.std.proofs.Common.{sym, ap, ap₂, ◌∙◌, subst, subst₂, arith}
use Rattle.lists.specs.Choice.{pick}
use Rattle.lists.specs.Asks.{Asks, Asks₂, Asks₃}
use Rattle.octets.specs.Head.{Bytes}
use Rattle.number.specs.Reading.{got, read_number}
use Rattle.property.specs.Figures.{false_tag, and_tag, exists_tag, every_tag, most_scope}
use Rattle.property.specs.Formula.{Sort, Atom, Formula}
use Rattle.property.specs.Layout.{atom_at, signed, asserts, paired, quantified, head_of}
use Rattle.property.specs.Layout.Exact.{property_form}
use Rattle.property.specs.Reads.{Reads}
use Rattle.property.specs.Reads.Laws.{property_reads}
use Rattle.property.specs.Judge.{judge, test}
use Rattle.property.specs.Judge.Numbers.{numbers}
use Rattle.judge.specs.declared.reading.Num.{Num}
use Rattle.judge.specs.declared.reading.Guard.{Guard}
use Rattle.judge.specs.declared.judging.Judged.{Judged}
use Rattle.judge.specs.Folding.{join}
use Rattle.judge.specs.Bindings.{bound}
use Rattle.judge.specs.Reading.{NumberIs, HeadIs, AtomEnds}
use Rattle.judge.specs.Judging.{Written, written_of, Formed, Fits, Property, Stated, AtomIs, Guarded, Bodied, AtomSaid, Says, Walked, traced, truth_of}
use Rattle.judge.specs.Judging.Forward.{number_forward, reads_tag, reads_inside, reads_later}
use Rattle.judge.specs.Judging.Formulas.{false_there, atom_there, pair_there, quant_there, fit_atom, fit_pair, fit_quant}

-- ── the place behind a formula ──
module _ (file table : List ℕ) {at : ℕ} {r : Num} (num : NumberIs file at r) where
  abbrev EndsAt : ℕ → ℕ → Type 0
  EndsAt i y = (w : Written) → Formed file table i w → y ≡ w.end

  tag : (w : Written) → Formed file table at w → read_number file at ≡ got r.value r.next
  tag w f = reads_tag file w.ars f.reads num

  pub formed_inside : Asks (Formed file table at) → (at < length file) × (at < r.next)
  formed_inside (w, f) = (reads_inside file w.ars f.reads, (number_forward file at r.value r.next (tag w f)).0)

  pub past_false : r.value ≡ false_tag → EndsAt at r.next
  past_false z w f = (false_there file w.ars f.reads (tag w f) z).1

  pub past_atom : {y : ℕ} → ¬ (r.value ≡ false_tag) → r.value < and_tag → AtomEnds file table r.value r.next y → EndsAt at y
  past_atom z s a w f =
      let p = atom_there file w.ars f.reads (tag w f) z s in
      a.ends w.ars f.arities p.atom w.end p.here

  module _ (z : and_tag ≤ r.value) (s : r.value < exists_tag) where
    pub formed_left : Asks (Formed file table at) → Asks (Formed file table r.next)
    formed_left (w, f) =
        let p = pair_there file w.ars f.reads (tag w f) z s in
        (written_of w.ars w.scope p.x p.middle, record { arities = f.arities; reads = p.left })

    pub formed_right : {m : ℕ} → EndsAt r.next m → Asks (Formed file table at) → Asks (Formed file table m) × (r.next < m)
    formed_right {m} l (w, f) =
        let p = pair_there file w.ars f.reads (tag w f) z s in
        let e : m ≡ p.middle = l (written_of w.ars w.scope p.x p.middle) (record { arities = f.arities; reads = p.left }) in (
          (
            written_of w.ars w.scope p.y w.end,
            record { arities = f.arities; reads = subst (λ (k : ℕ). Reads file w.ars k p.y w.end) (sym e) p.right },
          ),
          omega (arith, e, reads_later file w.ars p.left),
        )

    pub past_pair : {m y : ℕ} → EndsAt r.next m → EndsAt m y → EndsAt at y
    past_pair {m} {y} l k w f =
        let p = pair_there file w.ars f.reads (tag w f) z s in
        let e = l (written_of w.ars w.scope p.x p.middle) (record { arities = f.arities; reads = p.left }) in
        k (written_of w.ars w.scope p.y w.end)
        (record { arities = f.arities; reads = subst (λ (i : ℕ). Reads file w.ars i p.y w.end) (sym e) p.right })

  module _ {g : Guard} (z : exists_tag ≤ r.value) (head : HeadIs file table r.next g) where
    formed_behind :
        (w : Written) → Formed file table at w
        → (x : Formula) × Formed file table g.fact.next (written_of w.ars w.scope x w.end) × (r.next ≤ g.fact.next)
    formed_behind w f =
        let p = quant_there file w.ars f.reads (tag w f) z in
        let e : g.fact.next ≡ p.behind = (head.says w.ars f.arities p.head p.behind p.here).1.1 in (
          p.x,
          record { arities = f.arities; reads = subst (λ (i : ℕ). Reads file w.ars i p.x w.end) (sym e) p.body },
          omega (arith, e, p.later),
        )

    pub formed_body : Asks (Formed file table at) → Asks (Formed file table g.fact.next) × (r.next ≤ g.fact.next)
    formed_body (w, f) =
        let b = formed_behind w f in
        ((written_of w.ars w.scope b.0 w.end, b.1), b.2)

    pub past_quant : {y : ℕ} → EndsAt g.fact.next y → EndsAt at y
    past_quant l w f = let b = formed_behind w f in l (written_of w.ars w.scope b.0 w.end) b.1

-- ── the judge ──
module _ (starts symbols classes : List ℕ) (base : ℕ) (file table : List ℕ) (n : ℕ) (b : List ℕ) where
  abbrev Told : ℕ → Judged → Type 0
  Told i r = (w : Written) → Fits file table i n w → Says starts symbols classes base b r w

  abbrev tested : List ℕ → List Sort → Atom → Bool
  tested ars scope a = test (numbers base) (traced starts symbols classes ars) (bound scope b) a

  signed_says :
      (q : Bool) (a : Atom) (ars : List ℕ) (scope : List Sort)
      → truth_of starts symbols classes base ars scope b (signed q a) ≡ pick q (tested ars scope a) (not (tested ars scope a))
  signed_says true a ars scope = refl
  signed_says false a ars scope = refl

  paired_says :
      (q : Bool) (x y : Formula) (ars : List ℕ) (scope : List Sort)
      → truth_of starts symbols classes base ars scope b (paired q x y)
      ≡ join q (truth_of starts symbols classes base ars scope b x) (truth_of starts symbols classes base ars scope b y)
  paired_says true x y ars scope = refl
  paired_says false x y ars scope = refl

  module _ {at : ℕ} {r : Num} (num : NumberIs file at r) where
    told : (w : Written) → Fits file table at n w → read_number file at ≡ got r.value r.next
    told w f = tag file table num w f.formed

    pub fits_inside : Asks (Fits file table at n) → (at < length file) × (at < r.next)
    fits_inside (w, f) = formed_inside file table num (w, f.formed)

    pub says_false : r.value ≡ false_tag → Told at (record { truth = false; next = r.next })
    says_false z w f =
        let p = false_there file w.ars f.formed.reads (told w f) z in
        record { truth = ap (truth_of starts symbols classes base w.ars w.scope b) p.0; next = p.1 }

    pub says_atom :
        {a : Judged} {truth : Bool} → ¬ (r.value ≡ false_tag) → r.value < and_tag
        → ((s : Stated) → AtomIs table (λ ars. atom_at file ars r.value r.next) n s → AtomSaid (traced starts symbols classes) base b a s)
        → truth ≡ pick (asserts r.value) a.truth (not a.truth) → Told at (record { truth = truth; next = a.next })
    says_atom z s a q w f =
        let p = fit_atom w f (told w f) z s in
        let v = a (record { ars = w.ars; scope = w.scope; atom = p.atom; end = w.end })
        (record { arities = f.formed.arities; reads = p.here; size = f.size; few = f.few; fits = p.fits }) in
        record {
          truth = q
              ∙ ap (λ (y : Bool). pick (asserts r.value) y (not y)) v.truth
              ∙ sym (signed_says (asserts r.value) p.atom w.ars w.scope)
              ∙ ap (truth_of starts symbols classes base w.ars w.scope b) p.whole;
          next = v.next;
        }

    -- both sides of and, or
    module _ (z : and_tag ≤ r.value) (s : r.value < exists_tag) where
      pub fits_left : Asks (Fits file table at n) → Asks (Fits file table r.next n)
      fits_left (w, f) = let p = fit_pair w f (told w f) z s in (written_of w.ars w.scope p.x p.middle, p.left)

      pub fits_right : {x : Judged} → Told r.next x → Asks (Fits file table at n) → Asks (Fits file table x.next n) × (r.next < x.next)
      fits_right {x} l (w, f) =
          let p = fit_pair w f (told w f) z s in
          let e : x.next ≡ p.middle = (l (written_of w.ars w.scope p.x p.middle) p.left).next in (
            (
              written_of w.ars w.scope p.y w.end,
              subst (λ (k : ℕ). Fits file table k n (written_of w.ars w.scope p.y w.end)) (sym e) p.right,
            ),
            omega (arith, e, reads_later file w.ars p.left.formed.reads),
          )

      pub says_pair :
          {x y : Judged} {truth : Bool} → Told r.next x → Told x.next y → truth ≡ join (eqb r.value and_tag) x.truth y.truth
          → Told at (record { truth = truth; next = y.next })
      says_pair {x} {y} l k q w f =
          let p = fit_pair w f (told w f) z s in
          let u = l (written_of w.ars w.scope p.x p.middle) p.left in
          let v = k (written_of w.ars w.scope p.y w.end)
          (subst (λ (i : ℕ). Fits file table i n (written_of w.ars w.scope p.y w.end)) (sym u.next) p.right) in
          record {
            truth = q
                ∙ ap₂ (join (eqb r.value and_tag)) u.truth v.truth
                ∙ sym (paired_says (eqb r.value and_tag) p.x p.y w.ars w.scope)
                ∙ ap (truth_of starts symbols classes base w.ars w.scope b) p.whole;
            next = v.next;
          }

    -- the quantifiers
    module _ {g : Guard} (z : exists_tag ≤ r.value) (head : HeadIs file table r.next g) where
      bodied :
          (w : Written) (f : Fits file table at n w)
          → (x : Guarded) × (φ : Formula) × Bodied file table g n x φ w.end
          × (truth_of starts symbols classes base x.ars x.scope b (quantified (eqb r.value every_tag) (head_of x.sorts x.guard) φ)
          ≡ truth_of starts symbols classes base w.ars w.scope b w.formula) × (r.next ≤ g.fact.next)
      bodied w f =
          let p = fit_quant w f (told w f) z in
          let c = head.says w.ars f.formed.arities p.head p.behind p.here in
          let x : Guarded = record { ars = w.ars; scope = w.scope; sorts = p.head.sorts; guard = p.head.guard } in (
            x,
            p.x,
            record {
              fitting = record { size = f.size; few = p.few; carries = c.1.0; fits = p.fits; guards = p.guards };
              fresh = c.0;
              body = subst₂ (λ (i m : ℕ). Fits file table i (n + m) (written_of w.ars (w.scope ++ p.head.sorts) p.x w.end))
                  (sym c.1.1) (sym c.0) p.body;
            },
            ap (truth_of starts symbols classes base w.ars w.scope b) p.whole,
            omega (arith, c.1.1, p.later),
          )

      pub fits_body : Asks (Fits file table at n) → Asks₃ (Bodied file table g n) × (r.next ≤ g.fact.next)
      fits_body (w, f) = let p = bodied w f in ((p.0, p.1, w.end, p.2), p.4)

      pub says_quant :
          {a : Judged} → g.every ≡ eqb r.value every_tag
          → ((x : Guarded) (φ : Formula) (k : ℕ) → Bodied file table g n x φ k → Walked starts symbols classes base g.every b a x φ k)
          → Told at a
      says_quant q l w f =
          let p = bodied w f in
          let v = l p.0 p.1 w.end p.2 in
          record {
            truth = v.truth
                ∙ ap (λ (e : Bool). truth_of starts symbols classes base p.0.ars p.0.scope b
                (quantified e (head_of p.0.sorts p.0.guard) p.1)) q
                ∙ p.3;
            next = v.next;
          }

-- ── the walk's body ──
module _ {file table : List ℕ} {h : Guard} {n : ℕ} where
  pub body_formed : Asks₃ (Bodied file table h n) → Asks (Formed file table h.fact.next)
  body_formed (x, φ, k, w) = (written_of x.ars (x.scope ++ x.sorts) φ k, w.body.formed)

  pub body_fits :
      Asks₃ (Bodied file table h n) → {inner : ℕ} → inner ≡ n + h.fresh
      → Asks (Fits file table h.fact.next inner) × (n + h.fresh ≤ most_scope)
  body_fits (x, φ, k, w) {inner} q =
      let v : Written = written_of x.ars (x.scope ++ x.sorts) φ k in
      ((v, subst (λ (i : ℕ). Fits file table h.fact.next i v) (sym q) w.body), w.body.few)

  pub body_ends :
      {next :
      ℕ} → ((w : Written) → Formed file table h.fact.next w
      → next ≡ w.end) → (x : Guarded) (φ : Formula) (k : ℕ) → Bodied file table h n x φ k
      → next ≡ k
  body_ends l x φ k w = l (written_of x.ars (x.scope ++ x.sorts) φ k) w.body.formed

-- ── the whole file ──
module _ {file table : List ℕ} (bytes : Bytes file) where
  whole : (ars : List ℕ) (φ : Formula) (p : Property file table ars φ) → Fits file table 0 0 (written_of ars [] φ p.end)
  whole ars φ p = record {
    formed = record { arities = p.arities; reads = property_reads file ars φ p.end p.reads };
    size = refl;
    few = omega arith;
    fits = p.fits;
    within = (property_form file bytes ars (omega (arith, p.arities.few)) φ p.end p.reads).0.scopes;
  }

  pub property_fits : Asks₂ (Property file table) → Asks (Fits file table 0 0)
  property_fits (ars, φ, p) = (written_of ars [] φ p.end, whole ars φ p)

  pub property_says :
      (starts symbols classes : List ℕ) (base : ℕ) (b : List ℕ) (r : Judged)
      → ((w : Written) → Fits file table 0 0 w → Says starts symbols classes base b r w) → (ars : List ℕ) (φ : Formula) → Property file table ars φ
      → r.truth ≡ judge (numbers base) (traced starts symbols classes ars) [] φ
  property_says starts symbols classes base b r l ars φ p = (l (written_of ars [] φ p.end) (whole ars φ p)).truth
