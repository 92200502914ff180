-- Code that reads the parts of what stands at a place tells the whole.
use Rattle.std.specs.Prelude.{ℕ, ◌+◌, ◌^◌, ◌≤◌, ◌<◌, List, Bool, ◌≡◌, refl, eqb, leb}
use Rattle.std.proofs.Math.Bool.{true, false}
use Rattle.std.proofs.Math.Path.{sym, ap, ap₂, subst}
use Rattle.std.proofs.Common.{◌∙◌, arith}
use Rattle.std.proofs.Math.ListN.{length, get_or}
use Rattle.lists.specs.Choice.{pick, cut_lt, cut_eq, clash}
use Rattle.lists.specs.Tests.{le_leb, leb_le}
use Rattle.octets.specs.Head.{Bytes}
use Rattle.number.specs.Groups.{number_limit}
use Rattle.number.specs.Reading.{got, fault, read_number, below, many, counted}
use Rattle.number.specs.Reading.Laws.{cut_got}
use Rattle.number.specs.Reading.Many.{many_length}
use Rattle.std.specs.Prelude.{Option, Some, None}
use Rattle.std.specs.Option.{unwrap_or}
use Rattle.number.specs.Reading.{as_read}
use Rattle.number.specs.Reading.Numbers.{read_form}
use Rattle.term.specs.Tags.{variable_tag}
use Rattle.protocol.specs.Figures.{message_sort, most_fact_arity}
use Rattle.property.specs.Figures.{most_new, time_sort, term_tags, most_scope}
use Rattle.property.specs.Formula.{Sort, var, public, pattern_of}
use Rattle.property.specs.Layout.{Timed, timed_of, Head, head_of, term_of, term_at, sort_at, fact_at, timed_at, head_at}
use Rattle.judge.specs.declared.reading.Num.{Num}
use Rattle.judge.specs.declared.reading.Codes.{Codes}
use Rattle.judge.specs.declared.reading.Coded.{Coded}
use Rattle.judge.specs.Tables.{Arities, arity_in}
use Rattle.judge.specs.Bindings.{code}
use Rattle.judge.specs.Reading.{NumberIs, TermIs, SortsAre, TermsAre, Carries, FactIs, HeadIs}

-- ── a number ──
pub number_is : {file : List ℕ} {at : ℕ} {r : Num} → Bytes file → read_number file at ≡ got r.value r.next → NumberIs file at r
number_is {file} {at} {r} bytes h = record {
  small = (read_form file bytes at r.value r.next h).0;
  says = λ v e k. ((cc), (cc));
}

pub number_none : {file : List ℕ} {at : ℕ} {r : Num} → r.value ≡ 0 → read_number file at ≡ fault → NumberIs file at r
unfolding number_limit
number_none z h = record { small = omega (arith, z); says = λ v e k. clash (cc) }

pub number_read :
    {file : List ℕ} {at : ℕ} {p : ℕ × ℕ} → Bytes file → (o : Option (ℕ × ℕ)) → as_read o ≡ read_number file at → p ≡ unwrap_or o (0, 0)
    → NumberIs file at (record { value = p.0; next = p.1 })
number_read {file} {at} bytes (Some (v, e)) h q =
    subst (λ (r : ℕ × ℕ). NumberIs file at (record { value = r.0; next = r.1 })) (sym q) (number_is bytes (sym h))
number_read {file} {at} bytes None h q =
    subst (λ (r : ℕ × ℕ). NumberIs file at (record { value = r.0; next = r.1 })) (sym q) (number_none refl (sym h))

-- a number that stands there is the one that code has
pub number_got :
    {file : List ℕ} {at : ℕ} {r : Num} (v e : ℕ) → NumberIs file at r → read_number file at ≡ got v e → read_number file at ≡ got r.value r.next
number_got v e n h = let p = n.says v e h in h ∙ ap₂ got (sym p.0) (sym p.1)

-- codes fit the code's numbers
pub number_room : {file : List ℕ} {at : ℕ} {r : Num} → NumberIs file at r → most_scope + r.value < 2 ^ 64
unfolding number_limit
number_room n = omega (arith, n.small)

pub code_fits : {file : List ℕ} {at : ℕ} {r : Num} → TermIs file at r → r.value < 2 ^ 32
unfolding number_limit
code_fits n = omega (arith, n.small)

-- ── a term ──
code_of : (z : Bool) (n : ℕ) → code (pick z (var n) (public n)) ≡ pick z n (most_scope + n)
code_of true n = refl
code_of false n = refl

module _ (file : List ℕ) where
  pub tells_term :
      {at : ℕ} {t n : Num} → NumberIs file at t → NumberIs file t.next n
      → TermIs file at (record { value = pick (eqb t.value variable_tag) n.value (most_scope + n.value); next = n.next })
  unfolding term_at below
  tells_term {at} {t} {n} a b =
      record {
        small = small (eqb t.value variable_tag);
        says = λ x e h. cut_got (below file term_tags at) _ h (λ u d hu h. cut_got (read_number file at) _ hu (λ v c hv hu. cut_lt _ _ _ v term_tags hu
            (λ l hu. cut_got (read_number file d) _ h (λ m g hm h.
            let p = a.says v c hv in
            let vu : v ≡ u = cc in
            let cd : c ≡ d = cc in
            let q = b.says m g (ap (read_number file) (p.1 ∙ cd) ∙ hm) in
            let w : term_of u m ≡ x = cc in
            let z : g ≡ e = cc in
            (ap₂ (λ (y i : ℕ). pick (eqb y variable_tag) i (most_scope + i)) (p.0 ∙ vu) q.0 ∙ sym (code_of (eqb u variable_tag) m) ∙ ap code w, q.1 ∙ z)))
            (λ l hu. clash (cc))));
      }
    where
      small : (z : Bool) → pick z n.value (most_scope + n.value) < most_scope + number_limit
      small true = omega (arith, b.small)
      small false = omega (arith, b.small)

  pub tells_sort : {at : ℕ} {t : Num} → NumberIs file at t → (s : Sort) (e : ℕ) → sort_at file at ≡ got s e → t.next ≡ e
  unfolding sort_at
  tells_sort {at} {t} a s e h =
      cut_got (read_number file at) _ h (λ v d hv h.
      let p = a.says v d hv in
      cut_eq _ _ _ v message_sort h (λ _ h. let z : d ≡ e = cc in p.1 ∙ z)
      (λ _ h. cut_eq _ _ _ v time_sort h (λ _ h. let z : d ≡ e = cc in p.1 ∙ z) (λ _ h. clash (cc))))

-- ── arities ──
pub arity_small : (table : List ℕ) (y : ℕ) → arity_in table y ≤ most_fact_arity
arity_small table y = go (get_or table y 0) (leb (get_or table y 0) most_fact_arity) refl
  where
    go : (a : ℕ) (z : Bool) → leb a most_fact_arity ≡ z → pick z a 0 ≤ most_fact_arity
    go a true h = leb_le a most_fact_arity h
    go a false h = omega arith

pub arity_known : {table ars : List ℕ} (y : ℕ) → Arities table ars → y < length ars → arity_in table y ≡ get_or ars y 0
arity_known {table} {ars} y a l =
    ap (λ (k : ℕ). pick (leb k most_fact_arity) k 0) (a.same y l)
    ∙ ap (λ (z : Bool). pick z (get_or ars y 0) 0) (le_leb (get_or ars y 0) most_fact_arity (a.small y))

-- ── a fact with its time, and what stands before a body ──
module _ (file table : List ℕ) where
  pub tells_fact :
      {at : ℕ} {y t : Num} {ts : Codes} → NumberIs file at y → TermsAre file y.next (arity_in table y.value) ts → NumberIs file ts.next t
      → FactIs file table at (record { symbol = y.value; count = arity_in table y.value; time = t.value; codes = ts.codes; next = t.next })
  unfolding timed_at fact_at below
  tells_fact {at} {y} {t} {ts} a b c =
      record {
        few = arity_small table y.value;
        says = λ ars k g e h. cut_got (fact_at file ars at) _ h (λ pat j hp h. cut_got (read_number file j) _ h (λ u m hu h.
            cut_got (below file (length ars) at) _ hp (λ s l hs hp. cut_got (read_number file at) _ hs (λ v q hv hs. cut_lt _ _ _ v (length ars) hs
            (λ lt hs. cut_got (many (term_at file) (get_or ars s 0) l) _ hp (λ xs o ht hp.
            let p = a.says v q hv in
            let vs : v ≡ s = cc in
            let ql : q ≡ l = cc in
            let ar : arity_in table y.value ≡ get_or ars s 0 = ap (arity_in table) (p.0 ∙ vs) ∙ arity_known s k (omega (arith, lt, vs)) in
            let ht' : many (term_at file) (arity_in table y.value) y.next ≡ got xs o = ap₂ (λ (n i : ℕ). many (term_at file) n i) ar (p.1 ∙ ql) ∙ ht in
            let w = b.says xs o ht' in
            let oj : o ≡ j = cc in
            let r = c.says u m (ap (read_number file) (w.1 ∙ oj) ∙ hu) in
            let gp : timed_of (pattern_of s xs) u ≡ g = cc in
            let me : m ≡ e = cc in (
              subst (λ (z : Timed). Carries ars z
                  (record { symbol = y.value; count = arity_in table y.value; time = t.value; codes = ts.codes; next = t.next })) gp
                  (record {
                    symbols = p.0 ∙ vs;
                    counts = sym (many_length (term_at file) (arity_in table y.value) y.next o xs ht');
                    arity = ar;
                    times = r.0;
                    coded = w.0;
                  }),
              r.1 ∙ me,
            )))
            (λ _ hs. clash (cc))))));
      }

  pub tells_guard :
      {at k : ℕ} {n : Num} {c : Coded} (every : Bool) → NumberIs file at n → SortsAre file n.next n.value k → FactIs file table k c
      → HeadIs file table at (record { every = every; fresh = n.value; fact = c })
  unfolding head_at counted below
  tells_guard {at} {k} {n} {c} every a b f =
      record {
        few = f.few;
        says = λ ars z h e x. cut_got (counted file most_new (sort_at file) at) _ x (λ s j es x. cut_got (timed_at file ars j) _ x (λ g m eg x.
            cut_got (below file (most_new + 1) at) _ es (λ i o en es. cut_got (read_number file at) _ en (λ v q ev en. cut_lt _ _ _ v (most_new + 1) en
            (λ _ en.
            let p = a.says v q ev in
            let vi : v ≡ i = cc in
            let qo : q ≡ o = cc in
            let es' : many (sort_at file) n.value n.next ≡ got s j = ap₂ (λ (y w : ℕ). many (sort_at file) y w) (p.0 ∙ vi) (p.1 ∙ qo) ∙ es in
            let kj = b.says s j es' in
            let w = f.says ars z g m (ap (timed_at file ars) kj ∙ eg) in
            let hg : head_of s g ≡ h = cc in
            let me : m ≡ e = cc in
            subst (λ (y : Head). (n.value ≡ length y.sorts) × (Carries ars y.guard c × (c.next ≡ e))) hg
            (sym (many_length (sort_at file) n.value n.next j s es'), (w.0, w.1 ∙ me)))
            (λ _ en. clash (cc))))));
      }
