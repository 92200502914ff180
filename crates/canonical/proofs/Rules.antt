-- The subterm rules: what a result stands for, a function of made arguments by its rule, and the rows.
use Prim.Native.Nat.{ℕ, zero, suc, ◌+◌, ◌≤◌, ◌<◌}
use mathlib.Core.List.{List, [], ◌∷◌, ◌++◌, append-nil}
use mathlib.Core.Path.{◌≡◌, refl, ap, sym, ◌∙◌, subst}
use mathlib.Core.Logic.{◌≢◌, ⊎_elim}
use mathlib.Core.Bool.{Bool, true, false}
use Rattle.std.proofs.Common.{Option, Some, None}
use Rattle.std.proofs.lemmas.Option.{same_Some}
use native.Mathlib.Omega.{arith}
use lib.ListN.{length, get_or, replicate, length-append}
use Rattle.lists.specs.Tests.{some_none}
use Rattle.lists.specs.Asks.{Asks, Asks₂, Asks₃, Promises, Promises₂, Promises₃}
use Rattle.octets.specs.Limits.{longest}
use Rattle.octets.specs.Head.{Stands, stands_at}
use Rattle.octets.specs.Splice.{splice}
use Rattle.octets.specs.Splice.Prefix.{Wrote, widen}
use Rattle.number.specs.Groups.{groups, groups_in, number_limit}
use Rattle.number.specs.Groups.Laws.{groups_one}
use Rattle.term.specs.Term.{variable, public, fresh, Term, leaf, app, Terms, nil, ◌&◌, count, encode, encodes, InRange, InRanges, Occurs, Occurss}
use Rattle.term.specs.Arity.{arity}
use Rattle.message.specs.Substitution.{sub}
use Rattle.message.specs.Functions.{enc, pair, aenc, pk, sign, yes}
use Rattle.message.specs.Rules as message
use Rattle.message.specs.Table.{x, y, rules}
use Rattle.message.proofs.Table.Laws.{rows_fit}
use Rattle.message.specs.Canon.{apply}
use Rattle.message.proofs.Made.{made_rule, made_stays, made_bytes}
use Rattle.factors.specs.Laid.{Laid, OneAt}
use Rattle.factors.specs.Laid.Laws.{args_of}
use Rattle.product.specs.Writing.{as_written}
use Rattle.canonical.specs.Builtins.{Builtins, group, enc_arity, dec_arity, pair_arity, fst_arity}
use Rattle.canonical.specs.Builtins.{snd_arity, aenc_arity, adec_arity, pk_arity, sign_arity, verify_arity}
use Rattle.canonical.specs.Inner.{Built}
use Rattle.canonical.specs.declared.Span.{Span}
use Rattle.canonical.specs.Matching.{Pattern, Patterns, span_of, Left, Solution, Fits, Given, a_value, a_constant, Row, Ruled}
use Rattle.canonical.proofs.Parts.{here_within}
use Rattle.canonical.proofs.Writes.{spliced}

-- ── a result ──
variable_bytes : (v : ℕ) → v < 2 → encode (leaf variable v) ≡ 0 ∷ v ∷ []
variable_bytes v h =
    let l : v < 128 = omega arith in
    ap (λ (l : List ℕ). l ++ groups v) (groups_one 0 (omega arith)) ∙ ap (λ (l : List ℕ). 0 ∷ l) (groups_one v l)

constant_bytes : (f : ℕ) → f < 128 → encode (app f nil) ≡ f ∷ []
constant_bytes f h = append-nil (groups f) ∙ groups_one f h

module _ (out : List ℕ) (o : ℕ) (result : List ℕ) (S : List (Option Span)) where
  pub given_some : Asks (Given out o result S) → 0 < length result
  given_some (q, a_value v x e s t a b c st) = omega (arith, ap length (e ∙ variable_bytes v s))
  given_some (q, a_constant f e l s i r) = omega (arith, ap length (e ∙ constant_bytes f s))

  module _ (is : get_or result 0 0 ≡ 0) where
    record Value (q : List ℕ) : Type 0 where
      bytes : result ≡ 0 ∷ get_or result 1 0 ∷ []
      small : get_or result 1 0 < 2
      span : Span
      there : span_of S (get_or result 1 0) ≡ Some span
      behind : o ≤ span.from
      forward : span.from ≤ span.to
      inside : span.to ≤ length out
      stands : Stands out span.from q span.to

    value : (q : List ℕ) → Given out o result S q → Value q
    value q (a_value v x e s t a b c st) =
        let p : result ≡ 0 ∷ v ∷ [] = e ∙ variable_bytes v s in
        let n : get_or result 1 0 ≡ v = ap (λ (l : List ℕ). get_or l 1 0) p in
        record { bytes = rw n p; small = rw n s; span = x; there = rw n t; behind = a; forward = b; inside = c; stands = st }
    value q (a_constant f e l s i r) = absurd (omega (arith, ap (λ (l : List ℕ). get_or l 0 0) (e ∙ constant_bytes f s)))

    pub given_two : Asks (Given out o result S) → 1 < length result
    given_two (q, g) = omega (arith, ap length (value q g).bytes)

    pub given_small : Asks (Given out o result S) → get_or result 1 0 < 2
    given_small (q, g) = (value q g).small

    pub given_met : span_of S (get_or result 1 0) ≡ None → {C : Type 0} → (q : List ℕ) → Given out o result S q → C
    given_met n q g = let w = value q g in absurd (some_none w.span (sym w.there ∙ n))

    module _ (x : Span) (there : span_of S (get_or result 1 0) ≡ Some x) where
      pub given_bounds : Asks (Given out o result S) → (o ≤ x.from) × (x.from ≤ x.to) × (x.to ≤ length out)
      given_bounds (q, g) =
          let w = value q g in
          let e : w.span ≡ x = same_Some w.span x (sym w.there ∙ there) in
          subst (λ (y : Span). (o ≤ y.from) × (y.from ≤ y.to) × (y.to ≤ length out)) e (w.behind, w.forward, w.inside)

      pub given_value :
          (out' : List ℕ) (r : ℕ) → Promises (λ (q : List ℕ). Stands out x.from q x.to) (λ (q : List ℕ). Wrote r out o out' r q)
          → Promises (Given out o result S) (λ (q : List ℕ). Wrote r out o out' r q)
      given_value out' r m q g =
          let w = value q g in
          m q (subst (λ (y : Span). Stands out y.from q y.to) (same_Some w.span x (sym w.there ∙ there)) w.stands)

  module _ (other : get_or result 0 0 ≢ 0) where
    constant : (q : List ℕ) → Given out o result S q → (q ≡ result) × (o + length result ≤ length out)
    constant q (a_value v x e s t a b c st) = absurd (other (ap (λ (l : List ℕ). get_or l 0 0) (e ∙ variable_bytes v s)))
    constant q (a_constant f e l s i r) = (i, omega (arith, ap length (e ∙ constant_bytes f s)))

    pub given_room : Asks (Given out o result S) → o + length result ≤ length out
    given_room (q, g) = (constant q g).1

    pub given_constant : (out' : List ℕ) (r : ℕ) → r ≡ o + length result → out' ≡ splice out o result → Promises (Given out o result S)
        (λ (q : List ℕ). Wrote r out o out' r q)
    given_constant out' r e w q g =
        let k = constant q g in
        subst (λ (l : List ℕ). Wrote r out o out' r l) (sym k.0) (spliced out o result out' r k.1 e w)

-- ── a function of made arguments by its rule ──
below_limit : (f : ℕ) → f < 128 → f < number_limit
unfolding number_limit
below_limit f h = omega arith

mutual
  pattern_range : (p : Term) → Pattern p → InRange p
  pattern_range (leaf variable n) h = let s : n < 2 = h in below_limit n (omega arith)
  pattern_range (leaf public n) h = absurd h
  pattern_range (leaf fresh n) h = absurd h
  pattern_range (app f ts) h = (below_limit f h.1, patterns_range ts h.2)

  patterns_range : (ps : Terms) → Patterns ps → InRanges ps
  patterns_range nil h = tt
  patterns_range (p & ps) h = (pattern_range p h.0, patterns_range ps h.1)

mutual
  pattern_occurs : (v : ℕ) (p : Term) → Pattern p → Occurs variable v p → v < 2
  pattern_occurs v (leaf variable n) h o = let q : n ≡ v = cc in let s : n < 2 = h in omega arith
  pattern_occurs v (leaf public n) h o = absurd h
  pattern_occurs v (leaf fresh n) h o = absurd h
  pattern_occurs v (app f ts) h o = patterns_occurs v ts h.2 o

  patterns_occurs : (v : ℕ) (ps : Terms) → Patterns ps → Occurss variable v ps → v < 2
  patterns_occurs v nil h o = absurd o
  patterns_occurs v (p & ps) h o = ⊎_elim (λ a. pattern_occurs v p h.0 a) (λ a. patterns_occurs v ps h.1 a) o

-- no variable is met yet
nones : (n v : ℕ) → span_of (replicate n None) v ≡ None
nones zero v = refl
nones (suc n) zero = refl
nones (suc n) (suc v) = nones n v

-- the function's tag is one byte
pub place_fits : (arities out : List ℕ) (o e f : ℕ) → Asks (Built arities out o e f) → (o < length out) × (length out ≤ longest)
place_fits arities out o e f (us, b) = let w = here_within (app f us) b.here in (omega (arith, w.0, w.1), b.short)

module _ (arities out : List ℕ) (o e : ℕ) (patterns result : List ℕ) where
  pub ruled_fits : Asks₂ (Ruled arities out o e patterns result) → (o < length out) × (length out ≤ longest)
  ruled_fits (f, us, R) = place_fits arities out o e f (us, R.built)

  nothing : ℕ → Term
  nothing v = leaf public 0

  begins : (f : ℕ) (us : Terms) (R : Ruled arities out o e patterns result f us)
      → Left arities out e patterns 0 (o + 1) (replicate 2 None) R.row.rule.args us nothing
  begins f us R =
      let r = R.row in
      let b = R.built in
      let args : Terms = r.rule.args in
      let l = ap length (groups_one f r.small) in
      let q : o + length (groups f) ≡ o + 1 = omega (arith, l) in
      let k : Some (count us) ≡ Some (count args) = sym b.here.formed.0 ∙ r.takes in
      let O : OneAt arities out o e (app f us) = record { formed = b.here.formed; range = b.here.range; there = b.here.stands } in
      record {
        shaped = r.shaped;
        pattern = record {
          formed = r.formed;
          range = patterns_range args r.shaped;
          there = stands_at patterns 0 (encodes args) [] (r.args ∙ sym (append-nil (encodes args)));
        };
        pattern_ends = omega (arith, ap length r.args);
        argument = subst (λ (i : ℕ). Laid arities out i us) q (args_of O);
        ends = omega (arith, b.here.stands.ends, l, length-append (groups f) (encodes us));
        many = cc;
        values = λ v x h. absurd (some_none x (sym h ∙ nones 2 v));
        spans = refl;
        short = b.short;
      }

  pub ruled_asks : Asks₂ (Ruled arities out o e patterns result) → Asks₃ (Left arities out e patterns 0 (o + 1) (replicate 2 None))
  ruled_asks (f, us, R) = (R.row.rule.args, us, nothing, begins f us R)

  -- no instance
  pub ruled_stays :
      (S' : List (Option Span)) (hit : Bool) → Promises₃ (Left arities out e patterns 0 (o + 1) (replicate 2 None))
      (Fits arities out (o + 1) (replicate 2 None) S' hit)
      → hit ≡ false → Promises₂ (Ruled arities out o e patterns result) (λ (f : ℕ) (us : Terms). Wrote e out o out e (encode (apply rules f us)))
  ruled_stays S' hit F d f us R =
      let r = R.row in
      let N : Fits arities out (o + 1) (replicate 2 None) S' false r.rule.args us nothing = rw d at
      (F r.rule.args us nothing (begins f us R)) in
      let b = R.built in
      let q : apply rules f us ≡ app f us =
      made_stays (arity arities) (group arities b.table) f r.rule r.is us
      (λ η m. N η (record { same = m; met = λ v h. absurd (some_none h.0 (sym h.1 ∙ nones 2 v)) })) in
      subst (λ (t : Term). Wrote e out o out e (encode t)) (sym q) (as_written out o e (encode (app f us)) b.here.stands)

  -- an instance
  module _ (S' : List (Option Span)) (hit : Bool) (F : Promises₃ (Left arities out e patterns 0 (o + 1) (replicate 2 None))
      (Fits arities out (o + 1) (replicate 2 None) S' hit)) (is : hit ≡ true) where
    solved : (f : ℕ) (us : Terms) (R : Ruled arities out o e patterns result f us)
        → Solution arities out (o + 1) (replicate 2 None) S' R.row.rule.args us nothing
    solved f us R =
        subst (λ (z : Bool). Fits arities out (o + 1) (replicate 2 None) S' z R.row.rule.args us nothing) is
        (F R.row.rule.args us nothing (begins f us R))

    given : (f : ℕ) (us : Terms) (R : Ruled arities out o e patterns result f us)
        → Given out o result S' (encode (sub (solved f us R).η R.row.rule.result))
    given f us R =
        let r = R.row in
        let W = rows_fit (arity arities) (group arities R.built.table) f r.rule r.is in
        go r.rule.result r.gives W.result W.bound
      where
        go :
            (t : Term) → result ≡ encode t → message.Result (arity arities) rules t
            → ((v : ℕ) → Occurs variable v t → Occurss variable v R.row.rule.args) → Given out o result S' (encode (sub (solved f us R).η t))
        go _ g (message.a_variable {n = n}) b =
            let S = solved f us R in
            let i = b n refl in
            let P = S.placed n i in
            let w = here_within (S.η n) P.here in
            let low : o ≤ P.span.from = ⊎_elim (λ l. omega (arith, l)) (λ l. absurd (some_none P.span (sym l ∙ nones 2 n))) P.lies in
            a_value n P.span g (patterns_occurs n R.row.rule.args R.row.shaped i) P.there low (omega (arith, w.0)) w.1 P.here.stands
        go _ g (message.a_constant {f = f} s ord no_rule ar) b =
            let l = (group arities R.built.table).no_leaf f 0 ar in
            a_constant f g (omega (arith, l)) (omega arith) (sym g) (place_fits arities out o e _ (us, R.built)).0

    pub ruled_gives : Asks₂ (Ruled arities out o e patterns result) → Asks (Given out o result S')
    ruled_gives (f, us, R) = (encode (sub (solved f us R).η R.row.rule.result), given f us R)

    pub ruled_done :
        (out' : List ℕ) (i : ℕ) → Promises (Given out o result S') (λ (q : List ℕ). Wrote i out o out' i q)
        → Promises₂ (Ruled arities out o e patterns result) (λ (f : ℕ) (us : Terms). Wrote e out o out' i (encode (apply rules f us)))
    ruled_done out' i m f us R =
        let r = R.row in
        let b = R.built in
        let S = solved f us R in
        let q : apply rules f us ≡ sub S.η r.rule.result =
        ap (apply rules f) S.solves.same ∙ made_rule (arity arities) (group arities b.table) f r.rule r.is S.η in
        let w : Wrote i out o out' i (encode (apply rules f us)) =
        subst (λ (t : Term). Wrote i out o out' i (encode t)) (sym q) (m (encode (sub S.η r.rule.result)) (given f us R)) in
        widen e (omega (arith, w.ends, made_bytes (arity arities) (group arities b.table) f us b.here.formed, b.here.stands.ends)) w

-- ── the rows ──
module _ (arities : List ℕ) (b : Builtins arities) where
  pub dec_row : Row arities 5 (4 ∷ 0 ∷ 0 ∷ 0 ∷ 1 ∷ 0 ∷ 1 ∷ []) (0 ∷ 0 ∷ [])
  unfolding groups groups_in
  dec_row = record {
    rule = record { args = enc x y & y & nil; result = x };
    is = refl;
    small = omega arith;
    takes = dec_arity arities b;
    shaped = ((omega arith, omega arith, (omega arith, (omega arith, tt))), (omega arith, tt));
    formed = ((enc_arity arities b, (tt, (tt, tt))), (tt, tt));
    args = refl;
    gives = refl;
  }

  pub fst_row : Row arities 8 (7 ∷ 0 ∷ 0 ∷ 0 ∷ 1 ∷ []) (0 ∷ 0 ∷ [])
  unfolding groups groups_in
  fst_row = record {
    rule = record { args = pair x y & nil; result = x };
    is = refl;
    small = omega arith;
    takes = fst_arity arities b;
    shaped = ((omega arith, omega arith, (omega arith, (omega arith, tt))), tt);
    formed = ((pair_arity arities b, (tt, (tt, tt))), tt);
    args = refl;
    gives = refl;
  }

  pub snd_row : Row arities 9 (7 ∷ 0 ∷ 0 ∷ 0 ∷ 1 ∷ []) (0 ∷ 1 ∷ [])
  unfolding groups groups_in
  snd_row = record {
    rule = record { args = pair x y & nil; result = y };
    is = refl;
    small = omega arith;
    takes = snd_arity arities b;
    shaped = ((omega arith, omega arith, (omega arith, (omega arith, tt))), tt);
    formed = ((pair_arity arities b, (tt, (tt, tt))), tt);
    args = refl;
    gives = refl;
  }

  pub adec_row : Row arities 30 (29 ∷ 0 ∷ 0 ∷ 31 ∷ 0 ∷ 1 ∷ 0 ∷ 1 ∷ []) (0 ∷ 0 ∷ [])
  unfolding groups groups_in
  adec_row = record {
    rule = record { args = aenc x (pk y) & y & nil; result = x };
    is = refl;
    small = omega arith;
    takes = adec_arity arities b;
    shaped = ((omega arith, omega arith, (omega arith, ((omega arith, omega arith, (omega arith, tt)), tt))), (omega arith, tt));
    formed = ((aenc_arity arities b, (tt, ((pk_arity arities b, (tt, tt)), tt))), (tt, tt));
    args = refl;
    gives = refl;
  }

  pub verify_row : Row arities 33 (32 ∷ 0 ∷ 0 ∷ 0 ∷ 1 ∷ 0 ∷ 0 ∷ 31 ∷ 0 ∷ 1 ∷ []) (34 ∷ [])
  unfolding groups groups_in
  verify_row = record {
    rule = record { args = sign x y & x & pk y & nil; result = yes };
    is = refl;
    small = omega arith;
    takes = verify_arity arities b;
    shaped = ((omega arith, omega arith, (omega arith, (omega arith, tt))), (omega arith, ((omega arith, omega arith, (omega arith, tt)), tt)));
    formed = ((sign_arity arities b, (tt, (tt, tt))), (tt, ((pk_arity arities b, (tt, tt)), tt)));
    args = refl;
    gives = refl;
  }

-- a function by its row
module _ (arities out : List ℕ) (o e f : ℕ) (patterns result : List ℕ) (row : Builtins arities → Row arities f patterns result) where
  as_ruled : (us : Terms) → Built arities out o e f us → Ruled arities out o e patterns result f us
  as_ruled us b = record { row = row b.table; built = b }

  pub row_asks : Asks (Built arities out o e f) → Asks₂ (Ruled arities out o e patterns result)
  row_asks (us, b) = (f, us, as_ruled us b)

  pub row_done :
      (out' : List ℕ) (r : ℕ) → Promises₂ (Ruled arities out o e patterns result) (λ (f : ℕ) (us : Terms). Wrote e out o out' r (encode (apply rules f us)))
      → Promises (Built arities out o e f) (λ (us : Terms). Wrote e out o out' r (encode (apply rules f us)))
  row_done out' r h us b = h f us (as_ruled us b)
