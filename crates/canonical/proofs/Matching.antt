-- A rule's patterns against arguments: one symbol of both, and the loop.
use Prim.Native.Nat.{ℕ, ◌+◌, ◌-◌, ◌≤◌, ◌<◌}
use mathlib.Core.List.{List, [], ◌++◌, append_assoc}
use mathlib.Core.Path.{◌≡◌, refl, ap, ap₂, sym, ◌∙◌, subst}
use mathlib.Core.Logic.{◌≢◌, ◌⊎◌, inl, inr, ⊎_elim}
use mathlib.Core.Bool.{Bool, true, false, cond}
use Rattle.std.proofs.Common.{Option, Some, None}
use native.Mathlib.Omega.{arith}
use lib.Dec.{eqb}
use lib.ListN.{length, drop, get_or, set, length-set, length-append}
use lib.Seq.{get_or-set_same, get_or-set_other}
use borrow.Author.Tests.{eqb-true, eqb-false, eq-eqb, ne_eqb}
use Rattle.std.proofs.lemmas.Option.{same_Some}
use Rattle.lists.specs.Choice.{by_size}
use Rattle.lists.specs.Tests.{some_none}
use Rattle.lists.specs.Asks.{Asks₂, Asks₃, Promises, Promises₂, Promises₃}
use Rattle.octets.specs.Compare.{is_equal, compare_bytes}
use Rattle.octets.specs.Head.{Head, head_at}
use Rattle.number.specs.Groups.{groups}
use Rattle.number.specs.Groups.Laws.{groups_one, groups_more}
use Rattle.term.specs.Term.{variable, public, fresh, Term, leaf, app, Terms, nil, ◌&◌, tag_of, count, encode, encodes, Occurss}
use Rattle.term.specs.Term.Laws.{tag_small, encode_some}
use Rattle.message.specs.Substitution.{sub, subs}
use Rattle.message.specs.Substitution.Laws.{subs_count}
use Rattle.factors.specs.Laid.{Laid, OneAt, also}
use Rattle.factors.specs.Laid.Laws.{first_of, others_of, args_of, laid_also, also_count, also_bytes}
use Rattle.canonical.specs.Inner.{Here}
use Rattle.canonical.specs.declared.Span.{Span}
use Rattle.canonical.specs.Matching.{Patterns, span_of, Met, Left, Solves, Further, Stepped, Solution, Fits}
use Rattle.canonical.proofs.Parts.{same_term, other_term, here_within}

-- ── some terms and others behind them ──
also_patterns : (ps qs : Terms) → Patterns ps → Patterns qs → Patterns (also ps qs)
also_patterns nil qs a b = b
also_patterns (p & ps) qs a b = (a.0, also_patterns ps qs a.1 b)

also_subs : (η : ℕ → Term) (ps qs : Terms) → subs η (also ps qs) ≡ also (subs η ps) (subs η qs)
also_subs η nil qs = refl
also_subs η (p & ps) qs = ap (λ (x : Terms). sub η p & x) (also_subs η ps qs)

also_apart : (ws xs ys zs : Terms) → count ws ≡ count ys → also ws xs ≡ also ys zs → (ws ≡ ys) × (xs ≡ zs)
also_apart nil xs nil zs c e = (refl, e)
also_apart nil xs (y & ys) zs c e = absurd (omega arith)
also_apart (w & ws) xs nil zs c e = absurd (omega arith)
also_apart (w & ws) xs (y & ys) zs c e = let d = also_apart ws xs ys zs (omega arith) (cc) in (cc d.0, d.1)

occurs_also : (v : ℕ) (ps qs : Terms) → Occurss variable v ps ⊎ Occurss variable v qs → Occurss variable v (also ps qs)
occurs_also v nil qs o = ⊎_elim (λ p. absurd p) (λ p. p) o
occurs_also v (p & ps) qs o =
    ⊎_elim (λ a. ⊎_elim (λ x. inl x) (λ x. inr (occurs_also v ps qs (inl x))) a) (λ b. inr (occurs_also v ps qs (inr b))) o

-- ── a tag of one byte ──
byte_at : (src : List ℕ) (at f : ℕ) (xs : List ℕ) → f < 128 → drop at src ≡ groups f ++ xs → Head src at f xs
byte_at src at f xs h e = head_at src at f xs (e ∙ ap (λ (l : List ℕ). l ++ xs) (groups_one f h))

-- the first byte of a term tells whether it is the function of such a tag
tag_byte :
    (src : List ℕ) (at : ℕ) (t : Term) (xs : List ℕ) (f : ℕ) → 3 ≤ f → f < 128 → drop at src ≡ encode t ++ xs → get_or src at 0 ≡ f
    → (us : Terms) × (t ≡ app f us)
tag_byte src at (leaf k n) xs f l h e b =
    let w = byte_at src at (tag_of k) (groups n ++ xs) (omega (arith, tag_small k)) (e ∙ append_assoc (groups (tag_of k)) (groups n) xs) in
    absurd (omega (arith, tag_small k, w.here))
tag_byte src at (app g us) xs f l h e b =
    by_size g 128
    (λ s.
    let w = byte_at src at g (encodes us ++ xs) s (e ∙ append_assoc (groups g) (encodes us) xs) in
    let q : g ≡ f = sym w.here ∙ b in
    (us, ap (λ (i : ℕ). app i us) q))
    (λ s.
    let w = head_at src at _ _ (e ∙ append_assoc (groups g) (encodes us) xs ∙ ap (λ (l : List ℕ). l ++ (encodes us ++ xs)) (groups_more g s)) in
    absurd (omega (arith, w.here)))

byte_tag :
    (src : List ℕ) (at : ℕ) (t : Term) (xs : List ℕ) (f : ℕ) → f < 128 → drop at src ≡ encode t ++ xs → (us : Terms) → t ≡ app f us → get_or src at 0 ≡ f
byte_tag src at t xs f h e us q =
    (byte_at src at f (encodes us ++ xs) h (e ∙ ap (λ (u : Term). encode u ++ xs) q ∙ append_assoc (groups f) (encodes us) xs)).here

-- into the arguments of a function
module _ (f : ℕ) (qs ps : Terms) (small : f < 128) where
  into_length : length (encodes (app f qs & ps)) ≡ 1 + length (encodes (also qs ps))
  into_length =
      omega (
        arith,
        length-append (encode (app f qs)) (encodes ps),
        length-append (groups f) (encodes qs),
        ap length (groups_one f small),
        ap length
            (also_bytes qs ps),
        length-append (encodes qs) (encodes ps),
      )

  into : {arities src : List ℕ} {at : ℕ} → Laid arities src at (app f qs & ps) → Laid arities src (at + 1) (also qs ps)
  into {arities} {src} {at} L =
      let l = ap length (groups_one f small) in
      let p : at + length (groups f) ≡ at + 1 = omega (arith, l) in
      subst (λ (i : ℕ). Laid arities src i (also qs ps)) p
      (laid_also qs ps (args_of (first_of L)) (omega (arith, length-append (groups f) (encodes qs))) (others_of L))

-- ── what stands next: a variable or a function, and an argument ──
data Next : Terms → Terms → Type 0 where
  a_variable : (n : ℕ) (ps : Terms) (t : Term) (ts : Terms) → Next (leaf variable n & ps) (t & ts)
  a_function : (f : ℕ) (qs ps : Terms) (t : Term) (ts : Terms) → Next (app f qs & ps) (t & ts)

as_here : {arities src : List ℕ} {at e : ℕ} {t : Term} → OneAt arities src at e t → Here arities src at e t
as_here O = record { formed = O.formed; range = O.range; stands = O.there }

module _ (arities out : List ℕ) (e : ℕ) (patterns : List ℕ) (i at : ℕ) (S : List (Option Span)) (more : i < length patterns) where
  next : (ps ts : Terms) (θ : ℕ → Term) → Left arities out e patterns i at S ps ts θ → Next ps ts
  next nil ts θ L = absurd (omega (arith, L.pattern_ends))
  next (leaf variable n & ps) nil θ L = absurd (omega (arith, L.many))
  next (leaf variable n & ps) (t & ts) θ L = a_variable n ps t ts
  next (leaf public n & ps) ts θ L = absurd L.shaped.0
  next (leaf fresh n & ps) ts θ L = absurd L.shaped.0
  next (app f qs & ps) nil θ L = absurd (omega (arith, L.many))
  next (app f qs & ps) (t & ts) θ L = a_function f qs ps t ts

  -- the argument's place
  argument_inside : (t : Term) (ps ts : Terms) (θ : ℕ → Term) → Left arities out e patterns i at S ps (t & ts) θ → Here arities out at
      (at + length (encode t)) t
  argument_inside t ps ts θ L = as_here (first_of L.argument)

  -- ── the bytes of the pattern ──
  variable_bytes : (n : ℕ) (ps ts : Terms) (θ : ℕ → Term) → Left arities out e patterns i at S (leaf variable n & ps) ts θ
      → (get_or patterns i 0 ≡ 0) × (get_or patterns (i + 1) 0 ≡ n) × (i + 1 < length patterns)
  variable_bytes n ps ts θ L =
      let s : n < 2 = L.shaped.0 in
      let a = byte_at patterns i 0 (groups n ++ (encodes ps ++ _)) (omega arith)
      (L.pattern.there.there ∙ append_assoc (groups 0 ++ groups n) (encodes ps) _ ∙ append_assoc (groups 0) (groups n) _) in
      let b = byte_at patterns (i + 1) n (encodes ps ++ _) (omega arith) a.next in
      (a.here, b.here, b.inside)

  variable_length : (n : ℕ) → n < 2 → length (encode (leaf variable n)) ≡ 2
  variable_length n s =
      let l : n < 128 = omega arith in
      omega (arith, length-append (groups 0) (groups n), ap length (groups_one 0 (omega arith)), ap length (groups_one n l))

  function_byte : (f : ℕ) (qs ps ts : Terms) (θ : ℕ → Term) → Left arities out e patterns i at S (app f qs & ps) ts θ → get_or patterns i 0 ≡ f
  function_byte f qs ps ts θ L =
      (byte_at patterns i f (encodes qs ++ (encodes ps ++ _)) L.shaped.0.1
      (L.pattern.there.there ∙ append_assoc (groups f ++ encodes qs) (encodes ps) _ ∙ append_assoc (groups f) (encodes qs) _)).here

  -- ── a function ──
  module _ (function : get_or patterns i 0 ≢ 0) where
    pub function_inside : Asks₃ (Left arities out e patterns i at S) → at < length out
    function_inside (ps, ts, θ, L) = go ps ts L (next ps ts θ L)
      where
        go : (ps ts : Terms) → Left arities out e patterns i at S ps ts θ → Next ps ts → at < length out
        go _ _ L (a_variable n ps t ts) = absurd (function (variable_bytes n ps (t & ts) θ L).0)
        go _ _ L (a_function f qs ps t ts) = let w = here_within t (argument_inside t (app f qs & ps) ts θ L) in omega (arith, w.0, w.1)

    pub function_other : get_or out at 0 ≢ get_or patterns i 0 → Promises₃ (Left arities out e patterns i at S)
        (Stepped arities out e patterns i at S S None)
    function_other d ps ts θ L η s = go ps ts L (next ps ts θ L) s
      where
        go : (ps ts : Terms) → Left arities out e patterns i at S ps ts θ → Next ps ts → Solves S ps ts θ η → ⊥
        go _ _ L (a_variable n ps t ts) s = function (variable_bytes n ps (t & ts) θ L).0
        go _ _ L (a_function f qs ps t ts) s =
            let m = s.same in
            let q : t ≡ app f (subs η qs) = cc in
            d (byte_tag out at t (encodes ts ++ _) f L.shaped.0.1 (L.argument.there.there ∙ append_assoc (encode t) (encodes ts) _) (subs η qs) q
            ∙ sym (function_byte f qs ps (t & ts) θ L))

    same_function :
        (f : ℕ) (qs ps us ts : Terms) (θ : ℕ → Term) → Left arities out e patterns i at S (app f qs & ps) (app f us & ts) θ
        → Further arities out e patterns at S (i + 1) (at + 1) S (app f qs & ps) (app f us & ts) θ
    same_function f qs ps us ts θ L =
        let small : f < 128 = L.shaped.0.1 in
        let k : Some (count us) ≡ Some (count qs) = sym L.argument.formed.0.0 ∙ L.pattern.formed.0.0 in
        let c : count us ≡ count qs = cc in
        record {
          ps' = also qs ps;
          ts' = also us ts;
          θ' = θ;
          left = record {
            shaped = also_patterns qs ps L.shaped.0.2 L.shaped.1;
            pattern = into f qs ps small L.pattern;
            pattern_ends = omega (arith, L.pattern_ends, into_length f qs ps small);
            argument = into f us ts small L.argument;
            ends = omega (arith, L.ends, into_length f us ts small);
            many = omega (arith, also_count us ts, also_count qs ps, L.many, c);
            values = L.values;
            spans = L.spans;
            short = L.short;
          };
          forth = λ η s.
              let m = s.same in
              let a : us ≡ subs η qs = cc in
              let b : ts ≡ subs η ps = cc in
              record { same = ap₂ also a b ∙ sym (also_subs η qs ps); met = s.met };
          back = λ η s.
              let w = also_apart us ts (subs η qs) (subs η ps) (c ∙ sym (subs_count η qs)) (s.same ∙ also_subs η qs ps) in
              record { same = ap₂ (λ (a b : Terms). app f a & b) w.0 w.1; met = s.met };
          seen = λ v o. ⊎_elim (λ p. inl (occurs_also v qs ps p)) (λ p. inr p) o;
          onward = omega arith;
          lies = λ v x h. inr h;
        }

    pub function_same : get_or out at 0 ≡ get_or patterns i 0 → Promises₃ (Left arities out e patterns i at S)
        (Stepped arities out e patterns i at S S (Some (i + 1, at + 1)))
    function_same d ps ts θ L = (omega arith, go ps ts L (next ps ts θ L))
      where
        go : (ps ts : Terms) → Left arities out e patterns i at S ps ts θ → Next ps ts
            → Further arities out e patterns at S (i + 1) (at + 1) S ps ts θ
        go _ _ L (a_variable n ps t ts) = absurd (function (variable_bytes n ps (t & ts) θ L).0)
        go _ _ L (a_function f qs ps t ts) =
            let w = tag_byte out at t (encodes ts ++ _) f L.shaped.0.0 L.shaped.0.1
            (L.argument.there.there ∙ append_assoc (encode t) (encodes ts) _) (d ∙ function_byte f qs ps (t & ts) θ L) in
            subst (λ (u : Term). Further arities out e patterns at S (i + 1) (at + 1) S (app f qs & ps) (u & ts) θ) (sym w.1)
            (same_function f qs ps w.0 ts θ
            (subst (λ (u : Term). Left arities out e patterns i at S (app f qs & ps) (u & ts) θ) w.1 L))

  -- ── a variable ──
  module _ (is : get_or patterns i 0 ≡ 0) where
    record Variable (ps ts : Terms) (θ : ℕ → Term) : Type 0 where
      n : ℕ
      ps₁ : Terms
      t : Term
      ts₁ : Terms
      ps_is : ps ≡ leaf variable n & ps₁
      ts_is : ts ≡ t & ts₁
      left : Left arities out e patterns i at S (leaf variable n & ps₁) (t & ts₁) θ

    a_variable_lem : (ps ts : Terms) (θ : ℕ → Term) → Left arities out e patterns i at S ps ts θ → Variable ps ts θ
    a_variable_lem ps ts θ L = go ps ts L (next ps ts θ L)
      where
        go : (ps ts : Terms) → Left arities out e patterns i at S ps ts θ → Next ps ts → Variable ps ts θ
        go _ _ L (a_variable n ps t ts) = record { n = n; ps₁ = ps; t = t; ts₁ = ts; ps_is = refl; ts_is = refl; left = L }
        go _ _ L (a_function f qs ps t ts) = let l = L.shaped.0.0 in absurd (omega (arith, function_byte f qs ps (t & ts) θ L))

    pub number_inside : Asks₃ (Left arities out e patterns i at S) → i + 1 < length patterns
    number_inside (ps, ts, θ, L) =
        let W = a_variable_lem ps ts θ L in
        (variable_bytes W.n W.ps₁ (W.t & W.ts₁) θ W.left).2

    -- the argument that it stands for
    pub argument_here : Asks₃ (Left arities out e patterns i at S) → Asks₂ (Here arities out at)
    argument_here (ps, ts, θ, L) =
        let W = a_variable_lem ps ts θ L in
        (at + length (encode W.t), W.t, argument_inside W.t (leaf variable W.n & W.ps₁) W.ts₁ θ W.left)

    module _ (v : ℕ) (v-is : v ≡ get_or patterns (i + 1) 0) where
      number_is : (n : ℕ) (ps ts : Terms) (θ : ℕ → Term) → Left arities out e patterns i at S (leaf variable n & ps) ts θ → n ≡ v
      number_is n ps ts θ L = sym (variable_bytes n ps ts θ L).1 ∙ sym v-is

      pub number_small : Asks₃ (Left arities out e patterns i at S) → v < 2
      number_small (ps, ts, θ, L) =
          let W = a_variable_lem ps ts θ L in
          let s : W.n < 2 = W.left.shaped.0 in
          omega (arith, number_is W.n W.ps₁ (W.t & W.ts₁) θ W.left)

      -- behind it
      rest : (ps ts : Terms) (t : Term) (θ θ' : ℕ → Term) (at' : ℕ) (S' : List (Option Span))
          → Left arities out e patterns i at S (leaf variable v & ps) (t & ts) θ → at' ≡ at + length (encode t)
          → ((u : ℕ) (x : Span) → span_of S' u ≡ Some x → Here arities out x.from x.to (θ' u)) → length S' ≡ 2
          → Left arities out e patterns (i + 2) at' S' ps ts θ'
      rest ps ts t θ θ' at' S' L a h k =
          let n = variable_length v L.shaped.0 in
          let q : i + length (encode (leaf variable v)) ≡ i + 2 = omega (arith, n) in
          record {
            shaped = L.shaped.1;
            pattern = subst (λ (j : ℕ). Laid arities patterns j ps) q (others_of L.pattern);
            pattern_ends = omega (arith, L.pattern_ends, n, length-append (encode (leaf variable v)) (encodes ps));
            argument = subst (λ (j : ℕ). Laid arities out j ts) (sym a) (others_of L.argument);
            ends = omega (arith, L.ends, a, length-append (encode t) (encodes ts));
            many = omega (arith, L.many);
            values = h;
            spans = k;
            short = L.short;
          }

      -- ── at its first place ──
      module _ (new : span_of S v ≡ None) (behind : ℕ) (B : Promises₂ (Here arities out at)
          (λ (d : ℕ) (t : Term). (length patterns - (i + 2) ≡ 0 → d ≡ e) → behind ≡ d)) where
        abbrev span : Span
        span = record { from = at; to = behind }

        abbrev pub spanned : List (Option Span)
        spanned = set S v (Some span)

        first_place : (ps ts : Terms) (t : Term) (θ : ℕ → Term) → Left arities out e patterns i at S (leaf variable v & ps) (t & ts) θ
            → Further arities out e patterns at S (i + 2) behind spanned (leaf variable v & ps) (t & ts) θ
        first_place ps ts t θ L =
            let s : v < 2 = L.shaped.0 in
            let H = argument_inside t (leaf variable v & ps) ts θ L in
            let last : length patterns - (i + 2) ≡ 0 → at + length (encode t) ≡ e =
            λ z. go ps ts L.many (omega (arith, L.pattern_ends, variable_length v s, length-append (encode (leaf variable v)) (encodes ps))) L.ends in
            let b : behind ≡ at + length (encode t) = B (at + length (encode t)) t H last in
            let θ' : ℕ → Term = λ u. cond (eqb u v) t (θ u) in
            let here : θ' v ≡ t = ap (λ (z : Bool). cond z t (θ v)) (eq-eqb v v refl) in
            let other : (u : ℕ) → u ≢ v → θ' u ≡ θ u = λ u d. ap (λ (z : Bool). cond z t (θ u)) (ne_eqb u v d) in
            let met : span_of spanned v ≡ Some span = get_or-set_same S v (Some span) None (omega (arith, L.spans)) in
            let kept : (u : ℕ) → u ≢ v → span_of spanned u ≡ span_of S u = λ u d. get_or-set_other S v u (Some span) None d in
            let at_v : (u : ℕ) (x : Span) → u ≡ v → span_of spanned u ≡ Some x → span ≡ x =
            λ u x z h. same_Some span x (sym met ∙ ap (span_of spanned) (sym z) ∙ h) in
            record {
              ps' = ps;
              ts' = ts;
              θ' = θ';
              left = rest ps ts t θ θ' behind spanned L b
                  (λ u x h. by u (eqb u v) refl
                  (λ q. subst (λ (y : Span). Here arities out y.from y.to (θ' u)) (at_v u x q h)
                  (subst (λ (w : ℕ). Here arities out at behind (θ' w)) (sym q) (rw (here, b) H)))
                  (λ d. rw (other u d) (L.values u x (sym (kept u d) ∙ h))))
                  (length-set S v (Some span) ∙ L.spans);
              forth = λ η s.
                  let m = s.same in
                  let p : t ≡ η v = cc in
                  let q : ts ≡ subs η ps = cc in
                  record {
                    same = q;
                    met = λ u h. by u (eqb u v) refl
                        (λ z. ap η z ∙ sym p ∙ sym here ∙ ap θ' (sym z))
                        (λ d. s.met u (h.0, sym (kept u d) ∙ h.1) ∙ sym (other u d));
                  };
              back = λ η s.
                  let p : η v ≡ t = s.met v (span, met) ∙ here in
                  record {
                    same = ap₂ (λ (a : Term) (b : Terms). a & b) (sym p) s.same;
                    met = λ u h. by u (eqb u v) refl
                        (λ z. absurd (some_none h.0 (sym h.1 ∙ ap (span_of S) z ∙ new)))
                        (λ d. s.met u (h.0, kept u d ∙ h.1) ∙ other u d);
                  };
              seen = λ u o. by u (eqb u v) refl
                  (λ z. inr (span, ap (span_of spanned) z ∙ met))
                  (λ d. ⊎_elim (λ p. ⊎_elim (λ x. absurd (d (cc))) (λ x. inl x) p) (λ h. inr (h.0, kept u d ∙ h.1)) o);
              onward = omega (arith, b);
              lies = λ u x h. by u (eqb u v) refl
                  (λ z. inl (let w : at ≡ x.from = ap (λ (y : Span). y.from) (at_v u x z h) in omega arith))
                  (λ d. inr (sym (kept u d) ∙ h));
            }
          where
            by : {C : Type 0} (u : ℕ) (z : Bool) → eqb u v ≡ z → (u ≡ v → C) → (u ≢ v → C) → C
            by u true h f g = f (eqb-true u v h)
            by u false h f g = g (eqb-false u v h)

            go : (ps ts : Terms) → count (t & ts) ≡ count (leaf variable v & ps) → length (encodes ps) ≡ 0 → e ≡ at + length (encodes (t & ts))
                → at + length (encode t) ≡ e
            go nil nil c z q = omega (arith, q, length-append (encode t) [])
            go nil (u & ts) c z q = absurd (omega arith)
            go (p & ps) ts c z q = absurd (omega (arith, encode_some p, length-append (encode p) (encodes ps)))

        pub variable_first : Promises₃ (Left arities out e patterns i at S)
            (Stepped arities out e patterns i at S spanned (Some (i + 2, behind)))
        variable_first ps ts θ L = (omega arith, go (a_variable_lem ps ts θ L))
          where
            go : Variable ps ts θ → Further arities out e patterns at S (i + 2) behind spanned ps ts θ
            go W =
                let q = number_is W.n W.ps₁ (W.t & W.ts₁) θ W.left in
                let w = first_place W.ps₁ W.ts₁ W.t θ (rw q at W.left) in
                rw (W.ps_is, W.ts_is, q) w

      -- ── at a further place ──
      module _ (x : Span) (old : span_of S v ≡ Some x) where
        value_here : (ps ts : Terms) (θ : ℕ → Term) → Left arities out e patterns i at S ps ts θ → Here arities out x.from x.to (θ v)
        value_here ps ts θ L = L.values v x old

        pub value_inside : Asks₃ (Left arities out e patterns i at S) → (x.from ≤ x.to) × (x.to ≤ length out)
        value_inside (ps, ts, θ, L) = let w = here_within (θ v) (value_here ps ts θ L) in (omega (arith, w.0), w.1)

        module _ (same : Bool) (A : Promises (λ (t : Term). Here arities out x.from x.to t)
            (λ (t : Term). Promises₂ (Here arities out at) (λ (e : ℕ) (y : Term). same ≡ is_equal (compare_bytes (encode t) (encode y))))) where
          compared : (ps ts : Terms) (t : Term) (θ : ℕ → Term) → Left arities out e patterns i at S (leaf variable v & ps) (t & ts) θ
              → same ≡ is_equal (compare_bytes (encode (θ v)) (encode t))
          compared ps ts t θ L =
              A (θ v) (value_here (leaf variable v & ps) (t & ts) θ L) (at + length (encode t)) t (argument_inside t (leaf variable v & ps) ts θ L)

          pub variable_other : same ≡ false → Promises₃ (Left arities out e patterns i at S)
              (Stepped arities out e patterns i at S S None)
          variable_other d ps ts θ L η s =
              let W = a_variable_lem ps ts θ L in
              let q = number_is W.n W.ps₁ (W.t & W.ts₁) θ W.left in
              let K = rw q at W.left in
              let m : W.t & W.ts₁ ≡ sub η (leaf variable W.n) & subs η W.ps₁ = sym W.ts_is ∙ s.same ∙ ap (subs η) W.ps_is in
              let p : W.t ≡ η W.n = cc in
              other_term arities (θ v) W.t (sym (compared W.ps₁ W.ts₁ W.t θ K) ∙ d)
              (sym (s.met v (x, old)) ∙ ap η (sym q) ∙ sym p)

          further_place : (ps ts : Terms) (t : Term) (θ : ℕ → Term) → same ≡ true
              → Left arities out e patterns i at S (leaf variable v & ps) (t & ts) θ
              → Further arities out e patterns at S (i + 2) (at + (x.to - x.from)) S (leaf variable v & ps) (t & ts) θ
          further_place ps ts t θ d L =
              let W = value_here (leaf variable v & ps) (t & ts) θ L in
              let H = argument_inside t (leaf variable v & ps) ts θ L in
              let p : θ v ≡ t = same_term arities (θ v) t W.formed H.formed (sym (compared ps ts t θ L) ∙ d) in
              let l = ap (λ (x : Term). length (encode x)) p in
              record {
                ps' = ps;
                ts' = ts;
                θ' = θ;
                left = rest ps ts t θ θ (at + (x.to - x.from)) S L (omega (arith, W.stands.ends, l)) L.values L.spans;
                forth = λ η s. let m = s.same in record { same = cc; met = s.met };
                back = λ η s. record {
                  same = ap₂ (λ (a : Term) (b : Terms). a & b) (sym p ∙ sym (s.met v (x, old))) s.same;
                  met = s.met;
                };
                seen = λ u o. ⊎_elim (λ y. ⊎_elim (λ z. inr (let q : v ≡ u = cc in (x, ap (span_of S) (sym q) ∙ old))) (λ z. inl z) y)
                    (λ h. inr h) o;
                onward = omega arith;
                lies = λ u y h. inr h;
              }

          pub variable_again : same ≡ true → Promises₃ (Left arities out e patterns i at S)
              (Stepped arities out e patterns i at S S (Some (i + 2, at + (x.to - x.from))))
          variable_again d ps ts θ L = (omega arith, go (a_variable_lem ps ts θ L))
            where
              go : Variable ps ts θ → Further arities out e patterns at S (i + 2) (at + (x.to - x.from)) S ps ts θ
              go W =
                  let q = number_is W.n W.ps₁ (W.t & W.ts₁) θ W.left in
                  let w = further_place W.ps₁ W.ts₁ W.t θ d (rw q at W.left) in
                  rw (W.ps_is, W.ts_is, q) w

          -- its end
          pub again_inside : same ≡ true → Asks₃ (Left arities out e patterns i at S) → at + (x.to - x.from) ≤ length out
          again_inside d (ps, ts, θ, L) =
              let K = a_variable_lem ps ts θ L in
              let q = number_is K.n K.ps₁ (K.t & K.ts₁) θ K.left in
              let M : Left arities out e patterns i at S (leaf variable v & K.ps₁) (K.t & K.ts₁) θ = rw q at K.left in
              let V' = value_here (leaf variable v & K.ps₁) (K.t & K.ts₁) θ M in
              let H = argument_inside K.t (leaf variable v & K.ps₁) K.ts₁ θ M in
              let p : θ v ≡ K.t = same_term arities (θ v) K.t V'.formed H.formed (sym (compared K.ps₁ K.ts₁ K.t θ M) ∙ d) in
              let l = ap (λ (x : Term). length (encode x)) p in
              omega (arith, V'.stands.ends, l, (here_within K.t H).1)

-- ── the loop ──
module _ (arities out : List ℕ) (e : ℕ) (patterns : List ℕ) (at₀ : ℕ) (S₀ : List (Option Span)) where
  -- from the beginning up to here
  abbrev pub Walked : ℕ → ℕ → List (Option Span) → Type 0
  Walked i at S = Promises₃ (Left arities out e patterns 0 at₀ S₀) (Further arities out e patterns at₀ S₀ i at S)

  pub walked_first : Walked 0 at₀ S₀
  walked_first ps ts θ L = record {
    ps' = ps;
    ts' = ts;
    θ' = θ;
    left = L;
    forth = λ η s. s;
    back = λ η s. s;
    seen = λ v o. o;
    onward = omega arith;
    lies = λ v x h. inr h;
  }

  module _ (i at : ℕ) (S : List (Option Span)) (W : Walked i at S) where
    pub walked_asks : Asks₃ (Left arities out e patterns 0 at₀ S₀) → Asks₃ (Left arities out e patterns i at S)
    walked_asks (ps, ts, θ, L) = let w = W ps ts θ L in (w.ps', w.ts', w.θ', w.left)

    module _ (S' : List (Option Span)) (r : Option (ℕ × ℕ)) (D : Promises₃ (Left arities out e patterns i at S)
        (Stepped arities out e patterns i at S S' r)) where
      -- nearer to the end
      pub walked_ahead : (i' at' : ℕ) → r ≡ Some (i', at') → Asks₃ (Left arities out e patterns 0 at₀ S₀) → i < i'
      walked_ahead i' at' q (ps, ts, θ, L) = let w = W ps ts θ L in (rw q at (D w.ps' w.ts' w.θ' w.left)).0

      pub walked_next : (i' at' : ℕ) → r ≡ Some (i', at') → Walked i' at' S'
      walked_next i' at' q ps ts θ L =
          let w = W ps ts θ L in
          let s : Stepped arities out e patterns i at S S' (Some (i', at')) w.ps' w.ts' w.θ' = rw q at
          (D w.ps' w.ts' w.θ' w.left) in
          let x = s.1 in
          let a = w.onward in
          record {
            ps' = x.ps';
            ts' = x.ts';
            θ' = x.θ';
            left = x.left;
            forth = λ η y. x.forth η (w.forth η y);
            back = λ η y. w.back η (x.back η y);
            seen = λ v o. x.seen v (w.seen v o);
            onward = omega (arith, w.onward, x.onward);
            lies = λ v y h. ⊎_elim (λ l. inl (omega (arith, a, l))) (λ k. w.lies v y k) (x.lies v y h);
          }

      pub walked_none : r ≡ None → Promises₃ (Left arities out e patterns 0 at₀ S₀) (Fits arities out at₀ S₀ S' false)
      walked_none q ps ts θ L η y =
          let w = W ps ts θ L in
          let s : Stepped arities out e patterns i at S S' None w.ps' w.ts' w.θ' = rw q at
          (D w.ps' w.ts' w.θ' w.left) in
          s η (w.forth η y)

    pub walked_done : length patterns ≤ i → Promises₃ (Left arities out e patterns 0 at₀ S₀) (Fits arities out at₀ S₀ S true)
    walked_done z ps ts θ L = go (W ps ts θ L)
      where
        over : (ps' ts' : Terms) (θ' : ℕ → Term) → Left arities out e patterns i at S ps' ts' θ' → (ps' ≡ nil) × (ts' ≡ nil)
        over nil nil θ' M = (refl, refl)
        over nil (t & ts) θ' M = absurd (omega (arith, M.many))
        over (p & ps) ts θ' M = absurd (omega (arith, M.pattern_ends, encode_some p, length-append (encode p) (encodes ps)))

        go : Further arities out e patterns at₀ S₀ i at S ps ts θ → Solution arities out at₀ S₀ S ps ts θ
        go w =
            let n = over w.ps' w.ts' w.θ' w.left in
            let met : (v : ℕ) → Occurss variable v ps → Met S v =
            λ v o. ⊎_elim (λ p. absurd (rw n.0 at p)) (λ p. p) (w.seen v (inl o)) in
            record {
              η = w.θ';
              solves = w.back w.θ' (record { same = n.1 ∙ ap (subs w.θ') (sym n.0); met = λ v h. refl });
              placed = λ v o.
                  let m = met v o in
                  record { span = m.0; there = m.1; here = w.left.values v m.0 m.1; lies = w.lies v m.0 m.1 };
            }
