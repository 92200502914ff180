-- A run of terms filled in as they stand, symbol by symbol: what is asked and promised at a leaf and at a function, and the loop.
use Prim.Native.Nat.{ℕ, ◌+◌, ◌-◌, ◌≤◌}
use mathlib.Core.List.{List, [], ◌++◌, append_assoc, append-nil}
use mathlib.Core.Path.{◌≡◌, refl, ap, sym, ◌∙◌, subst}
use mathlib.Core.Logic.{◌≢◌, inl, inr, ◌⊎◌, ⊎_elim}
use native.Mathlib.Omega.{arith}
use lib.ListN.{length, drop, length-append}
use Rattle.lists.specs.Asks.{Asks₂, Promises₂}
use Rattle.octets.specs.Limits.{longest}
use Rattle.octets.specs.Head.{stands_at}
use Rattle.octets.specs.Splice.Prefix.{Wrote, widen, wrote_nothing, wrote_then}
use Rattle.number.specs.Groups.{groups}
use Rattle.term.specs.Term.{Kind, variable, Term, leaf, app, Terms, nil, ◌&◌, count, encode, encodes, symbols, Occurss}
use Rattle.term.specs.Term.Laws.{encode_some}
use Rattle.term.specs.Sizes.{most_symbols}
use Rattle.message.specs.Substitution.{sub, subs}
use Rattle.message.specs.Parts.Entries.{Each}
use Rattle.factors.specs.Laid.{Laid, also}
use Rattle.factors.specs.Laid.Laws.{first_of, others_of, args_of, laid_also, also_count, also_bytes}
use Rattle.term.specs.declared.Symbol.{Symbol}
use Rattle.term.specs.declared.Symbol.TheVariants as sy
use Rattle.canonical.specs.First.{FirstAt}
use Rattle.canonical.specs.Contract.{Job, Out}
use Rattle.canonical.specs.Inner.{LeafJob, Here, Going}
use Rattle.canonical.proofs.Making.{each_small, room_one, leaf_case, op_case, leaf_job, rest_job}

-- ── some terms and others behind them ──
also_filled : (θ : ℕ → Term) (ts us : Terms) → encodes (subs θ (also ts us)) ≡ encodes (subs θ ts) ++ encodes (subs θ us)
also_filled θ nil us = refl
also_filled θ (t & ts) us =
    ap (λ (x : List ℕ). encode (sub θ t) ++ x) (also_filled θ ts us) ∙ sym (append_assoc (encode (sub θ t)) (encodes (subs θ ts)) (encodes (subs θ us)))

also_occurs : (v : ℕ) (ts us : Terms) → Occurss variable v (also ts us) → Occurss variable v ts ⊎ Occurss variable v us
also_occurs v nil us o = inr o
also_occurs v (t & ts) us o = ⊎_elim (λ p. inl (inl p)) (λ p. ⊎_elim (λ q. inl (inr q)) (λ q. inr q) (also_occurs v ts us p)) o

also_each : (P : Term → Type 0) (ts us : Terms) → Each P ts → Each P us → Each P (also ts us)
also_each P nil us a b = b
also_each P (t & ts) us a b = (a.0, also_each P ts us a.1 b)

-- a term takes a byte at least
count_bytes : (θ : ℕ → Term) (ts : Terms) → count ts ≤ length (encodes (subs θ ts))
count_bytes θ nil = omega arith
count_bytes θ (t & ts) = omega (arith, count_bytes θ ts, encode_some (sub θ t), length-append (encode (sub θ t)) (encodes (subs θ ts)))

job_few : (arities vals starts src : List ℕ) (at k n o : ℕ) (θ : ℕ → Term) (ts : Terms) → Job arities vals starts src at k n o θ ts → k ≤ longest
job_few arities vals starts src at k n o θ ts J = omega (arith, count_bytes θ ts, J.many, J.room, J.short)

-- ── behind a function's tag its arguments and the other terms are left ──
also_job :
    (arities vals starts src : List ℕ) (at k n o : ℕ) (θ : ℕ → Term) (f : ℕ) (args us : Terms) → Job arities vals starts src at k n o θ (app f args & us)
    → (at' number n' o' : ℕ) → at' ≡ at + length (groups f) → count args ≡ number → n' ≡ n → o' ≡ o + length (groups f)
    → Job arities vals starts src at' (k - 1 + number) n' o' θ (also args us)
also_job arities vals starts src at k n o θ f args us J at' number n' o' p c e l =
    let L : Laid arities src at (app f args & us) =
    record { formed = J.formed; range = J.range; there = stands_at src at (encodes (app f args & us)) J.rest J.there } in
    let h = length-append (groups f) (encodes args) in
    let A : Laid arities src at' (also args us) = subst (λ (i : ℕ). Laid arities src i (also args us)) (sym p)
    (laid_also args us (args_of (first_of L)) (omega (arith, h)) (others_of L)) in
    let m = length-append (groups f) (encodes (subs θ args)) in
    let b : length (encodes (subs θ (also args us))) ≡ length (encodes (subs θ args)) + length (encodes (subs θ us)) =
    ap length (also_filled θ args us) ∙ length-append (encodes (subs θ args)) (encodes (subs θ us)) in
    record {
      table = J.table;
      many = omega (arith, also_count args us, J.many, c);
      formed = A.formed;
      range = A.range;
      rest = drop (at' + length (encodes (also args us))) src;
      there = A.there.there;
      values = λ v i. J.values v (also_occurs v args us i);
      small = also_each (λ t. symbols (sub θ t) ≤ most_symbols) args us (each_small θ args (let s = J.small.0 in omega arith)) J.small.1;
      room = omega (arith, room_one arities vals starts src at k n o θ (app f args) us J, m, b);
      short = omega (arith, J.short);
      values_short = J.values_short;
    }

-- ── one symbol ──
module _ (arities vals starts src : List ℕ) (at k : ℕ) (out : List ℕ) (o : ℕ) (y : Symbol) (tag number next : ℕ)
    (F : Promises₂ (Here arities src at) (λ (e : ℕ) (t : Term). FirstAt t at y)) (more : k ≢ 0) where
  pub leaf_goes :
      (b : y ≡ sy.Leaf tag number next) (out₁ : List ℕ) (p : ℕ) → length out₁ ≡ length out → Promises₂ (LeafJob vals starts (length out) o tag number)
      (λ (θ : ℕ → Term) (kd : Kind). Wrote p out o out₁ p (encode (sub θ (leaf kd number))))
      → Promises₂ (Job arities vals starts src at k (length out) o) (Going arities vals starts src at out o next (k - 1) out₁ p)
  leaf_goes b out₁ p same D θ ts J =
      leaf_case arities vals starts src at k (length out) o y tag number next F more (Going arities vals starts src at out o next (k - 1) out₁ p θ) θ ts b
      J
      (λ kd us t e J. record {
        us = us;
        job = rest_job arities vals starts src at k out o y tag number next F more b out₁ p same D θ kd us t e J;
        read = omega (arith, e, length-append (encode (leaf kd number)) (encodes us));
        q = encode (sub θ (leaf kd number));
        wrote = D θ kd (leaf_job arities vals starts src at k (length out) o tag number θ kd us t J);
        same = refl;
      })

  module _ (b : y ≡ sy.Op tag number next) (out₁ : List ℕ) (a : ℕ) (same : length out₁ ≡ length out) (A : Wrote a out o out₁ a (groups tag)) where
    pub op_goes : Promises₂ (Job arities vals starts src at k (length out) o) (Going arities vals starts src at out o next (k - 1 + number) out₁ a)
    op_goes θ ts J =
        op_case arities vals starts src at k (length out) o y tag number next F more
        (Going arities vals starts src at out o next (k - 1 + number) out₁ a θ) θ ts b J
        (λ args us c e J.
        let h = ap length (also_bytes args us) ∙ length-append (encodes args) (encodes us) in
        record {
          us = also args us;
          job = also_job arities vals starts src at k (length out) o θ tag args us J next number (length out₁) a e c same A.ends;
          read = omega (arith, e, h, length-append (groups tag ++ encodes args) (encodes us), length-append (groups tag) (encodes args));
          q = groups tag;
          wrote = A;
          same = append_assoc (groups tag) (encodes (subs θ args)) (encodes (subs θ us)) ∙ ap (λ (l : List ℕ). groups tag ++ l) (sym (also_filled θ args us));
        })

    pub op_few : Asks₂ (Job arities vals starts src at k (length out) o) → k - 1 + number ≤ longest
    op_few (θ, ts, J) =
        let g = op_goes θ ts J in
        job_few arities vals starts src next (k - 1 + number) (length out₁) a θ g.us g.job

-- ── the loop ──
module _ (arities vals starts src : List ℕ) (at₀ k₀ : ℕ) (out₀ : List ℕ) (o₀ : ℕ) where
  pub record Walk (at k : ℕ) (out : List ℕ) (o : ℕ) : Type 0 where
    pub long : length out ≡ length out₀
    pub going : Promises₂ (Job arities vals starts src at₀ k₀ (length out₀) o₀) (Going arities vals starts src at₀ out₀ o₀ at k out o)

  pub walk_first : Walk at₀ k₀ out₀ o₀
  walk_first = record {
    long = refl;
    going = λ θ ts J. record { us = ts; job = J; read = refl; q = []; wrote = wrote_nothing o₀ o₀ out₀; same = refl };
  }

  module _ (at k : ℕ) (out : List ℕ) (o : ℕ) (W : Walk at k out o) where
    pub walk_asks : Asks₂ (Job arities vals starts src at₀ k₀ (length out₀) o₀) → Asks₂ (Job arities vals starts src at k (length out) o)
    walk_asks (θ, ts, J) = let g = W.going θ ts J in (θ, g.us, g.job)

    pub walk_next :
        (at' k' : ℕ) (out' : List ℕ) (o' : ℕ) → length out' ≡ length out
        → Promises₂ (Job arities vals starts src at k (length out) o) (Going arities vals starts src at out o at' k' out' o') → Walk at' k' out' o'
    walk_next at' k' out' o' same D = record {
      long = same ∙ W.long;
      going = λ θ ts J.
          let g = W.going θ ts J in
          let h = D θ g.us g.job in
          record {
            us = h.us;
            job = h.job;
            read = h.read ∙ g.read;
            q = g.q ++ h.q;
            wrote = wrote_then (widen o' (omega (arith, h.wrote.ends)) g.wrote) h.wrote;
            same = g.same ∙ ap (λ (l : List ℕ). g.q ++ l) h.same ∙ sym (append_assoc g.q h.q (encodes (subs θ h.us)));
          };
    }

    pub walk_done :
        k ≤ 0 → Promises₂ (Job arities vals starts src at₀ k₀ (length out₀) o₀)
        (λ (θ : ℕ → Term) (ts : Terms). Out o at₀ out₀ o₀ out at o (encodes ts) (encodes (subs θ ts)))
    walk_done z θ ts J = let g = W.going θ ts J in go g.us g.job g.read g.same
      where
        go : (us : Terms) → Job arities vals starts src at k (length out) o θ us → at + length (encodes us) ≡ at₀ + length (encodes ts)
            → encodes (subs θ ts) ≡ (W.going θ ts J).q ++ encodes (subs θ us) → Out o at₀ out₀ o₀ out at o (encodes ts) (encodes (subs θ ts))
        go nil D r s = record {
          read = omega arith;
          wrote = subst (λ (l : List ℕ). Wrote o out₀ o₀ out o l) (sym (s ∙ append-nil (W.going θ ts J).q)) (W.going θ ts J).wrote;
        }
        go (u & us) D r s = absurd (omega (arith, D.many))
