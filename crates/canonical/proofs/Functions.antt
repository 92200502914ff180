-- A function in a run of terms: its tag, its arguments, what is made of it, and the terms behind it.
use Prim.Native.Nat.{ℕ, ◌+◌, ◌-◌, ◌<◌, ◌≤◌}
use mathlib.Core.List.{List}
use mathlib.Core.Path.{◌≡◌, ap, subst}
use mathlib.Core.Logic.{◌≢◌, inl}
use native.Mathlib.Omega.{arith}
use lib.ListN.{length, length-append}
use Rattle.term.specs.declared.Symbol.{Symbol}
use Rattle.term.specs.declared.Symbol.TheVariants as sy
use Rattle.canonical.specs.First.{FirstAt}
use Rattle.lists.specs.Asks.{Asks, Asks₂, Promises, Promises₂}
use Rattle.octets.specs.Splice.Prefix.{Wrote, widen, wrote_then, wrote_there}
use Rattle.number.specs.Groups.{groups, number_limit}
use Rattle.term.specs.Term.{variable, Term, app, Terms, ◌&◌, count, encode, encodes, Occurss}
use Rattle.term.specs.Term.Laws.{encode_some}
use Rattle.term.specs.Sizes.{term_room}
use Rattle.term.specs.Arity.{arity}
use Rattle.message.specs.Substitution.{sub, subs}
use Rattle.message.specs.Substitution.Laws.{sub_formed}
use Rattle.message.specs.Canon.{canon}
use Rattle.product.specs.Writing.{wrote_over}
use Rattle.canonical.specs.Builtins.{group}
use Rattle.canonical.specs.Loose.{beside, closed, mades}
use Rattle.canonical.specs.Loose.Laws.{sub_range, app_size, sound, sounds}
use Rattle.canonical.specs.Contract.{Job, Out}
use Rattle.canonical.specs.Inner.{Built, Here}
use Rattle.canonical.proofs.Making.{room_one, next_job, args_job, op_case}

module _ (arities vals starts src : List ℕ) (at k : ℕ) (out : List ℕ) (o : ℕ) (y : Symbol) (tag number next : ℕ)
    (F : Promises₂ (Here arities src at) (λ (e : ℕ) (t : Term). FirstAt t at y)) (more : k ≢ 0) (b : y ≡ sy.Op tag number next) where
  by_op :
      (P : Type 0) → Asks₂ (Job arities vals starts src at k (length out) o)
      → ((θ : ℕ → Term) (args us : Terms) → count args ≡ number → next ≡ at + length (groups tag)
      → Job arities vals starts src at k (length out) o θ (app tag args & us) → P)
      → P
  by_op P (θ, ts, J) c = op_case arities vals starts src at k (length out) o y tag number next F more (λ ts. P) θ ts b J (c θ)

  pub tag_asks : Asks₂ (Job arities vals starts src at k (length out) o) → (tag < number_limit) × (o + length (groups tag) ≤ length out)
  tag_asks R = by_op _ R (λ θ args us c e J.
      let r = room_one arities vals starts src at k (length out) o θ (app tag args) us J in
      (J.range.0.0, omega (arith, r, length-append (groups tag) (encodes (subs θ args)))))

  module _ (out₁ : List ℕ) (a : ℕ) (same₁ : length out₁ ≡ length out) (A : Wrote a out o out₁ a (groups tag)) where
    arguments :
        (θ : ℕ → Term) (args us : Terms) → count args ≡ number → next ≡ at + length (groups tag)
        → Job arities vals starts src at k (length out) o θ (app tag args & us) → Job arities vals starts src next number (length out₁) a θ args
    arguments θ args us c e J =
        args_job arities vals starts src at k (length out) o θ tag args us J next number (length out₁) a e c same₁ A.ends

    pub args_asks : Asks₂ (Job arities vals starts src at k (length out) o) → Asks₂ (Job arities vals starts src next number (length out₁) a)
    args_asks R = by_op _ R (λ θ args us c e J. (θ, args, arguments θ args us c e J))

    module _ (out₂ : List ℕ) (at₂ e : ℕ) (same₂ : length out₂ ≡ length out)
        (M : Promises₂ (Job arities vals starts src next number (length out₁) a) (λ (θ : ℕ → Term) (ts : Terms). Out
        (a + length (encodes (subs θ ts)) + term_room) next
        out₁
        a out₂ at₂ e (encodes ts) (encodes (mades tag θ ts)))) where
      record Inner (θ : ℕ → Term) (args us : Terms) : Type 0 where
        built : Built arities out₂ o e tag (mades tag θ args)
        wrote : Wrote (o + length (encodes (subs θ (app tag args & us))) + term_room) out o out₂ e (encode (app tag (mades tag θ args)))
        read : at₂ ≡ at + length (encode (app tag args))
        smaller : (around : ℕ) → length (encode (closed around tag (mades tag θ args))) ≤ length (encode (sub θ (app tag args)))
        ends : e ≤ o + length (encode (sub θ (app tag args)))

      inner :
          (θ : ℕ → Term) (args us : Terms) → count args ≡ number → next ≡ at + length (groups tag)
          → Job arities vals starts src at k (length out) o θ (app tag args & us) → Inner θ args us
      inner θ args us c d J =
          let vs : Terms = mades tag θ args in
          let m = M θ args (arguments θ args us c d J) in
          let w : ℕ = o + length (encodes (subs θ (app tag args & us))) + term_room in
          let l : w ≡ o + (length (encode (sub θ (app tag args))) + length (encodes (subs θ us))) + term_room =
          ap (λ (z : ℕ). o + z + term_room) (length-append (encode (sub θ (app tag args))) (encodes (subs θ us))) in
          let h = length-append (groups tag) (encodes (subs θ args)) in
          let wrote : Wrote w out o out₂ e (encode (app tag vs)) =
          wrote_then (widen w (omega (arith, A.ends, l, h)) A) (widen w (omega (arith, A.ends, l, h)) m.wrote) in
          let formed = sub_formed (arity arities) θ (app tag args) J.formed.0 (λ v i. (J.values v (inl i)).formed) in
          let range = sub_range θ (app tag args) J.range.0 (λ v i. (J.values v (inl i)).range) in
          let own : (v : ℕ) → Occurss variable v args → canon (θ v) ≡ θ v = λ v i. (J.values v (inl i)).own in
          let g = group arities J.table in
          let z = app_size (arity arities) tag vs (subs θ args) (sounds (arity arities) g θ args tag formed.1 own).sizes in
          let s = J.small.0 in
          record {
            built = record {
              table = J.table;
              here = record {
                formed = z.formed formed;
                range = z.range range;
                stands = record { ends = wrote.ends; there = wrote_there (omega (arith, J.room)) wrote };
              };
              small = omega (arith, z.symbols_less, s);
              room = omega (arith, wrote.ends, z.bytes_less, l, J.room, same₂);
              short = omega (arith, J.short, same₂);
            };
            wrote = wrote;
            read = omega (arith, m.read, d, length-append (groups tag) (encodes args));
            smaller = λ around. (sound (arity arities) g θ (app tag args) around formed own).size.bytes_less;
            ends = omega (arith, wrote.ends, z.bytes_less);
          }

      pub close_asks : Asks₂ (Job arities vals starts src at k (length out) o) → Asks (Built arities out₂ o e tag)
      close_asks R = by_op _ R (λ θ args us c d J. (mades tag θ args, (inner θ args us c d J).built))

      pub onward : Asks₂ (Job arities vals starts src at k (length out) o) → at < at₂
      onward R = by_op _ R (λ θ args us c d J. omega (arith, (inner θ args us c d J).read, encode_some (app tag args)))

      module _ (around : ℕ) (out₃ : List ℕ) (r : ℕ) (same₃ : length out₃ ≡ length out)
          (C : Promises (Built arities out₂ o e tag) (λ (us : Terms). Wrote (e + term_room) out₂ o out₃ r (encode (closed around tag us)))) where
        after_job :
            (θ : ℕ → Term) (args us : Terms) → count args ≡ number → next ≡ at + length (groups tag)
            → Job arities vals starts src at k (length out) o θ (app tag args & us) → Job arities vals starts src at₂ (k - 1) (length out₃) r θ us
        after_job θ args us c d J =
            let i = inner θ args us c d J in
            let w = C (mades tag θ args) i.built in
            next_job arities vals starts src at k (length out) o θ (app tag args) us J at₂ (length out₃) r i.read same₃
            (omega (arith, w.ends, i.smaller around))

        pub rest_asks : Asks₂ (Job arities vals starts src at k (length out) o) → Asks₂ (Job arities vals starts src at₂ (k - 1) (length out₃) r)
        rest_asks R = by_op _ R (λ θ args us c d J. (θ, us, after_job θ args us c d J))

        pub op_done :
            (rest : ℕ) → rest ≡ beside around → (out' : List ℕ) (at' o' : ℕ) → Promises₂ (Job arities vals starts src at₂ (k - 1) (length out₃) r)
            (λ (θ : ℕ → Term) (ts : Terms). Out (r + length (encodes (subs θ ts)) + term_room) at₂ out₃ r out' at' o' (encodes ts) (encodes (mades rest θ ts)))
            → Promises₂ (Job arities vals starts src at k (length out) o) (λ (θ : ℕ → Term) (ts : Terms). Out (o + length (encodes (subs θ ts)) + term_room) at
            out o out'
            at' o' (encodes ts) (encodes (mades around θ ts)))
        op_done rest q out' at' o' N θ ts J =
            op_case arities vals starts src at k (length out) o y tag number next F more
            (λ ts. Out (o + length (encodes (subs θ ts)) + term_room) at out o out' at' o' (encodes ts) (encodes (mades around θ ts))) θ ts b J
            (λ args us c d J.
            let i = inner θ args us c d J in
            let x = C (mades tag θ args) i.built in
            let m = subst (λ (j : ℕ). Out (r + length (encodes (subs θ us)) + term_room) at₂ out₃ r out' at' o' (encodes us) (encodes (mades j θ us))) q
            (N θ us (after_job θ args us c d J)) in
            let w : ℕ = o + length (encodes (subs θ (app tag args & us))) + term_room in
            let l : w ≡ o + (length (encode (sub θ (app tag args))) + length (encodes (subs θ us))) + term_room =
            ap (λ (z : ℕ). o + z + term_room) (length-append (encode (sub θ (app tag args))) (encodes (subs θ us))) in
            let y = wrote_over (omega arith) (omega (arith, J.room)) i.wrote (widen w (omega (arith, i.ends, l)) x) in
            record {
              read = omega (arith, m.read, i.read, length-append (encode (app tag args)) (encodes us));
              wrote = wrote_then y (widen w (omega (arith, x.ends, i.smaller around, l)) m.wrote);
            })
