-- One argument of a fact that stands at a place, with a node's values filled in.
use Rattle.std.specs.Prelude.{ℕ, zero, suc, ◌+◌, ◌≤◌, ◌<◌, List, [], ◌∷◌, ◌++◌, map, ◌≡◌, refl, length, get_or, drop}
use Rattle.std.proofs.Common.{append-nil, ⊎_elim, inl, inr, ap, sym, ◌∙◌, subst, arith, length-append}
use Rattle.std.proofs.lemmas.List.{length-map}
use Rattle.message.specs.Filled.{filleds}
use Rattle.lists.specs.Asks.{Asks₂, Promises₂}
use Rattle.term.specs.Sizes.{most_symbols, term_room}
use Rattle.octets.specs.Head.{Bytes}
use Rattle.octets.specs.Splice.Prefix.{Wrote, widen}
use Rattle.number.specs.Layout.{flat}
use Rattle.term.specs.Term.{variable, Term, nil, ◌&◌, encode, encodes, symbols, Formed, Occurs, Occurss, Terms}
use Rattle.term.specs.Arity.{arity}
use Rattle.term.specs.Reader.{terms}
use Rattle.term.specs.Reader.Exact.{term_form}
use Rattle.message.specs.Substitution.{sub, subs}
use Rattle.message.proofs.Theorems.{fewer_bytes}
use Rattle.message.specs.Canon.{canon}
use Rattle.canonical.specs.Builtins.{group}
use Rattle.canonical.specs.Contract.{Job, Out}
use Rattle.canonical.specs.Contract.Laws.{written_canons}
use Rattle.protocol.specs.Protocol.{Fact}
use Rattle.protocol.specs.Places.{term_place}
use Rattle.prepared.specs.Prepared.{slots_of, arities_of}
use Rattle.lists.specs.All.Laws.{all_inside, map_at}
use Rattle.steps.specs.Facts.{value_at, filled_fact}
use Rattle.steps.specs.Values.Parts.{no_term, term_there}
use Rattle.facts.specs.declared.writing.Wanted.TheVariants as want
use Rattle.facts.specs.Writing.{fact_room, FactJob, WantedJob, Put, wanted_bytes}
use Rattle.facts.specs.Writing.Whole.{job_formed}

-- ── a term of a list ──
occurs_at : (v j : ℕ) (ts : List Term) → j < length ts → Occurs variable v (get_or ts j no_term) → Occurss variable v (terms ts)
occurs_at v j [] l o = absurd (omega arith)
occurs_at v zero (t ∷ ts) l o = inl o
occurs_at v (suc j) (t ∷ ts) l o = inr (occurs_at v j ts (omega arith) o)

part_few :
    (θ : ℕ → Term) (j : ℕ) (ts : List Term) → j < length ts
    → length (encode (sub θ (get_or ts j no_term))) ≤ length (flat encode (map (sub θ) ts))
part_few θ j [] l = absurd (omega arith)
part_few θ zero (t ∷ ts) l = omega (arith, length-append (encode (sub θ t)) (flat encode (map (sub θ) ts)))
part_few θ (suc j) (t ∷ ts) l =
    let r = part_few θ j ts (omega arith) in
    omega (arith, r, length-append (encode (sub θ t)) (flat encode (map (sub θ) ts)))

module _ (p s starts : List ℕ) (place n o : ℕ) (bytes : Bytes p) (vs : List Term) (f : Fact) (J : FactJob p s starts place n o vs f) where
  argument_job :
      (x at : ℕ) → x < length f.terms → at ≡ term_place p (slots_of p) (arities_of p) place x
      → Job (slots_of p) s starts p at 1 n o (value_at vs) (get_or f.terms x no_term & nil)
  argument_job x at l ha =
      let t : Term = get_or f.terms x no_term in
      let (e, h) = term_there p (slots_of p) (arities_of p) bytes place f J.here x at l ha in
      let g = term_form p (slots_of p) bytes t at e h in
      let few = part_few (value_at vs) x f.terms l in
      let same = ap length (append-nil (encode (sub (value_at vs) t))) in
      record {
        table = J.table;
        many = refl;
        formed = (g.0.0, tt);
        range = (g.0.1, tt);
        rest = drop e p;
        there = g.1.there ∙ ap (λ (l : List ℕ). l ++ drop e p) (sym (append-nil (encode t)));
        values = λ v i. J.values v (occurs_at v x f.terms l (⊎_elim (λ q. q) (λ q. absurd q) i));
        small = (all_inside (λ t. symbols (sub (value_at vs) t) ≤ most_symbols) no_term f.terms J.small x l, tt);
        room = omega (arith, J.room, J.few, few, same);
        short = J.short;
        values_short = J.values_short;
      }

  argument_few : (x : ℕ) → x < length f.terms → length (encode (canon (get_or (filled_fact vs f).terms x no_term))) ≤ fact_room
  argument_few x l =
      let us : List Term = (filled_fact vs f).terms in
      let m : x < length us = omega (arith, length-map f.terms (sub (value_at vs))) in
      let b = fewer_bytes (arity (slots_of p)) (group (slots_of p) J.table) (get_or us x no_term)
      (all_inside (Formed (arity (slots_of p))) no_term us (job_formed p s starts place n o bytes vs f J) x m) in
      let c = part_few (value_at vs) x f.terms l in
      omega (arith, b, c, J.few, ap (λ (t : Term). length (encode t)) (sym (map_at (sub (value_at vs)) f.terms x no_term no_term l)))

module _ (p s starts : List ℕ) (place : ℕ) (bytes : Bytes p) (x at : ℕ) (ha : at ≡ term_place p (slots_of p) (arities_of p) place x) where
  pub argument_ready : (n o : ℕ) → Asks₂ (WantedJob p s starts place n o (want.One x)) → Asks₂ (Job (slots_of p) s starts p at 1 n o)
  argument_ready n o r = (
    value_at r.0,
    get_or r.1.terms x no_term & nil,
    argument_job p s starts place n o bytes r.0 r.1 r.2.job x at r.2.has ha,
  )

  pub argument_done :
      (out out' : List ℕ) (o at' o' : ℕ) → Promises₂ (Job (slots_of p) s starts p at 1 (length out) o)
      (λ (θ : ℕ → Term) (ts : Terms). Out (o + length (encodes (subs θ ts)) + term_room) at out o out' at' o' (encodes ts) (encodes (filleds θ ts)))
      → Promises₂ (WantedJob p s starts place (length out) o (want.One x))
      (λ (vs : List Term) (f : Fact). Put out o out' o' (wanted_bytes (want.One x) (filled_fact vs f)))
  argument_done out out' o at' o' done vs f w =
      let J = w.job in
      let l : x < length f.terms = w.has in
      let t : Term = get_or f.terms x no_term in
      let j = argument_job p s starts place (length out) o bytes vs f J x at l ha in
      let e : sub (value_at vs) t ≡ get_or (filled_fact vs f).terms x no_term = sym (map_at (sub (value_at vs)) f.terms x no_term no_term l) in
      record {
        wrote =
            widen (o + fact_room) (omega (arith, J.few, part_few (value_at vs) x f.terms l, ap length (append-nil (encode (sub (value_at vs) t)))))
            (subst (λ (q : List ℕ). Wrote (o + length (encodes (subs (value_at vs) (t & nil))) + term_room) out o out' o' q)
            (written_canons (slots_of p) s starts p at 1 (length out) o (value_at vs) (t & nil) j ∙ ap (λ (u : Term). encode (canon u) ++ []) e)
            (done (value_at vs) (t & nil) j).wrote);
        few =
            omega (
              arith,
              argument_few p s starts place (length out) o bytes vs f J x l,
              ap length (append-nil (encode (canon (get_or (filled_fact vs f).terms x no_term)))),
            );
      }
