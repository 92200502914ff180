-- All arguments of a fact that stands at a place, with a node's values filled in.
use Rattle.std.specs.Prelude.{ℕ, ◌+◌, ◌≤◌, ◌<◌, List, [], ◌∷◌, ◌++◌, map, ◌≡◌, refl, length, get_or, drop}
use Rattle.std.proofs.Common.{inl, inr, sym, ◌∙◌, subst, subst₂, arith, length-append}
use Rattle.std.proofs.Math.Path.{ap}
use Rattle.message.specs.Filled.{filleds}
use Rattle.lists.specs.Asks.{Asks₂, Promises₂}
use Rattle.term.specs.Sizes.{most_symbols, term_room}
use Rattle.octets.specs.Head.{Bytes, Stands}
use Rattle.octets.specs.Splice.Prefix.{Wrote, widen}
use Rattle.number.specs.Reading.{Read, and_then, below, many}
use Rattle.number.specs.Layout.{flat}
use Rattle.lists.specs.All.{All}
use Rattle.number.specs.Layout.Laws.{many_form}
use Rattle.term.specs.Term.{variable, Term, encode, encodes, symbols, Formed, Formeds, InRanges, Occurss, Terms}
use Rattle.term.specs.Arity.{arity}
use Rattle.term.specs.Reader.{terms}
use Rattle.term.specs.Reader.Exact.{encodes_terms, count_terms}
use Rattle.message.specs.Substitution.{sub, subs}
use Rattle.message.specs.Substitution.Laws.{sub_formed}
use Rattle.message.proofs.Theorems.{fewer_bytes}
use Rattle.message.specs.Parts.Entries.{Each}
use Rattle.message.specs.Canon.{canon, canons}
use Rattle.canonical.specs.Builtins.{Builtins, group}
use Rattle.canonical.specs.Contract.{Job, Out}
use Rattle.canonical.specs.Contract.Laws.{written_canons}
use Rattle.protocol.specs.Protocol.{Fact, rule_term, fact}
use Rattle.protocol.specs.Protocol.Limits.Parts.{TermWithin}
use Rattle.protocol.specs.Protocol.Exact.{rule_term_exact}
use Rattle.protocol.specs.Places.{place_of, value_of, Here, term_place}
use Rattle.protocol.specs.Places.Laws.{fact_fields}
use Rattle.protocol.specs.Figures.{symbol_count}
use Rattle.prepared.specs.Prepared.{slots_of, arities_of}
use Rattle.prepared.specs.Prepared.Laws.{arities_length}
use Rattle.steps.specs.Facts.{value_at, filled_fact}
use Rattle.steps.specs.Facts.Bytes.{canon_bytes}
use Rattle.steps.specs.Values.Parts.{symbol_inside, terms_many}
use Rattle.facts.specs.declared.writing.Wanted.{Wanted}
use Rattle.facts.specs.declared.writing.Wanted.TheVariants as want
use Rattle.facts.specs.Writing.{fact_room, FactJob, WantedJob, Put, wanted_bytes}

-- ── the two kinds of lists of terms ──
filled_bytes : (θ : ℕ → Term) (ts : List Term) → encodes (subs θ (terms ts)) ≡ flat encode (map (sub θ) ts)
filled_bytes θ [] = refl
filled_bytes θ (t ∷ ts) = ap (λ (l : List ℕ). encode (sub θ t) ++ l) (filled_bytes θ ts)

canonical_bytes : (θ : ℕ → Term) (ts : List Term) → encodes (canons (subs θ (terms ts))) ≡ canon_bytes (map (sub θ) ts)
canonical_bytes θ [] = refl
canonical_bytes θ (t ∷ ts) = ap (λ (l : List ℕ). encode (canon (sub θ t)) ++ l) (canonical_bytes θ ts)

each_terms : (P : Term → Type 0) (ts : List Term) → All P ts → Each P (terms ts)
each_terms P [] a = tt
each_terms P (t ∷ ts) a = (a.0, each_terms P ts a.1)

terms_good : (arities : List ℕ) (ts : List Term) → All (TermWithin arities) ts → Formeds (arity arities) (terms ts) × InRanges (terms ts)
terms_good arities [] a = (tt, tt)
terms_good arities (t ∷ ts) a = let r = terms_good arities ts a.1 in ((a.0.formed, r.0), (a.0.range, r.1))

-- ── the terms of a fact that stands at a place ──
pub fact_terms :
    (src arities ars : List ℕ) (place : ℕ) (bytes : Bytes src) (f : Fact) (h : Here (fact src arities ars) f place)
    → All (TermWithin arities) f.terms × Stands src (fact_fields src arities ars place f h).behind (flat encode f.terms) h.next
fact_terms src arities ars place bytes f h =
    let x = fact_fields src arities ars place f h in
    let m = many_form src (rule_term src arities) (TermWithin arities) encode (rule_term_exact src bytes arities).form
    (get_or ars f.symbol 0) f.terms x.behind h.next x.terms in
    (m.0.1, m.1)

-- ── canonical forms take no more room ──
pub filled_formed :
    (arities : List ℕ) (θ : ℕ → Term) (ts : List Term) → All (TermWithin arities) ts → ((v : ℕ) → Occurss variable v (terms ts) → Formed (arity arities) (θ v))
    → All (Formed (arity arities)) (map (sub θ) ts)
filled_formed arities θ [] a h = tt
filled_formed arities θ (t ∷ ts) a h =
    (sub_formed (arity arities) θ t a.0.formed (λ v o. h v (inl o)), filled_formed arities θ ts a.1 (λ v o. h v (inr o)))

canon_few : (arities : List ℕ) → Builtins arities → (ts : List Term) → All (Formed (arity arities)) ts → length (canon_bytes ts) ≤ length (flat encode ts)
canon_few arities table [] a = omega arith
canon_few arities table (t ∷ ts) a =
    let b = fewer_bytes (arity arities) (group arities table) t a.0 in
    let r = canon_few arities table ts a.1 in
    omega (arith, b, r, length-append (encode t) (flat encode ts), length-append (encode (canon t)) (canon_bytes ts))

-- ── a fact's arguments are k terms at the place of the first ──
module _ (p s starts : List ℕ) (place n o : ℕ) (bytes : Bytes p) (vs : List Term) (f : Fact) (J : FactJob p s starts place n o vs f) where
  first_place : term_place p (slots_of p) (arities_of p) place 0 ≡ (fact_fields p (slots_of p) (arities_of p) place f J.here).behind
  unfolding term_place many
  first_place =
      ap (λ (r : Read ℕ). place_of (and_then r (λ y e. many (rule_term p (slots_of p)) 0 e))) (fact_fields p (slots_of p) (arities_of p) place f J.here).symbol

  pub symbol_listed : (y : ℕ) → y ≡ value_of (below p (length (arities_of p)) place) → y < symbol_count
  symbol_listed y hy =
      omega (arith, hy, symbol_inside p (slots_of p) (arities_of p) bytes place f J.here, arities_length p (omega (arith, J.long)))

  pub fact_job :
      (y at k : ℕ) → y ≡ value_of (below p (length (arities_of p)) place) → k ≡ get_or (arities_of p) y 0 → at ≡ term_place p (slots_of p) (arities_of p) place 0
      → Job (slots_of p) s starts p at k n o (value_at vs) (terms f.terms)
  fact_job y at k hy hk ha =
      let m = fact_terms p (slots_of p) (arities_of p) place bytes f J.here in
      let g = terms_good (slots_of p) f.terms m.0 in
      record {
        table = J.table;
        many = count_terms f.terms ∙ sym (terms_many p (slots_of p) (arities_of p) bytes place f J.here y hy) ∙ sym hk;
        formed = g.0;
        range = g.1;
        rest = drop J.here.next p;
        there =
            ap (λ (i : ℕ). drop i p) (ha ∙ first_place) ∙ m.1.there
            ∙ ap (λ (l : List ℕ). l ++ drop J.here.next p) (sym (encodes_terms f.terms));
        values = J.values;
        small = each_terms (λ t. symbols (sub (value_at vs) t) ≤ most_symbols) f.terms J.small;
        room = omega (arith, J.room, J.few, ap length (filled_bytes (value_at vs) f.terms));
        short = J.short;
        values_short = J.values_short;
      }

  pub job_formed : All (Formed (arity (slots_of p))) (filled_fact vs f).terms
  job_formed =
      filled_formed (slots_of p) (value_at vs) f.terms (fact_terms p (slots_of p) (arities_of p) place bytes f J.here).0 (λ v i. (J.values v i).formed)

  fact_few : length (canon_bytes (filled_fact vs f).terms) ≤ fact_room
  fact_few = omega (arith, J.few, canon_few (slots_of p) J.table (filled_fact vs f).terms job_formed)

module _ (p s starts : List ℕ) (place : ℕ) (bytes : Bytes p) (y at k : ℕ) (hy : y ≡ value_of (below p (length (arities_of p)) place))
    (hk : k ≡ get_or (arities_of p) y 0) (ha : at ≡ term_place p (slots_of p) (arities_of p) place 0) where
  pub fact_ready : (q : Wanted) (n o : ℕ) → Asks₂ (WantedJob p s starts place n o q) → Asks₂ (Job (slots_of p) s starts p at k n o)
  fact_ready q n o r = (value_at r.0, terms r.1.terms, fact_job p s starts place n o bytes r.0 r.1 r.2.job y at k hy hk ha)

  pub fact_done :
      (out out' : List ℕ) (o at' o' : ℕ) → Promises₂ (Job (slots_of p) s starts p at k (length out) o)
      (λ (θ : ℕ → Term) (ts : Terms). Out (o + length (encodes (subs θ ts)) + term_room) at out o out' at' o' (encodes ts) (encodes (filleds θ ts)))
      → Promises₂ (WantedJob p s starts place (length out) o want.All)
      (λ (vs : List Term) (f : Fact). Put out o out' o' (wanted_bytes want.All (filled_fact vs f)))
  fact_done out out' o at' o' done vs f w =
      let J = w.job in
      let j = fact_job p s starts place (length out) o bytes vs f J y at k hy hk ha in
      record {
        wrote =
            widen (o + fact_room) (omega (arith, J.few))
            (subst₂ (λ (l q : List ℕ). Wrote (o + length l + term_room) out o out' o' q) (filled_bytes (value_at vs) f.terms)
            (written_canons (slots_of p) s starts p at k (length out) o (value_at vs) (terms f.terms) j ∙ canonical_bytes (value_at vs) f.terms)
            (done (value_at vs) (terms f.terms) j).wrote);
        few = fact_few p s starts place (length out) o bytes vs f J;
      }

  -- as it stands
  pub plain_done :
      (out out' : List ℕ) (o at' o' : ℕ) → Promises₂ (Job (slots_of p) s starts p at k (length out) o)
      (λ (θ : ℕ → Term) (ts : Terms). Out o' at out o out' at' o' (encodes ts) (encodes (subs θ ts)))
      → Promises₂ (WantedJob p s starts place (length out) o want.Plain)
      (λ (vs : List Term) (f : Fact). Put out o out' o' (wanted_bytes want.Plain (filled_fact vs f)))
  plain_done out out' o at' o' done vs f w =
      let J = w.job in
      let d = subst (λ (q : List ℕ). Wrote o' out o out' o' q) (filled_bytes (value_at vs) f.terms)
      (done (value_at vs) (terms f.terms) (fact_job p s starts place (length out) o bytes vs f J y at k hy hk ha)).wrote in
      record { wrote = widen (o + fact_room) (omega (arith, J.few, d.ends)) d; few = omega (arith, J.few) }

-- ── by what is wanted ──
module _ (p s starts : List ℕ) (place : ℕ) (v w : Wanted) (same : v ≡ w) where
  pub ready_as : (n o : ℕ) → Asks₂ (WantedJob p s starts place n o v) → Asks₂ (WantedJob p s starts place n o w)
  ready_as n o h = subst (λ (q : Wanted). (Asks₂ (WantedJob p s starts place n o q))) same h

  pub done_as :
      (out out' : List ℕ) (o o' : ℕ) → Promises₂ (WantedJob p s starts place (length out) o w)
      (λ (vs : List Term) (f : Fact). Put out o out' o' (wanted_bytes w (filled_fact vs f)))
      → Promises₂ (WantedJob p s starts place (length out) o v) (λ (vs : List Term) (f : Fact). Put out o out' o' (wanted_bytes v (filled_fact vs f)))
  done_as out out' o o' h = subst (λ (q : Wanted). (Promises₂ (WantedJob p s starts place (length out) o q)
      (λ (vs : List Term) (f : Fact). Put out o out' o' (wanted_bytes q (filled_fact vs f))))) (sym same) h
