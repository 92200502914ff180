-- What the code that writes a fact is asked holds of a fact of a node whose values fit and whose filled-in terms are small enough.
use Rattle.std.specs.Prelude.{ℕ, ◌+◌, ◌*◌, ◌≤◌, ◌<◌, List, [], ◌∷◌, map, false, ◌≡◌, refl, length}
use Rattle.std.proofs.Common.{⊎_elim, inl, inr, arith, length-append}
use Rattle.octets.specs.Limits.{longest}
use Rattle.term.specs.Sizes.{most_symbols, term_room}
use Rattle.octets.specs.Head.{Bytes}
use Rattle.number.specs.Groups.{number_limit}
use Rattle.number.specs.Layout.{flat}
use Rattle.lists.specs.All.{All}
use Rattle.term.specs.Term.{variable, Term, leaf, encode, symbols, InRange, Occurss}
use Rattle.term.specs.Reader.{terms}
use Rattle.term.specs.Walk.{holds}
use Rattle.term.specs.Walk.Holds.{occurs_below}
use Rattle.message.specs.Substitution.{sub}
use Rattle.message.specs.Canon.{canon}
use Rattle.canonical.specs.Builtins.{Builtins}
use Rattle.canonical.specs.Size.{bytes_few}
use Rattle.canonical.specs.Loose.Laws.{sub_range}
use Rattle.canonical.specs.Contract.{Value}
use Rattle.protocol.specs.Protocol.{Fact, fact, leaf_in}
use Rattle.protocol.specs.Protocol.Limits.Parts.{TermWithin}
use Rattle.protocol.specs.Places.{Here}
use Rattle.prepared.specs.Sections.{prepared_length}
use Rattle.prepared.specs.Prepared.{slots_of, arities_of}
use Rattle.lists.specs.All.Laws.{all_at, none_all}
use Rattle.steps.specs.Facts.{value_at}
use Rattle.facts.specs.Writing.Places.{Placed, placed_value}
use Rattle.facts.specs.Writing.{FactJob, fact_room}
use Rattle.facts.specs.Writing.Whole.{fact_terms}

-- ── the variables of a fact's terms ──
all_below :
    (arities : List ℕ) (k v : ℕ) (ts : List Term) → All (TermWithin arities) ts → All (λ t. holds t 0 k number_limit ≡ false) ts
    → Occurss variable v (terms ts) → v < k
all_below arities k v [] a b o = absurd o
all_below arities k v (t ∷ ts) a b o =
    ⊎_elim (λ q. occurs_below variable t v k a.0.range b.0 q) (λ q. all_below arities k v ts a.1 b.1 q) o

-- ── the room that the terms take ──
filled_few :
    (arities : List ℕ) (θ : ℕ → Term) (ts : List Term) → All (TermWithin arities) ts → ((v : ℕ) → Occurss variable v (terms ts) → InRange (θ v))
    → All (λ t. symbols (sub θ t) ≤ most_symbols) ts → length (flat encode (map (sub θ) ts)) ≤ term_room * length ts
filled_few arities θ [] a h file = omega arith
filled_few arities θ (t ∷ ts) a h file =
    let b = bytes_few (sub θ t) (sub_range θ t a.0.range (λ v o. h v (inl o))) in
    let r = filled_few arities θ ts a.1 (λ v o. h v (inr o)) file.1 in
    omega (arith, b, r, file.0, length-append (encode (sub θ t)) (flat encode (map (sub θ) ts)))

-- ── the values stand at their places, each its own canonical form ──
pub record Valued (p s starts : List ℕ) (vs : List Term) : Type 0 where
  pub bytes : Bytes s
  pub short : length s ≤ longest
  pub placed : Placed s (slots_of p) starts vs
  pub own : All (λ t. canon t ≡ t) vs

-- a fact of no other variables, its terms small enough filled in
pub record Fillable (p : List ℕ) (place : ℕ) (vs : List Term) (f : Fact) : Type 0 where
  pub bytes : Bytes p
  pub long : length p ≡ prepared_length
  pub table : Builtins (slots_of p)
  pub here : Here (fact p (slots_of p) (arities_of p)) f place
  pub bound : leaf_in 0 (length vs) number_limit f ≡ false
  pub few : length f.terms ≤ 8
  pub small : All (λ t. symbols (sub (value_at vs) t) ≤ most_symbols) f.terms

module _ (p s starts : List ℕ) (place : ℕ) (vs : List Term) (f : Fact) (has : Valued p s starts vs) (fits : Fillable p place vs f) where
  within : All (TermWithin (slots_of p)) f.terms
  within = (fact_terms p (slots_of p) (arities_of p) place fits.bytes f fits.here).0

  value_of : (v : ℕ) → Occurss variable v (terms f.terms) → Value (slots_of p) s starts v (value_at vs v)
  value_of v o =
      placed_value s (slots_of p) starts vs has.bytes has.placed v
      (all_below (slots_of p) (length vs) v f.terms within (none_all (λ t. holds t 0 (length vs) number_limit) f.terms fits.bound) o)
      (all_at (λ t. canon t ≡ t) (leaf variable v) refl vs has.own v)

  pub fillable_job : (n o : ℕ) → o + fact_room ≤ n → n ≤ longest → FactJob p s starts place n o vs f
  fillable_job n o room short =
      let b = filled_few (slots_of p) (value_at vs) f.terms within (λ v q. (value_of v q).range) fits.small in
      record {
        long = fits.long;
        table = fits.table;
        here = fits.here;
        values = value_of;
        small = fits.small;
        few = omega (arith, b, fits.few);
        room = room;
        short = short;
        values_short = has.short;
      }
