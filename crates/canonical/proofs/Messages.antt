-- One message: its canonical form in a buffer, and what the comparisons decide.
use Prim.Native.Nat.{ℕ, ◌+◌, ◌-◌, ◌≤◌}
use mathlib.Core.List.{List, ◌++◌, append-nil}
use mathlib.Core.Path.{◌≡◌, refl, ap, sym, ◌∙◌}
use mathlib.Core.Logic.{◌↔◌, ⊎_elim}
use mathlib.Core.Bool.{Bool, true}
use native.Mathlib.Omega.{arith}
use lib.ListN.{length, take, drop}
use lib.Seq.{length-take-le}
use Rattle.term.specs.Sizes.{term_room}
use Rattle.lists.specs.Asks.{Asks, Asks₂, Promises, Promises₂}
use Rattle.octets.specs.Compare.{compare_bytes, is_equal}
use Rattle.octets.specs.Compare.Laws.{compare_refl}
use Rattle.octets.specs.Head.{stands_within, stands_part, Stands}
use Rattle.octets.specs.Limits.{longest}
use Rattle.octets.specs.Splice.Prefix.{wrote_there}
use Rattle.term.specs.Term.{variable, Term, leaf, nil, ◌&◌, encode, encodes, Formed, Terms}
use Rattle.term.specs.Term.Laws.{encode_some}
use Rattle.term.specs.Arity.{arity}
use Rattle.message.specs.Substitution.{Ground, subs}
use Rattle.message.specs.Substitution.Laws.{sub_same}
use Rattle.message.specs.Canon.{canon}
use Rattle.message.proofs.Theorems.{canon_is_formed}
use Rattle.message.specs.Filled.{filled, filleds}
use Rattle.message.specs.Filled.Laws.{filled_canon}
use Rattle.canonical.specs.Builtins.{group}
use Rattle.canonical.specs.Size.{bytes_few}
use Rattle.canonical.specs.Contract.{Job, MessageAt, Out, form_room}
use Rattle.canonical.proofs.Parts.{same_term}

-- ── no variable stands in a message ──
filled_message : (t : Term) → Ground t → filled (leaf variable) t ≡ canon t
filled_message t g = filled_canon (leaf variable) t (λ v o. absurd (g v o)) ∙ ap canon (sub_same t)

-- ── its canonical form ──
module _ (arities src starts : List ℕ) (at : ℕ) where
  message_job : (t : Term) → MessageAt arities src at t → (n : ℕ) → form_room ≤ n → n ≤ longest → Job arities src starts src at 1 n 0 (leaf variable) (t & nil)
  message_job t m n l h = record {
    table = m.table;
    many = refl;
    formed = (m.formed, tt);
    range = (m.range, tt);
    rest = m.rest;
    there = m.there ∙ ap (λ (z : List ℕ). z ++ m.rest) (sym (append-nil (encode t)));
    values = λ v o. absurd (⊎_elim (m.is_ground v) (λ a. a) o);
    small = (rw (sub_same t) m.small, tt);
    room = let k = m.small in rw (sub_same t, append-nil (encode t)) (omega (arith, bytes_few t m.range, k));
    short = h;
    values_short = m.short;
  }

  pub message_ready : Asks (MessageAt arities src at) → (n : ℕ) → form_room ≤ n → n ≤ longest → Asks₂ (Job arities src starts src at 1 n 0)
  message_ready (t, m) n l h = (leaf variable, (t & nil), message_job t m n l h)

  pub message_canon :
      (out out' : List ℕ) (at' r : ℕ) → form_room ≤ length out → length out ≤ longest → Promises₂ (Job arities src starts src at 1 (length out) 0)
      (λ (θ : ℕ → Term) (ts : Terms). Out (0 + length (encodes (subs θ ts)) + term_room) at out 0 out' at' r (encodes ts) (encodes (filleds θ ts))) → Promises
      (MessageAt arities src at) (λ (t : Term). Stands out' 0 (encode (canon t)) r)
  message_canon out out' at' r l h D t m =
      let w = (D (leaf variable) (t & nil) (message_job t m (length out) l h)).wrote in
      let q : encodes (filleds (leaf variable) (t & nil)) ≡ encode (canon t) =
      append-nil (encode (filled (leaf variable) t)) ∙ ap encode (filled_message t m.is_ground) in
      record {
        ends = w.ends ∙ ap (λ (z : List ℕ). 0 + length z) q;
        there = wrote_there (omega arith) w ∙ ap (λ (z : List ℕ). z ++ drop r out') q;
      }

-- ── what a comparison decides ──
same_exactly :
    (arities : List ℕ) (x y : Term) (b : Bool) → Formed (arity arities) x → Formed (arity arities) y → b ≡ is_equal (compare_bytes (encode x) (encode y))
    → (b ≡ true) ↔ (x ≡ y)
same_exactly arities x y b v w e = (
  λ h. same_term arities x y v w (sym e ∙ h),
  λ h. e ∙ ap (λ (z : Term). is_equal (compare_bytes (encode x) (encode z))) (sym h) ∙ ap is_equal (compare_refl (encode x)),
)

pub decides_canonical :
    (arities src : List ℕ) (at : ℕ) (t : Term) (b : Bool) → MessageAt arities src at t → b ≡ is_equal (compare_bytes (encode (canon t)) (encode t))
    → (b ≡ true) ↔ (canon t ≡ t)
decides_canonical arities src at t b m e =
    same_exactly arities (canon t) t b (canon_is_formed (arity arities) (group arities m.table) t m.formed) m.formed e

-- ── the buffer's bytes ──
module _ (arities src : List ℕ) (at : ℕ) (out : List ℕ) (r : ℕ) (C : Promises (MessageAt arities src at) (λ (t : Term). Stands out 0 (encode (canon t)) r))
  where
    pub canon_within : Asks (MessageAt arities src at) → r ≤ length out
    canon_within (t, m) = stands_within (C t m) (encode_some (canon t))

    pub canon_long : Asks (MessageAt arities src at) → r ≡ length (take r out)
    canon_long m = sym (length-take-le r out (canon_within m))

    pub canon_part : (t : Term) → MessageAt arities src at t → take r out ≡ encode (canon t)
    canon_part t m =
        let e : r ≡ r - 0 = omega arith in
        ap (λ (k : ℕ). take k out) e ∙ stands_part (C t m)
