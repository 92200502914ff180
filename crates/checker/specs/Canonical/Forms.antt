-- The canonical form of a term file's term: it may be asked for, it is short, and what becomes of the output.
use Rattle.std.specs.Prelude.{ℕ, ◌-◌, ◌≤◌, ◌<◌, List, [], ◌≡◌, refl, length, take}
use Rattle.std.proofs.Common.{append-nil, ap, sym, ◌∙◌, subst, arith}
use Rattle.term.specs.Sizes.{most_symbols}
use Rattle.lists.specs.Asks.{Asks, Asks₂, Promises}
use Rattle.lists.specs.Choice.{by_size}
use Rattle.octets.specs.Head.{Stands, stands_part, stands_within}
use Rattle.octets.specs.Splice.{splice}
use Rattle.term.specs.Term.{Term, encode, symbols}
use Rattle.term.specs.Term.Laws.{encode_some}
use Rattle.term.specs.Arity.{arity}
use Rattle.message.specs.Canon.{canon}
use Rattle.message.proofs.Theorems.{fewer_bytes}
use Rattle.canonical.specs.Builtins.{Builtins, declared, group}
use Rattle.canonical.specs.Contract.{MessageAt}
use Rattle.rewriting.specs.Table.{Ruling, passed, refused, Ruled}
use Rattle.rewriting.specs.Table.Laws.{passed_good}
use Rattle.checker.specs.Answer.{Written}
use Rattle.std.specs.Prelude.{Ok}
use Rattle.checker.specs.Answer.{written}
use Rattle.checker.specs.Files.{term_limit, term_rows}
use Rattle.checker.specs.Files.Laws.{IsSmall, term_ruled}
use Rattle.checker.specs.Files.Terms.{IsTerm, file_form}
use Rattle.checker.specs.Canonical.{need}
use Rattle.checker.specs.Answer.Judged.{judges_short, judges_written}
use Rattle.checker.specs.Canonical.Contracts.{Form, Formed}

small_enough : (n : ℕ) → (most_symbols < n → ⊥) → n ≤ most_symbols
small_enough n f = by_size most_symbols n (λ l. absurd (f l)) (λ l. l)

module _ (arities term free : List ℕ) (t : Term) (h : Form arities term free t) where
  read : IsSmall arities term t
  read =
      passed_good (IsSmall arities term) (term_rows arities term) t
      (subst (λ (r : Ruling Term). Ruled (term_rows arities term) (IsSmall arities term) r) h.is (term_ruled arities term))

  is_term : IsTerm arities term t
  is_term = file_form arities term h.bytes t read.reads.next read.reads.there

  table : Builtins arities
  table = subst Builtins (sym h.table) (declared free)

  -- the file holds a message
  message_at : MessageAt arities term 0 t
  message_at = record {
    table = table;
    formed = is_term.formed;
    is_ground = is_term.is_ground;
    range = is_term.range;
    rest = [];
    there = is_term.bytes ∙ sym (append-nil (encode t));
    small = small_enough (symbols t) (λ l. read.small.0 0 (refl, l));
    short = omega (arith, h.short);
  }

  -- its canonical form is no longer than the file
  form_bound : need t ≤ term_limit
  form_bound =
      omega (arith, h.short, ap length is_term.bytes, fewer_bytes (arity arities) (group arities table) t is_term.formed)

module _ (t : Term) (out : List ℕ) (r : ℕ) (stands : Stands out 0 (encode (canon t)) r) where
  form_length : r ≡ need t
  form_length = omega (arith, stands.ends)

  form_within : r ≤ length out
  form_within = stands_within stands (encode_some (canon t))

  form_bytes : take r out ≡ encode (canon t)
  form_bytes = ap (λ (k : ℕ). take k out) (let e : r ≡ r - 0 = omega arith in e) ∙ stands_part stands

  -- ── what becomes of the output ──
  pub formed_short : (output : List ℕ) (w : Written) → length output < r → written w ≡ refused 15 r → Formed t output output w
  formed_short output w h e =
      judges_short (λ t. encode (canon t)) (passed t) output w t refl (omega (arith, form_length)) (e ∙ ap {B = Ruling ℕ} (refused 15) form_length)

  pub formed_written : (output : List ℕ) → r ≤ length output → Formed t output (splice output 0 (take r out)) (Ok r)
  formed_written output h =
      subst (λ (bytes : List ℕ). Formed t output (splice output 0 bytes) (Ok r)) (sym form_bytes)
      (judges_written (λ t. encode (canon t)) (passed t) output (Ok r) t refl (omega (arith, form_length)) (ap {B = Ruling ℕ} passed form_length))

-- ── the form that was made of the file's term ──
module _ (arities term out : List ℕ) (r : ℕ) (made : Promises (MessageAt arities term 0) (λ (t : Term). Stands out 0 (encode (canon t)) r)) where
  pub form_stands : (free : List ℕ) (t : Term) → Form arities term free t → Stands out 0 (encode (canon t)) r
  form_stands free t h = made t (message_at arities term free t h)

  -- it is short, and within the room that it was made in
  pub form_fits : Asks₂ (Form arities term) → (r ≤ term_limit) × (r ≤ length out)
  form_fits (free, t, h) =
      let s = form_stands free t h in
      (omega (arith, form_length t out r s, form_bound arities term free t h), form_within t out r s)

pub message_asks : (arities term : List ℕ) → Asks₂ (Form arities term) → Asks (MessageAt arities term 0)
message_asks arities term (free, t, h) = (t, message_at arities term free t h)
