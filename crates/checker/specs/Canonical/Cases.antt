-- Canonical form case by case, as the code goes: the outcome, and what is left in the output and the work area.
use Rattle.std.specs.Prelude.{ℕ, ◌≤◌, ◌<◌, ◌≡◌, length}
use mathlib.Core.List.{List, [], ◌∷◌}
use Rattle.std.proofs.Common.{ap, ap₂, sym, ◌∙◌}
use Rattle.octets.specs.Splice.{splice}
use Rattle.term.specs.Term.{Term}
use Rattle.term.specs.Arity.{tag_arities}
use Rattle.rewriting.specs.Table.{Ruling, passed, refused, Pass, and_then}
use Rattle.rewriting.specs.Table.Passes.{less_pass}
use Rattle.protocol.specs.Protocol.{Protocol}
use Rattle.checker.specs.Answer.{work_need, work_after, output_after}
use Rattle.checker.specs.Passing.{less_yes, less_no}
use Rattle.checker.specs.Files.{protocol_limit, term_limit, protocol_item, term_item, protocol_ruling, term_ruling}
use Rattle.checker.specs.Canonical.{term_of, need, room_ruling, canonical_outcome, form_of, canonical_output, canonical_work}

module _ (protocol term : List ℕ) (output work : ℕ) where
  abbrev Outcome : Ruling ℕ
  Outcome = canonical_outcome protocol term output work

  abbrev Files : Ruling ℕ
  Files = and_then (term_of protocol term) (room_ruling output)

  abbrev term_pass : Pass
  term_pass = less_pass 2 term_item term_limit (length term)

  abbrev protocol_pass : Pass
  protocol_pass = less_pass 2 protocol_item protocol_limit (length protocol)

  -- ── sizes ──
  pub work_short : work < work_need → Outcome ≡ refused 1 0
  unfolding canonical_outcome
  work_short h = less_yes 1 0 work work_need (protocol_pass ∷ term_pass ∷ []) Files h

  module _ (long : work_need ≤ work) where
    pub protocol_over : protocol_limit < length protocol → Outcome ≡ refused 2 protocol_item
    unfolding canonical_outcome
    protocol_over h = less_no 1 0 work work_need (protocol_pass ∷ term_pass ∷ []) Files long ∙ less_yes 2 protocol_item protocol_limit (length protocol)
        (term_pass ∷ []) Files h

    pub term_over : length protocol ≤ protocol_limit → term_limit < length term → Outcome ≡ refused 2 term_item
    unfolding canonical_outcome
    term_over p h =
        less_no 1 0 work work_need (protocol_pass ∷ term_pass ∷ []) Files long
        ∙ less_no 2 protocol_item protocol_limit (length protocol) (term_pass ∷ []) Files p
        ∙ less_yes 2 term_item term_limit (length term) [] Files h

    -- ── the files ──
    module _ (p : length protocol ≤ protocol_limit) (t : length term ≤ term_limit) where
      pub sized : Outcome ≡ Files
      unfolding canonical_outcome
      sized =
          less_no 1 0 work work_need (protocol_pass ∷ term_pass ∷ []) Files long
          ∙ less_no 2 protocol_item protocol_limit (length protocol) (term_pass ∷ []) Files p
          ∙ less_no 2 term_item term_limit (length term) [] Files t

      pub no_protocol : (n k : ℕ) → protocol_ruling protocol ≡ refused n k → Outcome ≡ refused n k
      no_protocol n k e =
          sized
          ∙ ap (λ (r : Ruling Protocol). and_then (and_then r (λ q. term_ruling (tag_arities q.functions) term)) (room_ruling output)) e

      module _ (q : Protocol) (fit : protocol_ruling protocol ≡ passed q) where
        under : term_of protocol term ≡ term_ruling (tag_arities q.functions) term
        under = ap (λ (r : Ruling Protocol). and_then r (λ q. term_ruling (tag_arities q.functions) term)) fit

        pub no_term : (n k : ℕ) → term_ruling (tag_arities q.functions) term ≡ refused n k → Outcome ≡ refused n k
        no_term n k e = sized ∙ ap (λ (r : Ruling Term). and_then r (room_ruling output)) (under ∙ e)

        -- ── the canonical form ──
        module _ (x : Term) (is : term_ruling (tag_arities q.functions) term ≡ passed x) where
          pub no_room : output < need x → Outcome ≡ refused 15 (need x)
          no_room h =
              sized
              ∙ ap (λ (r : Ruling Term). and_then r (room_ruling output)) (under ∙ is)
              ∙ less_yes 15 (need x) output (need x) [] (passed (need x)) h

          pub room : need x ≤ output → Outcome ≡ passed (need x)
          room h =
              sized
              ∙ ap (λ (r : Ruling Term). and_then r (room_ruling output)) (under ∙ is)
              ∙ less_no 15 (need x) output (need x) [] (passed (need x)) h

-- ── lent memory ──
-- a refusal leaves the output
pub output_kept :
    (protocol term output : List ℕ) (work n k : ℕ) → canonical_outcome protocol term (length output) work ≡ refused n k
    → output ≡ canonical_output protocol term output work
unfolding canonical_output
output_kept protocol term output work n k e = sym (ap (λ (r : Ruling ℕ). output_after r (form_of (term_of protocol term)) output) e)

pub output_written :
    (protocol term output bytes : List ℕ) (work n : ℕ) → canonical_outcome protocol term (length output) work ≡ passed n
    → form_of (term_of protocol term) ≡ bytes → splice output 0 bytes ≡ canonical_output protocol term output work
unfolding canonical_output
output_written protocol term output bytes work n e f =
    sym (ap₂ (λ (r : Ruling ℕ) (b : List ℕ). output_after r b output) e f)

-- refusal 1 leaves the work area, every other answer leaves zeros
pub work_kept :
    (protocol term work : List ℕ) (output : ℕ) → length work < work_need → work ≡ canonical_work protocol term output work
unfolding canonical_work
work_kept protocol term work output h =
    sym (ap (λ (r : Ruling ℕ). work_after r work) (work_short protocol term output (length work) h))
