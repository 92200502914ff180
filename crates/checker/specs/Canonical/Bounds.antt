-- The outcome's figures are small, whatever the files: the packed answer of the C function comes apart into the outcome.
use Rattle.std.specs.Prelude.{ℕ, ◌≤◌, List, ◌≡◌, refl, length}
use Rattle.std.proofs.Common.{ap, sym, ◌∙◌, subst, arith}
use Rattle.lists.specs.Choice.{by_size, clash}
use Rattle.octets.specs.Head.{Bytes}
use Rattle.number.specs.Reading.{Read, got, fault}
use Rattle.term.specs.Term.{Term}
use Rattle.term.specs.Arity.{arity, tag_arities}
use Rattle.message.proofs.Theorems.{fewer_bytes, declared}
use Rattle.rewriting.specs.Table.{Ruling, passed, and_then}
use Rattle.protocol.specs.Protocol.{Protocol}
use Rattle.protocol.specs.Protocol as files
use Rattle.rules.specs.Fit.{Verdict, sound, broken, malformed, judged}
use Rattle.rules.specs.Fit.Meaning.Verdicts.{broken_place}
use Rattle.checker.specs.Answer.{work_need, packed}
use Rattle.checker.specs.Answer.Laws.{unpacked, InBounds, unpacked_packed}
use Rattle.checker.specs.Files.{protocol_limit, term_limit, protocol_ruling, term_ruling}
use Rattle.checker.specs.Files.Verdict.{ruled_malformed, ruled_broken, ruled_sound}
use Rattle.checker.specs.Canonical.{term_of, need, canonical_outcome}
use Rattle.checker.specs.Canonical.Cases.{work_short, protocol_over, term_over, no_protocol, no_term, no_room, room}
use Rattle.checker.specs.Canonical.Files.{taken}
use Rattle.checker.specs.Canonical.Inside.{View, is_small, is_layout, is_large, view}

module _ (protocol term : List ℕ) (bytes : Bytes protocol) (term_bytes : Bytes term) (output work : ℕ) where
  abbrev Outcome : Ruling ℕ
  Outcome = canonical_outcome protocol term output work

  by : {r : Ruling ℕ} → Outcome ≡ r → InBounds r → InBounds Outcome
  by e b = subst InBounds (sym e) b

  small_need : (t : Term) → length term ≤ term_limit → term_of protocol term ≡ passed t → need t ≤ term_limit
  small_need t l e =
      let f = taken protocol term bytes term_bytes t e in
      let s = tag_arities f.is.functions in
      omega (arith, ap length f.file.bytes, fewer_bytes (arity s) (declared f.is.functions) t f.file.formed)

  module _ (long : work_need ≤ work) (p : length protocol ≤ protocol_limit) (t : length term ≤ term_limit) where
    of_term : (q : Protocol) → protocol_ruling protocol ≡ passed q → View (term_ruling (tag_arities q.functions) term) → InBounds Outcome
    of_term q fit (is_small x e) =
        let o : term_of protocol term ≡ passed x = ap (λ (r : Ruling Protocol). and_then r (λ q. term_ruling (tag_arities q.functions) term)) fit ∙ e in
        let n = small_need x t o in
        by_size output (need x)
        (λ l. by (no_room protocol term output work long p t q fit x e l) (omega arith, omega arith))
        (λ l. by (room protocol term output work long p t q fit x e l) (omega arith))
    of_term q fit (is_layout e) = by (no_term protocol term output work long p t q fit 3 4 e) (omega arith, omega arith)
    of_term q fit (is_large e) = by (no_term protocol term output work long p t q fit 8 0 e) (omega arith, omega arith)

    of_verdict : (v : Verdict) → judged (files.protocol protocol) ≡ v → InBounds Outcome
    of_verdict sound h = of_sound (files.protocol protocol) refl
      where
        of_sound : (r : Read Protocol) → files.protocol protocol ≡ r → InBounds Outcome
        of_sound (got q e) i = of_term q (ruled_sound protocol q e i h) (view (tag_arities q.functions) term)
        of_sound fault i = let z : malformed ≡ sound = sym (ap judged i) ∙ h in clash (cc)
    of_verdict (broken k) h =
        let l = broken_place protocol bytes k h in
        by (no_protocol protocol term output work long p t 4 k (ruled_broken protocol k h)) (omega arith, omega (arith, l.small))
    of_verdict malformed h = by (no_protocol protocol term output work long p t 3 1 (ruled_malformed protocol h)) (omega arith, omega arith)

  pub canonical_bounded : InBounds Outcome
  canonical_bounded =
      by_size work work_need
      (λ l. by (work_short protocol term output work l) (omega arith, omega arith))
      (λ long. by_size protocol_limit (length protocol)
      (λ l. by (protocol_over protocol term output work long l) (omega arith, omega arith))
      (λ p. by_size term_limit (length term)
      (λ l. by (term_over protocol term output work long p l) (omega arith, omega arith))
      (λ t. of_verdict long p t (judged (files.protocol protocol)) refl)))

  -- the answer of the C function tells the outcome
  pub canonical_unpacked : unpacked (packed Outcome) ≡ Outcome
  canonical_unpacked = unpacked_packed Outcome canonical_bounded
