-- No term of 256 symbols takes more than 1,024 bytes, since functions have at most four arguments. So a longer term file is refused with 3 or 8,
-- though it is within "1,280 bytes", and so much output is enough for every canonical form.
use Rattle.std.specs.Prelude.{ℕ, ◌*◌, ◌≤◌, ◌<◌, List, ◌⊎◌, ◌≡◌, length}
use Rattle.std.proofs.Common.{inl, inr, ap, ◌∙◌, arith}
use Rattle.lists.specs.All.Laws.{all_map}
use Rattle.octets.specs.Head.{Bytes}
use Rattle.number.specs.Groups.{most_groups}
use Rattle.term.specs.Term.{Term, symbols}
use Rattle.term.specs.Arity.{arity, tag_arities}
use Rattle.term.specs.Arity.Laws.{tag_few, arity_most}
use Rattle.term.specs.Sizes.{most_symbols}
use Rattle.message.proofs.Theorems.{fewer_bytes, declared}
use Rattle.canonical.specs.Size.{bytes_most}
use Rattle.rewriting.specs.Table.{Ruling, passed, refused, and_then}
use Rattle.protocol.specs.Figures.{most_arity}
use Rattle.protocol.specs.Protocol.{Protocol}
use Rattle.protocol.specs.Protocol.Limits.{Within}
use Rattle.checker.specs.Answer.{work_need}
use Rattle.checker.specs.Files.{term_limit, term_item, term_ruling}
use Rattle.checker.specs.Files.Fit.{FitFile, fit_within, fit_passed, is_fit_file}
use Rattle.checker.specs.Files.Terms.{IsTerm}
use Rattle.checker.specs.Canonical.{need, canonical_outcome}
use Rattle.checker.specs.Canonical.Back.{canonical_back}
use Rattle.checker.specs.Canonical.Cases.{no_term}
use Rattle.checker.specs.Canonical.Files.{taken}
use Rattle.checker.specs.Canonical.Inside.{View, is_small, is_layout, is_large, view}

-- four bytes a symbol
abbrev pub most_bytes : ℕ
most_bytes = most_groups * most_symbols

pub term_short :
    (p : Protocol) → Within p → (term : List ℕ) (t : Term) → IsTerm (tag_arities p.functions) term t → symbols t ≤ most_symbols
    → length term ≤ most_bytes
term_short p within term t is small =
    let fs = p.functions in
    omega (
      arith,
      ap length is.bytes,
      bytes_most (arity (tag_arities fs)) (λ f n e. omega (arith, tag_few fs f n e))
          (arity_most most_arity (omega arith) fs (all_map _ _ (λ a l. omega arith) fs within.arities)) t is.formed is.range small,
    )

module _ (protocol term : List ℕ) (bytes : Bytes protocol) (term_bytes : Bytes term) (p : Protocol) (fit : FitFile protocol p) (output work : ℕ)
    (long : work_need ≤ work) where
  -- a term that is read and small enough is written, where the output has 1,024 bytes
  pub output_enough :
      (t : Term) → IsTerm (tag_arities p.functions) term t → symbols t ≤ most_symbols → most_bytes ≤ output
      → canonical_outcome protocol term output work ≡ passed (need t)
  output_enough t is small room =
      let short = term_short p (fit_within protocol bytes p fit) term t is small in
      let fewer = fewer_bytes (arity (tag_arities p.functions)) (declared p.functions) t is.formed in
      canonical_back protocol term bytes term_bytes p fit t is small (omega (arith, short)) output work long
      (omega (arith, fewer, short, ap length is.bytes))

  -- a longer file holds none
  module _ (over : most_bytes < length term) (within : length term ≤ term_limit) where
    abbrev Refused : Type 0
    Refused = (canonical_outcome protocol term output work ≡ refused 3 term_item) ⊎ (canonical_outcome protocol term output work ≡ refused 8 0)

    by_view : View (term_ruling (tag_arities p.functions) term) → Refused
    by_view (is_small t e) =
        let passes = fit_passed protocol bytes p fit in
        let c = taken protocol term bytes term_bytes t
        (ap (λ (r : Ruling Protocol). and_then r (λ q. term_ruling (tag_arities q.functions) term)) passes ∙ e) in
        let k = is_fit_file protocol bytes c.is fit.short c.fit in
        absurd (omega (arith, term_short c.is (fit_within protocol bytes c.is k) term t c.file c.small))
    by_view (is_layout e) =
        inl (no_term protocol term output work long fit.short within p (fit_passed protocol bytes p fit) 3 term_item e)
    by_view (is_large e) =
        inr (no_term protocol term output work long fit.short within p (fit_passed protocol bytes p fit) 8 0 e)

    pub long_refused : Refused
    long_refused = by_view (view (tag_arities p.functions) term)
