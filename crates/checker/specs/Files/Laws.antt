-- What the table says of each file: its rulings are ruled by its rows.
use Rattle.std.specs.Prelude.{ℕ, List, [], ◌∷◌, ◌≡◌, refl, true, ◌↔◌}
use Rattle.std.proofs.Common.{inl, inr, arith}
use Rattle.std.specs.Prelude.{Some}
use Rattle.term.specs.Sizes.{most_symbols}
use Rattle.lists.specs.Choice.{clash}
use Rattle.lists.specs.Tests.{true_false, not_true}
use Rattle.lists.specs.Lists.{nth}
use Rattle.lists.specs.All.Laws.{all_nth}
use Rattle.octets.specs.Head.{Bytes}
use Rattle.number.specs.Reading.{Read, got, fault}
use Rattle.term.specs.Term.{Term, symbols}
use Rattle.term.specs.Arity.{tag_arities}
use Rattle.rewriting.specs.Table.{Pass, Ruled, Absent}
use Rattle.rewriting.specs.Table.Laws.{ruled, ruled_and_then}
use Rattle.rewriting.specs.Table.Passes.{restated, least_pass, less_pass}
use Rattle.protocol.specs.Protocol.{Rule, Protocol, fact_arities, protocol}
use Rattle.protocol.specs.Protocol.Limits.{RuleWithin, Within}
use Rattle.protocol.specs.Protocol.Exact.{protocol_form}
use Rattle.rules.specs.Fit.{fits}
use Rattle.rules.specs.Fit.Meaning.{Fit}
use Rattle.rules.specs.Fit.Meaning.Laws.{fit_exactly}
use Rattle.checker.specs.Files.{protocol_item, term_item, layout, layout_rows, Unfit, fit_ruling, fit_rows, protocol_ruling}
use Rattle.checker.specs.Files.{protocol_rows, term_file, size_ruling, size_rows, term_ruling, term_rows}

-- what was read
pub record Reads {A : Type 0} (r : Read A) (x : A) : Type 0 where
  pub next : ℕ
  pub there : r ≡ got x next

pub layout_ruled : {A : Type 0} (item : ℕ) (r : Read A) → Ruled (layout_rows item r) (Reads r) (layout item r)
layout_ruled item (got x e) = inl (λ k h. let q = h.1 in clash (cc), (x, record { next = e; there = refl }, refl))
layout_ruled item fault = inr (item, record { here = (refl, refl); below = λ j l h. absurd (omega (arith, h.0)) }, refl)

-- ── the protocol ──
-- a protocol was read, and it is fit
pub record IsFit (file : List ℕ) (p : Protocol) : Type 0 where
  pub reads : Reads (protocol file) p
  pub fit : Absent (fit_rows p)

-- the test of P1 to P5 finds the rules that break one
module _ (p : Protocol) (within : Within p) where
  abbrev Limits : Rule → Type 0
  Limits = RuleWithin (tag_arities p.functions) (fact_arities p.symbols)

  pub decided : (k : ℕ) (r : Rule) → nth p.rules k ≡ Some r → (fits r ≡ true) ↔ Fit r
  decided k r h =
      fit_exactly (tag_arities p.functions) (fact_arities p.symbols) r (all_nth Limits p.rules within.rules k r h)

  abbrev fit_pass : Pass
  fit_pass = restated (least_pass 4 (λ k r. fits r) p.rules) (Unfit p.rules)
      (λ k h. record {
        which = h.which;
        stands = h.stands;
        not_fit = λ f. true_false (fits h.which) ((decided k h.which h.stands).1 f) h.is_false;
      })
      (λ k h. record {
        which = h.which;
        stands = h.stands;
        is_false = not_true (fits h.which) (λ t. h.not_fit ((decided k h.which h.stands).0 t));
      })

pub protocol_ruled : (file : List ℕ) → Bytes file → Ruled (protocol_rows file) (IsFit file) (protocol_ruling file)
protocol_ruled file bytes =
    ruled_and_then (Reads (protocol file)) (IsFit file) (layout_rows protocol_item (protocol file)) (layout protocol_item (protocol file)) fit_rows fit_ruling
    (layout_ruled protocol_item (protocol file))
    (λ p h e. ruled (IsFit file) (fit_pass p (protocol_form file bytes p h.next h.there).within ∷ []) p (λ a. record { reads = h; fit = a }))

-- ── the term ──
-- a term was read, and it is small enough
pub record IsSmall (arities file : List ℕ) (t : Term) : Type 0 where
  pub reads : Reads (term_file arities file) t
  pub small : Absent (size_rows t)

pub term_ruled : (arities file : List ℕ) → Ruled (term_rows arities file) (IsSmall arities file) (term_ruling arities file)
term_ruled arities file =
    ruled_and_then (Reads (term_file arities file)) (IsSmall arities file) (layout_rows term_item (term_file arities file))
    (layout term_item (term_file arities file)) size_rows
    size_ruling
    (layout_ruled term_item (term_file arities file))
    (λ t h e. ruled (IsSmall arities file) (less_pass 8 0 most_symbols (symbols t) ∷ []) t (λ a. record { reads = h; small = a }))
