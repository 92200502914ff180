-- "A protocol .. is fit when causes 2 to 5 are absent from it": of a protocol file these are 2, 3 and 4.
use Rattle.std.specs.Prelude.{ℕ, ◌≤◌, ◌<◌, List, ◌∷◌, ◌++◌, ◌↔◌, ◌≡◌, refl, length}
use Rattle.std.proofs.Common.{ap, sym, subst, ◌∙◌, arith}
use Rattle.lists.specs.Choice.{clash, by_size}
use Rattle.lists.specs.Tests.{by_bool, true_false}
use Rattle.lists.specs.All.{All}
use Rattle.lists.specs.All.Laws.{all_nth, nth_all}
use Rattle.octets.specs.Head.{Bytes}
use Rattle.number.specs.Reading.{Read, got, fault}
use Rattle.rewriting.specs.Table.{Row, passed, fixed_row, Absent, rows_after}
use Rattle.rewriting.specs.Table.Laws.{absent_passed}
use Rattle.protocol.specs.Protocol.{Protocol, protocol}
use Rattle.protocol.specs.Protocol.Limits.{Within}
use Rattle.protocol.specs.Protocol.Exact.{protocol_form}
use Rattle.rules.specs.Fit.{fits}
use Rattle.rules.specs.Fit.Meaning.{Fit}
use Rattle.checker.specs.Files.{protocol_limit, protocol_item, layout, layout_rows, fit_rows, protocol_ruling, protocol_rows}
use Rattle.checker.specs.Files.Laws.{IsFit, decided, protocol_ruled}

-- the file holds the protocol p, which keeps to the limits and to P1 to P5
pub record FitFile (file : List ℕ) (p : Protocol) : Type 0 where
  pub short : length file ≤ protocol_limit
  pub reads : protocol file ≡ got p (length file)
  pub each : All Fit p.rules

-- 2, 3 and 4
abbrev pub fit_file_rows : List ℕ → List Row
fit_file_rows file = fixed_row 2 protocol_item (protocol_limit < length file) ∷ protocol_rows file

-- ── the rows say just this ──
-- 4 is absent just where P1 to P5 hold of every rule
fit_absent : (p : Protocol) → All Fit p.rules → Absent (fit_rows p)
fit_absent p all = ((λ k h. h.not_fit (all_nth Fit p.rules all k h.which h.stands)), tt)

absent_fit : (p : Protocol) → Within p → Absent (fit_rows p) → All Fit p.rules
absent_fit p within a =
    nth_all Fit p.rules (λ k r e.
    by_bool (fits r)
    (λ t. (decided p within k r e).0 t)
    (λ n. absurd (a.0 k (record { which = r; stands = e; not_fit = λ f. true_false (fits r) ((decided p within k r e).1 f) n }))))

-- 3 and 4, by what was read
abbrev Clear : Read Protocol → Type 0
Clear r = Absent (layout_rows protocol_item r ++ rows_after (layout protocol_item r) fit_rows)

read_clear : (r : Read Protocol) (p : Protocol) (e : ℕ) → r ≡ got p e → Absent (fit_rows p) → Clear r
read_clear (got q d) p e h a =
    let i : p ≡ q = cc in
    ((λ k z. let y = z.1 in clash (cc)), subst (λ (x : Protocol). Absent (fit_rows x)) i a)
read_clear fault p e h a = clash (cc)

clear_read : (r : Read Protocol) → Clear r → (p : Protocol) × (e : ℕ) × (r ≡ got p e) × Absent (fit_rows p)
clear_read (got p e) a = (p, e, refl, a.1)
clear_read fault a = absurd (a.0 protocol_item (refl, refl))

-- 2, 3 and 4 are absent from a file just where it holds a fit protocol
pub fit_file_exactly : (file : List ℕ) → Bytes file → ((p : Protocol) × FitFile file p) ↔ Absent (fit_file_rows file)
fit_file_exactly file bytes = (there, back)
  where
    there : (p : Protocol) × FitFile file p → Absent (fit_file_rows file)
    there (p, f) = (
      (λ k h. omega (arith, h.1, f.short)),
      read_clear (protocol file) p (length file) f.reads (fit_absent p f.each),
    )

    back : Absent (fit_file_rows file) → (p : Protocol) × FitFile file p
    back a =
        let (p, e, h, c) = clear_read (protocol file) a.1 in
        let g = protocol_form file bytes p e h in (
          p,
          record {
            short = by_size protocol_limit (length file) (λ l. absurd (a.0 protocol_item (refl, l))) (λ l. l);
            reads = h ∙ ap (got p) g.whole;
            each = absent_fit p g.within c;
          },
        )

-- ── a fit protocol passes, and what passes is fit ──
module _ (file : List ℕ) (bytes : Bytes file) (p : Protocol) where
  pub fit_within : FitFile file p → Within p
  fit_within f = (protocol_form file bytes p (length file) f.reads).within

  pub fit_passed : FitFile file p → protocol_ruling file ≡ passed p
  fit_passed f =
      let a = (fit_file_exactly file bytes).0 (p, f) in
      let (q, h, e) = absent_passed (IsFit file) (protocol_rows file) (protocol_ruling file) (protocol_ruled file bytes) a.1 in
      let i : q ≡ p = got_one (sym h.reads.there ∙ f.reads) in
      e ∙ ap (λ (x : Protocol). passed x) i
    where
      got_one : {q : Protocol} {d : ℕ} → got q d ≡ got p (length file) → q ≡ p
      got_one h = cc

  pub is_fit_file : length file ≤ protocol_limit → IsFit file p → FitFile file p
  is_fit_file l h =
      let g = protocol_form file bytes p h.reads.next h.reads.there in
      record { short = l; reads = h.reads.there ∙ ap (got p) g.whole; each = absent_fit p g.within h.fit }
