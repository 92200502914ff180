-- From what the functions inside the call find to what the call promises.
use Rattle.std.specs.Prelude.{ℕ, ◌≤◌, ◌≡◌, refl, length, replicate}
use mathlib.Core.List.{List, [], ◌∷◌}
use Rattle.std.proofs.Math.Path.{ap, sym, subst}
use Rattle.std.proofs.Common.{ap₂, ◌∙◌, arith}
use Rattle.lists.specs.Asks.{Promises}
use Rattle.term.specs.Sizes.{most_symbols}
use Rattle.lists.specs.Choice.{by_size, clash}
use Rattle.number.specs.Reading.{Read, got, fault}
use Rattle.term.specs.Term.{Term, encode, symbols}
use Rattle.term.specs.Arity.{tag_arities}
use Rattle.message.specs.Canon.{canon}
use Rattle.rewriting.specs.Table.{Ruling, passed, refused, and_then}
use Rattle.rewriting.specs.Table.Passes.{less_pass, need_pass}
use Rattle.protocol.specs.Protocol.{Protocol}
use Rattle.checker.specs.Answer.{Written}
use Rattle.std.specs.Prelude.{Ok, Err}
use Rattle.checker.specs.declared.Refusal.{Refusal}
use Rattle.checker.specs.Answer.{refusal, work_need, written, output_after}
use Rattle.checker.specs.Answer.Judged as judged
use Rattle.checker.specs.Passing.{less_yes, less_no}
use Rattle.checker.specs.Late.{Late, late_then, late_pass, late_layout, late_work, late_protocol}
use Rattle.checker.specs.Files.{protocol_limit, term_limit, protocol_item, term_item, layout, protocol_ruling, term_file, size_ruling, term_ruling}
use Rattle.checker.specs.Files.Answers.{file_of}
use Rattle.checker.specs.Canonical.{term_of, need, room_ruling, form_of, canonical_outcome, canonical_output, canonical_work}
use Rattle.checker.specs.Canonical.Contracts.{Form, Formed, Under, Judges, Inside}
use Rattle.checker.specs.Canonical.Cases.{sized, output_kept}

-- ── the ruling of a term file is one of three ──
pub data View (r : Ruling Term) : Type 0 where
  is_small : (t : Term) → r ≡ passed t → View r
  is_layout : r ≡ refused 3 term_item → View r
  is_large : r ≡ refused 8 0 → View r

sized_view : (r : Ruling Term) (t : Term) → r ≡ size_ruling t → View r
sized_view r t e =
    by_size most_symbols (symbols t)
    (λ l. is_large (e ∙ less_yes 8 0 most_symbols (symbols t) [] (passed t) l))
    (λ l. is_small t (e ∙ less_no 8 0 most_symbols (symbols t) [] (passed t) l))

module _ (arities file : List ℕ) where
  read_view : (o : Read Term) → term_file arities file ≡ o → View (term_ruling arities file)
  read_view (got t e) h = sized_view (term_ruling arities file) t (ap (λ (o : Read Term). and_then (layout term_item o) size_ruling) h)
  read_view fault h = is_layout (ap (λ (o : Read Term). and_then (layout term_item o) size_ruling) h)

  pub view : View (term_ruling arities file)
  view = read_view (term_file arities file) refl

-- the term that a small file holds
pub record Holds (r : Ruling Term) : Type 0 where
  pub term : Term
  pub is : r ≡ passed term

-- what the code answers of a file is its ruling
small_of : (r : Ruling Term) → file_of r ≡ Ok tt → Holds r
small_of (passed t) h = record { term = t; is = refl }
small_of (refused n k) h = clash (cc)

turned_of : (r : Ruling Term) (e : Refusal) → file_of r ≡ Err e → r ≡ refused e.number e.item
turned_of (passed t) e h = clash (cc)
turned_of (refused n k) e h = let i : refusal n k ≡ e = cc in ap {B = Ruling Term} (λ (x : Refusal). refused x.number x.item) i

pub holds_term : (arities file : List ℕ) → file_of (term_ruling arities file) ≡ Ok tt → Holds (term_ruling arities file)
holds_term arities file h = small_of (term_ruling arities file) h

pub no_term : (arities file : List ℕ) (e : Refusal) → file_of (term_ruling arities file) ≡ Err e → term_ruling arities file ≡ refused e.number e.item
no_term arities file e h = turned_of (term_ruling arities file) e h

-- what is asked of the file's term
pub form_of_lem : (arities term free : List ℕ) → Under arities term free → (h : Holds (term_ruling arities term)) → Form arities term free h.term
form_of_lem arities term free u h = record { table = u.table; is = h.is; bytes = u.bytes; short = u.short }

-- ── the term's outcome ──
pub judges_refused :
    (r : Ruling Term) (n k : ℕ) (output : List ℕ) (w : Written) → r ≡ refused n k → written w ≡ refused n k → Judges r output output w
judges_refused r n k output w e q = judged.judges_refused (λ t. encode (canon t)) r output w n k e q

pub judges_formed :
    (r : Ruling Term) (t : Term) (output output' : List ℕ) (w : Written) → r ≡ passed t → Formed t output output' w → Judges r output output' w
judges_formed r t output output' w e f = judged.judges_passed (λ t. encode (canon t)) r output w t e output' f

-- ── the call's outcome ──
module _ (protocol term output : List ℕ) (w : Written) where
  pub inside_refused :
      (n k : ℕ) → ((work : ℕ) → work_need ≤ work → canonical_outcome protocol term (length output) work ≡ refused n k)
      → written w ≡ refused n k → Promises (λ (work : ℕ). work_need ≤ work) (Inside protocol term output output w)
  inside_refused n k h q work l =
      record { answer = q ∙ sym (h work l); left = output_kept protocol term output work n k (h work l) }

  pub inside_judged :
      (p : length protocol ≤ protocol_limit) (t : length term ≤ term_limit) (q : Protocol) (output' : List ℕ)
      → protocol_ruling protocol ≡ passed q → Judges (term_ruling (tag_arities q.functions) term) output output' w
      → Promises (λ (work : ℕ). work_need ≤ work) (Inside protocol term output output' w)
  unfolding canonical_output
  inside_judged p t q output' fit j work l =
      let under : term_of protocol term ≡ term_ruling (tag_arities q.functions) term =
      ap (λ (r : Ruling Protocol). and_then r (λ q. term_ruling (tag_arities q.functions) term)) fit in
      let o : canonical_outcome protocol term (length output) work ≡ and_then (term_ruling (tag_arities q.functions) term) (room_ruling (length output)) =
      sized protocol term (length output) work l p t ∙ ap (λ (r : Ruling Term). and_then r (room_ruling (length output))) under in
      record {
        answer = j.answer ∙ sym o;
        left = j.left ∙ sym (ap₂ (λ (x : Ruling ℕ) (y : Ruling Term). output_after x (form_of y) output) o under);
      }

-- ── the work area ──
module _ (protocol term : List ℕ) (output : ℕ) where
  late_term : (arities : List ℕ) → Late (term_ruling arities term)
  late_term arities =
      late_then (layout term_item (term_file arities term)) size_ruling (late_layout term_item (term_file arities term))
      (λ t. late_pass (less_pass 8 0 most_symbols (symbols t)) [] (passed t) (λ e. omega arith) tt)

  late_files : Late (and_then (term_of protocol term) (room_ruling output))
  late_files =
      late_then (term_of protocol term) (room_ruling output)
      (late_then (protocol_ruling protocol) (λ p. term_ruling (tag_arities p.functions) term) (late_protocol protocol)
      (λ p. late_term (tag_arities p.functions)))
      (λ t. late_pass (need_pass 15 output (need t)) [] (passed (need t)) (λ e. omega arith) tt)

  late_call : (work : ℕ) → work_need ≤ work → Late (canonical_outcome protocol term output work)
  unfolding canonical_outcome
  late_call work l =
      let files = and_then (term_of protocol term) (room_ruling output) in
      let p = less_pass 2 protocol_item protocol_limit (length protocol) in
      let t = less_pass 2 term_item term_limit (length term) in
      subst Late (sym (less_no 1 0 work work_need (p ∷ t ∷ []) files l))
      (late_pass p (t ∷ []) files (λ e. omega arith) (late_pass t [] files (λ e. omega arith) late_files))

  pub work_cleared :
      (work : List ℕ) → work_need ≤ length work → replicate (length work) 0 ≡ canonical_work protocol term output work
  unfolding canonical_work
  work_cleared work l = sym (late_work (canonical_outcome protocol term output (length work)) work (late_call (length work) l))
