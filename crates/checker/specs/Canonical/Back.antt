-- The table says one outcome of canonical form; files that hold a fit protocol and a term of it give the length where there is room.
use Rattle.std.specs.Prelude.{ℕ, ◌≤◌, ◌<◌, List, [], ◌≡◌, length}
use Rattle.std.proofs.Common.{ap, sym, ◌∙◌}
use Rattle.octets.specs.Head.{Bytes}
use Rattle.number.specs.Reading.{Read, got}
use Rattle.term.specs.Term.{Term, symbols}
use Rattle.term.specs.Arity.{tag_arities}
use Rattle.term.specs.Sizes.{most_symbols}
use Rattle.rewriting.specs.Table.{Ruling, passed, refused, Ruled, and_then}
use Rattle.rewriting.specs.Table.Laws.{ruled_unique}
use Rattle.protocol.specs.Protocol.{Protocol}
use Rattle.checker.specs.Answer.{work_need}
use Rattle.checker.specs.Files.{term_limit, term_item, layout, term_file, size_ruling, term_ruling}
use Rattle.checker.specs.Files.Fit.{FitFile, fit_passed}
use Rattle.checker.specs.Files.Terms.{IsTerm, file_back}
use Rattle.checker.specs.Passing.{less_no}
use Rattle.checker.specs.Canonical.{need, term_of, canonical_outcome, canonical_rows}
use Rattle.checker.specs.Canonical.Cases.{no_room, room}
use Rattle.checker.specs.Canonical.Laws.{Length, canonical_ruled}

got_one : {A : Type 0} {x y : A} {d e : ℕ} → got x d ≡ got y e → x ≡ y
got_one h = cc

module _ (protocol term : List ℕ) where
  -- ── one outcome ──
  one_length : (a b : ℕ) → Length protocol term a → Length protocol term b → a ≡ b
  one_length a b g h = g.needs ∙ ap need one_term_lem ∙ sym h.needs
    where
      one_protocol : g.holds.is ≡ h.holds.is
      one_protocol = got_one (sym g.holds.fit.reads.there ∙ h.holds.fit.reads.there)

      one_term_lem : g.is ≡ h.is
      one_term_lem =
          got_one
          (sym g.holds.small.reads.there ∙ ap (λ (q : Protocol). term_file (tag_arities q.functions) term) one_protocol
          ∙ h.holds.small.reads.there)

  pub canonical_unique :
      Bytes protocol → (output work : ℕ) (r : Ruling ℕ) → Ruled (canonical_rows protocol term output work) (Length protocol term) r
      → r ≡ canonical_outcome protocol term output work
  canonical_unique bytes output work r h =
      ruled_unique (Length protocol term) one_length (canonical_rows protocol term output work) r (canonical_outcome protocol term output work) h
      (canonical_ruled protocol term bytes output work)

  -- ── good files, room and work enough ──
  module _ (bytes : Bytes protocol) (term_bytes : Bytes term) (p : Protocol) (fit : FitFile protocol p) (t : Term)
      (is : IsTerm (tag_arities p.functions) term t) (small : symbols t ≤ most_symbols) (short : length term ≤ term_limit) where
    term_passed : term_ruling (tag_arities p.functions) term ≡ passed t
    term_passed =
        ap (λ (r : Read Term). and_then (layout term_item r) size_ruling) (file_back (tag_arities p.functions) term term_bytes t is)
        ∙ less_no 8 0 most_symbols (symbols t) [] (passed t) small

    -- the term that is taken from the files
    pub term_taken : term_of protocol term ≡ passed t
    term_taken =
        ap (λ (r : Ruling Protocol). and_then r (λ q. term_ruling (tag_arities q.functions) term)) (fit_passed protocol bytes p fit) ∙ term_passed

    pub canonical_short : (output work : ℕ) → work_need ≤ work → output < need t → canonical_outcome protocol term output work ≡ refused 15 (need t)
    canonical_short output work long less =
        no_room protocol term output work long fit.short short p (fit_passed protocol bytes p fit) t term_passed less

    pub canonical_back : (output work : ℕ) → work_need ≤ work → need t ≤ output → canonical_outcome protocol term output work ≡ passed (need t)
    canonical_back output work long enough =
        room protocol term output work long fit.short short p (fit_passed protocol bytes p fit) t term_passed enough
