-- Canonical form at the level of files: what is written is the encoding of the canonical message of the term that the file encodes, and two
-- term files give the same bytes exactly when their terms are equal by the paper's equations.
use Rattle.std.specs.Prelude.{ℕ, ◌≤◌, ◌<◌, List, ◌↔◌, ◌≡◌, refl}
use Rattle.std.proofs.Common.{ap, sym, ◌∙◌, subst}
use Rattle.term.specs.Sizes.{most_symbols}
use Rattle.lists.specs.Choice.{by_size}
use Rattle.octets.specs.Head.{Bytes}
use Rattle.term.specs.Term.{Term, encode, symbols, Formed}
use Rattle.term.specs.Arity.{arity, tag_arities}
use Rattle.message.specs.Equations.{Same}
use Rattle.message.specs.Canon.{canon}
use Rattle.message.proofs.Theorems.{same_bytes, declared}
use Rattle.rewriting.specs.Table.{Ruling, passed, Ruled, and_then}
use Rattle.rewriting.specs.Table.Laws.{passed_good}
use Rattle.protocol.specs.Protocol.{Protocol}
use Rattle.checker.specs.Files.Terms.{IsTerm, file_form}
use Rattle.checker.specs.Files.{protocol_ruling, term_ruling, term_rows}
use Rattle.checker.specs.Files.Laws.{IsFit, IsSmall, term_ruled}
use Rattle.checker.specs.Canonical.{term_of, read_rows, form_of}
use Rattle.checker.specs.Canonical.Laws.{Holds, read_ruled}

-- the files hold a fit protocol and, under it, the term t of at most 256 symbols
pub record Encodes (protocol term : List ℕ) (t : Term) : Type 0 where
  pub is : Protocol
  pub fit : IsFit protocol is
  pub file : IsTerm (tag_arities is.functions) term t
  pub small : symbols t ≤ most_symbols

small_enough : (n : ℕ) → (most_symbols < n → ⊥) → n ≤ most_symbols
small_enough n f = by_size most_symbols n (λ l. absurd (f l)) (λ l. l)

module _ (protocol term : List ℕ) (protocol_bytes : Bytes protocol) (bytes : Bytes term) where
  pub encodes : (t : Term) → Holds protocol term t → Encodes protocol term t
  encodes t h =
      let r = h.small.reads in
      record {
        is = h.is;
        fit = h.fit;
        file = file_form (tag_arities h.is.functions) term bytes t r.next r.there;
        small = small_enough (symbols t) (λ l. h.small.small.0 0 (refl, l));
      }

  -- the term that the call takes from the files is the one that they encode
  pub taken : (t : Term) → term_of protocol term ≡ passed t → Encodes protocol term t
  taken t e =
      encodes t (passed_good (Holds protocol term) (read_rows protocol term) t
      (subst (λ (r : Ruling Term). Ruled (read_rows protocol term) (Holds protocol term) r) e (read_ruled protocol term protocol_bytes)))

  -- the bytes are the encoding of its canonical form
  pub forms : (t : Term) → term_of protocol term ≡ passed t → form_of (term_of protocol term) ≡ encode (canon t)
  forms t e = ap form_of e

-- two term files under one protocol give the same bytes exactly when their terms are equal
pub same_forms :
    (protocol term other : List ℕ) → Bytes term → Bytes other → (p : Protocol) (t u : Term) → protocol_ruling protocol ≡ passed p
    → term_of protocol term ≡ passed t → term_of protocol other ≡ passed u
    → Same (arity (tag_arities p.functions)) t u ↔ (form_of (term_of protocol term) ≡ form_of (term_of protocol other))
same_forms protocol term other b c p t u h e f =
    let s = tag_arities p.functions in
    let w = formed_under term b t e in
    let v = formed_under other c u f in
    let k = same_bytes (arity s) (declared p.functions) t u w v in
    (λ d. ap form_of e ∙ k.0 d ∙ sym (ap form_of f), λ q. k.1 (sym (ap form_of e) ∙ q ∙ ap form_of f))
  where
    formed_under : (file : List ℕ) → Bytes file → (x : Term) → term_of protocol file ≡ passed x → Formed (arity (tag_arities p.functions)) x
    formed_under file by x g =
        let q : term_ruling (tag_arities p.functions) file ≡ passed x = sym (ap (λ (r : Ruling Protocol). and_then r
        (λ o. term_ruling (tag_arities o.functions) file))
        h) ∙ g in
        let i = passed_good (IsSmall (tag_arities p.functions) file) (term_rows (tag_arities p.functions) file) x
        (subst (λ (r : Ruling Term). Ruled (term_rows (tag_arities p.functions) file) (IsSmall (tag_arities p.functions) file) r) q
        (term_ruled (tag_arities p.functions) file)) in
        (file_form (tag_arities p.functions) file by x i.reads.next i.reads.there).formed
