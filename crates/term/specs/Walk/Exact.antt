-- What the answers say of trees: the place and the symbols of a term are told exactly where one formed term in range stands, and there is
-- one such term only.
use Rattle.std.specs.Prelude.{Some, None, ℕ, ◌-◌, List, [], ◌↔◌, ◌≡◌, refl, take, drop}
use Rattle.std.proofs.Common.{ap, ap₂, sym, ◌∙◌, arith}
use Rattle.lists.specs.Choice.{clash}
use Rattle.octets.specs.Head.{Bytes, Stands, stands_part, stands_within}
use Rattle.number.specs.Reading.{Read, got, fault}
use Rattle.term.specs.Term.{Term, encode, symbols, Formed, InRange}
use Rattle.term.specs.Term.Laws.{encode_prefix, encode_some}
use Rattle.term.specs.Arity.{arity}
use Rattle.term.specs.Arity.Laws.{no_leaf}
use Rattle.term.specs.Reader.{term}
use Rattle.term.specs.Reader.Laws.{Ahead}
use Rattle.term.specs.Reader.Exact.{term_back, term_form}
use Rattle.term.specs.Walk.{ended, bytes_of}

-- a formed term of n symbols, in range, has its bytes in file from `at` up to e
pub record TermAt (file arities : List ℕ) (at e n : ℕ) : Type 0 where
  pub tree : Term
  pub formed : Formed (arity arities) tree
  pub range : InRange tree
  pub size : symbols tree ≡ n
  pub stands : Stands file at (encode tree) e

module _ (file arities : List ℕ) (bytes : Bytes file) (at : ℕ) where
  from_end : (e n : ℕ) (r : Read Term) → term file arities at ≡ r → ended r ≡ Some (e, n) → TermAt file arities at e n
  from_end e n (got t d) h g =
      let a : d ≡ e = grind arith in
      let f = term_form file arities bytes t at e (h ∙ ap (got t) a) in
      record { tree = t; formed = f.0.0; range = f.0.1; size = grind arith; stands = f.1 }
  from_end e n fault h g = clash (cc)

  to_end : (e n : ℕ) → TermAt file arities at e n → ended (term file arities at) ≡ Some (e, n)
  to_end e n h =
      ap ended (term_back file arities bytes h.tree at (drop e file) h.formed h.range h.stands.there)
      ∙ ap₂ (λ (d m : ℕ). Some (d, m)) (sym h.stands.ends) h.size

  -- `term_end` answers end e and n symbols exactly when the bytes up to e are such a term
  pub end_exactly : (e n : ℕ) → (ended (term file arities at) ≡ Some (e, n)) ↔ TermAt file arities at e n
  end_exactly e n = (from_end e n (term file arities at) refl, to_end e n)

  -- that term is unique
  pub one_tree : {e n : ℕ} (g h : TermAt file arities at e n) → g.tree ≡ h.tree
  one_tree {e} {n} g h =
      (encode_prefix (arity arities) (no_leaf arities) g.tree h.tree _ _ g.formed h.formed
      (sym g.stands.there ∙ h.stands.there)).0

  -- it lies within the file
  pub end_within : (e n : ℕ) → ended (term file arities at) ≡ Some (e, n) → Ahead file at e
  end_within e n h =
      let t = from_end e n (term file arities at) refl h in
      record {
        after = omega (arith, t.stands.ends, encode_some t.tree);
        within = stands_within t.stands (encode_some t.tree);
      }

  -- the part of file that the answer bounds is the term's bytes
  part_from : (e n : ℕ) (r : Read Term) → term file arities at ≡ r → ended r ≡ Some (e, n) → take (e - at) (drop at file) ≡ bytes_of r
  part_from e n (got t d) h g =
      let a : d ≡ e = grind arith in
      stands_part (term_form file arities bytes t at e (h ∙ ap (got t) a)).1
  part_from e n fault h g = clash (cc)

  pub part_bytes : (e n : ℕ) → ended (term file arities at) ≡ Some (e, n) → take (e - at) (drop at file) ≡ bytes_of (term file arities at)
  part_bytes e n h = part_from e n (term file arities at) refl h

  none_from : (r : Read Term) → ended r ≡ None → [] ≡ bytes_of r
  none_from (got t d) h = clash (cc)
  none_from fault h = refl

  pub none_bytes : ended (term file arities at) ≡ None → [] ≡ bytes_of (term file arities at)
  none_bytes h = none_from (term file arities at) h
