-- A term file is read exactly: it is the encoding of one formed term in range without variables.
use Rattle.std.specs.Prelude.{ℕ, ◌+◌, Bool, ◌&&◌, ◌≡◌, refl, eqb}
use mathlib.Core.List.{List, [], ◌++◌, append-nil}
use Rattle.std.proofs.Math.Bool.{not}
use Rattle.std.proofs.Math.Path.{ap, sym, subst}
use Rattle.std.proofs.Common.{ap₂, ◌∙◌, arith}
use Rattle.std.proofs.Math.ListN.{length, drop}
use Rattle.std.proofs.Math.Seq.{drop-length}
use borrow.Author.Tests.{eq-eqb, eqb-true}
use Rattle.lists.specs.Choice.{pick, cut, clash}
use Rattle.octets.specs.Head.{Bytes}
use Rattle.number.specs.Groups.{number_limit}
use Rattle.number.specs.Reading.{got, fault}
use Rattle.number.specs.Reading.Laws.{cut_got, then_got}
use Rattle.term.specs.Term.{Term, encode, Formed, Below}
use Rattle.term.specs.Arity.{arity}
use Rattle.term.specs.Reader.{term}
use Rattle.term.specs.Reader.Exact.{term_back, term_form}
use Rattle.term.specs.Walk.{holds}
use Rattle.lists.specs.Tests.{not_split, and_split}
use Rattle.message.specs.Substitution.{Ground}
use Rattle.message.specs.Substitution.Laws.{none_ground, ground_none}
use Rattle.checker.specs.Files.{term_file}

-- file is the encoding of t, a formed term without variables, its numbers below a limit
pub record IsTermBelow (limit : ℕ) (arities file : List ℕ) (t : Term) : Type 0 where
  pub bytes : file ≡ encode t
  pub formed : Formed (arity arities) t
  pub range : Below limit t
  pub is_ground : Ground t

-- with the numbers that a file can hold
abbrev pub IsTerm : List ℕ → List ℕ → Term → Type 0
IsTerm = IsTermBelow number_limit

module _ (arities file : List ℕ) (bytes : Bytes file) where
  pub file_form : (t : Term) (e : ℕ) → term_file arities file ≡ got t e → IsTerm arities file t
  unfolding term_file
  file_form t e h =
      cut_got (term file arities 0) _ h (λ u d r h. cut _ _ _ (eqb d (length file) && not (holds u 0 0 number_limit)) h
      (λ b h. let p : u ≡ t = cc in
      let q = and_split (eqb d (length file)) (not (holds u 0 0 number_limit)) b in
      let l : d ≡ length file = eqb-true d (length file) q.0 in
      let f = term_form file arities bytes u 0 d r in
      let w : file ≡ encode u = f.1.there ∙ ap (λ (k : ℕ). encode u ++ drop k file) l ∙ ap (λ (m : List ℕ). encode u ++ m) (drop-length file) ∙ append-nil
      (encode u)
      in
      subst (λ (x : Term). IsTerm arities file x) p
      (record { bytes = w; formed = f.0.0; range = f.0.1; is_ground = none_ground u f.0.1 (not_split (holds u 0 0 number_limit) q.1) }))
      (λ b h. clash (cc)))

  pub file_back : (t : Term) → IsTerm arities file t → term_file arities file ≡ got t (length file)
  unfolding term_file
  file_back t h =
      let e : drop 0 file ≡ encode t ++ [] = h.bytes ∙ sym (append-nil (encode t)) in
      let l : 0 + length (encode t) ≡ length file = omega (arith, ap length h.bytes) in
      let r : term file arities 0 ≡ got t (length file) = term_back file arities bytes t 0 [] h.formed h.range e ∙ ap (got t) l in
      then_got (term file arities 0) _ r
      ∙ ap (λ (b : Bool). pick b (got t (length file)) fault)
      (ap₂ (λ (x y : Bool). x && not y) (eq-eqb (length file) (length file) refl) (ground_none t h.is_ground))
