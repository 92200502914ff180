-- What the code answers of the files.
use Rattle.std.specs.Prelude.{Some, None, Result, Ok, Err}
use Rattle.std.specs.Prelude.{ℕ, ◌≤◌, ◌<◌, List, [], Bool, true, false, ◌&&◌, not, ◌≡◌, refl, length, eqb}
use Rattle.std.proofs.Math.Path.{ap}
use Rattle.std.proofs.Common.{ap₂, ◌∙◌, arith, eq-eqb, ne_eqb}
use Rattle.term.specs.Sizes.{most_symbols}
use Rattle.std.proofs.lemmas.Option.{same_Some}
use Rattle.lists.specs.Choice.{pick, clash}
use Rattle.number.specs.Groups.{number_limit}
use Rattle.number.specs.Reading.{Read, got, fault}
use Rattle.number.specs.Reading.Laws.{then_got, then_fault}
use Rattle.term.specs.Term.{Term, symbols}
use Rattle.term.specs.Reader.{term}
use Rattle.term.specs.Walk.{holds, walk, walked}
use Rattle.term.specs.declared.Walk.{Walk}
use Rattle.rewriting.specs.Table.{Ruling, passed, refused, and_then}
use Rattle.checker.specs.declared.Refusal.{Refusal}
use Rattle.checker.specs.Answer.{refusal}
use Rattle.checker.specs.Passing.{less_yes, less_no}
use Rattle.checker.specs.Files.{term_item, layout, term_file, size_ruling, term_ruling}

-- a term file: 3, then 8
abbrev pub file_of : Ruling Term → Result (Unit {0}) Refusal
file_of (passed t) = Ok tt
file_of (refused n k) = Err (refusal n k)

-- ── the walk's answer, from what was read ──
cut_walked :
    {C : Type 0} (kind lo hi e n : ℕ) (h : Bool) (r : Read Term) → walked kind lo hi r ≡ Some (walk e n h)
    → ((t : Term) → r ≡ got t e → symbols t ≡ n → holds t kind lo hi ≡ h → C) → C
cut_walked kind lo hi e n h (got t d) w k =
    let i : walk d (symbols t) (holds t kind lo hi) ≡ walk e n h = same_Some _ _ w in
    k t (ap (got t) (ap (λ (x : Walk). x.end) i)) (ap (λ (x : Walk). x.size) i) (ap (λ (x : Walk). x.hit) i)
cut_walked kind lo hi e n h fault w k = clash (cc)

walked_fault : (kind lo hi : ℕ) (r : Read Term) → walked kind lo hi r ≡ None → r ≡ fault
walked_fault kind lo hi (got t d) w = clash (cc)
walked_fault kind lo hi fault w = refl

module _ (arities file : List ℕ) where
  -- a file that does not read as one term without variables
  no_file : term_file arities file ≡ fault → file_of (term_ruling arities file) ≡ Err (refusal 3 term_item)
  no_file h = ap (λ (o : Read Term). file_of (and_then (layout term_item o) size_ruling)) h

  file_tested :
      (t : Term) (e : ℕ) (b : Bool) → term file arities 0 ≡ got t e → (eqb e (length file) && not (holds t 0 0 number_limit)) ≡ b
      → term_file arities file ≡ pick b (got t e) fault
  unfolding term_file
  file_tested t e b r q = then_got (term file arities 0) _ r ∙ ap (λ (c : Bool). pick c (got t e) fault) q

  unread : term file arities 0 ≡ fault → term_file arities file ≡ fault
  unfolding term_file
  unread r = then_fault (term file arities 0) _ r

  -- ── the code's cases ──
  abbrev Walked : ℕ → ℕ → Bool → Type 0
  Walked e n h = walked 0 0 number_limit (term file arities 0) ≡ Some (walk e n h)

  pub file_fault : walked 0 0 number_limit (term file arities 0) ≡ None → file_of (term_ruling arities file) ≡ Err (refusal 3 term_item)
  file_fault w = no_file (unread (walked_fault 0 0 number_limit (term file arities 0) w))

  -- bytes are left over
  pub file_leftover : (e n : ℕ) (h : Bool) → Walked e n h → (e ≡ length file → ⊥) → file_of (term_ruling arities file) ≡ Err (refusal 3 term_item)
  file_leftover e n h w l =
      cut_walked 0 0 number_limit e n h (term file arities 0) w (λ t r q v.
      no_file (file_tested t e false r (ap (λ (b : Bool). b && not (holds t 0 0 number_limit)) (ne_eqb e (length file) l))))

  -- a variable stands in it
  pub file_variable : (e n : ℕ) (h : Bool) → Walked e n h → e ≡ length file → h ≡ true → file_of (term_ruling arities file) ≡ Err (refusal 3 term_item)
  file_variable e n h w l v =
      cut_walked 0 0 number_limit e n h (term file arities 0) w (λ t r q x.
      no_file (file_tested t e false r (ap₂ (λ (a b : Bool). a && not b) (eq-eqb e (length file) l) (x ∙ v))))

  whole : (e n : ℕ) (h : Bool) → Walked e n h → e ≡ length file → h ≡ false
      → {C : Type 0} → ((t : Term) → term_ruling arities file ≡ size_ruling t → symbols t ≡ n → C) → C
  whole e n h w l v k =
      cut_walked 0 0 number_limit e n h (term file arities 0) w (λ t r q x.
      k t (ap (λ (o : Read Term). and_then (layout term_item o) size_ruling)
      (file_tested t e true r (ap₂ (λ (a b : Bool). a && not b) (eq-eqb e (length file) l) (x ∙ v)))) q)

  pub file_large : (e n : ℕ) (h : Bool) → Walked e n h → e ≡ length file → h ≡ false → most_symbols < n → file_of (term_ruling arities file) ≡ Err (refusal 8 0)
  file_large e n h w l v m =
      whole e n h w l v (λ t r q. ap file_of (r ∙ less_yes 8 0 most_symbols (symbols t) [] (passed t) (omega arith)))

  pub file_small : (e n : ℕ) (h : Bool) → Walked e n h → e ≡ length file → h ≡ false → n ≤ most_symbols → file_of (term_ruling arities file) ≡ Ok tt
  file_small e n h w l v m =
      whole e n h w l v (λ t r q. ap file_of (r ∙ less_no 8 0 most_symbols (symbols t) [] (passed t) (omega arith)))
