-- The promise of this crate: one record. It is all that the crates graph, property and writer may use of this crate; they name nothing of
-- its other files.
use Rattle.std.specs.Prelude.{ℕ, suc, ◌≡◌, refl, ◌↔◌, Bool, true, List, [], ◌∷◌, length}
use Rattle.std.proofs.Common.{sym, ◌∙◌, ap, ⊎_elim}
use Rattle.std.specs.Prelude.{Option, Some}
use Rattle.term.specs.Term.{public, fresh, Term, leaf, app, Terms, nil, ◌&◌, count, Formed, Formeds}
use Rattle.message.specs.Equations.{Same}
use Rattle.message.specs.Substitution.{Ground, Grounds}
use Rattle.message.specs.Substitution.Laws.{public_ground, fresh_ground}

-- ── messages ──
-- a message, under an arity of each tag: a well-formed term without variables
pub record Message (ar : ℕ → Option ℕ) : Type 0 where
  pub term : Term
  pub formed : Formed ar term
  pub is_ground : Ground term

module _ (ar : ℕ → Option ℕ) where
  -- "Message equality is from then on the congruence of all twelve equations"
  abbrev pub SameMessage : Message ar → Message ar → Type 0
  SameMessage m n = Same ar m.term n.term

  -- one by one
  abbrev pub SameMessages : List (Message ar) → List (Message ar) → Type 0
  SameMessages [] [] = Unit {0}
  SameMessages [] (n ∷ ns) = ⊥
  SameMessages (m ∷ ms) [] = ⊥
  SameMessages (m ∷ ms) (n ∷ ns) = SameMessage m n × SameMessages ms ns

  -- "Fresh and public names are two incomparable sets, each numbered from 0."
  abbrev pub public_name : ℕ → Message ar
  public_name n = record { term = leaf public n; formed = tt; is_ground = public_ground n }

  abbrev pub fresh_name : ℕ → Message ar
  fresh_name n = record { term = leaf fresh n; formed = tt; is_ground = fresh_ground n }

  -- the term of a function's tag and messages
  abbrev pub terms : List (Message ar) → Terms
  terms [] = nil
  terms (m ∷ ms) = m.term & terms ms

  pub terms_count : (ms : List (Message ar)) → count (terms ms) ≡ length ms
  terms_count [] = refl
  terms_count (m ∷ ms) = ap suc (terms_count ms)

  pub terms_formed : (ms : List (Message ar)) → Formeds ar (terms ms)
  terms_formed [] = tt
  terms_formed (m ∷ ms) = (m.formed, terms_formed ms)

  pub terms_ground : (ms : List (Message ar)) → Grounds (terms ms)
  terms_ground [] = λ v o. o
  terms_ground (m ∷ ms) = λ v. ⊎_elim (m.is_ground v) (terms_ground ms v)

  -- the function of tag f applied to as many messages as it takes
  abbrev pub apply : (f : ℕ) (ms : List (Message ar)) → ar f ≡ Some (length ms) → Message ar
  apply f ms e =
      record { term = app f (terms ms); formed = (e ∙ ap Some (sym (terms_count ms)), terms_formed ms); is_ground = terms_ground ms }

-- ── the promise ──
pub record Promise (ar : ℕ → Option ℕ) : Type 0 where
  -- a test that decides equality
  pub same : Message ar → Message ar → Bool
  pub decides : (m n : Message ar) → (same m n ≡ true) ↔ SameMessage ar m n
  -- an equivalence
  pub is_reflexive : (m : Message ar) → SameMessage ar m m
  pub is_symmetric : (m n : Message ar) → SameMessage ar m n → SameMessage ar n m
  pub is_transitive : (m n k : Message ar) → SameMessage ar m n → SameMessage ar n k → SameMessage ar m k
  -- a congruence, of any arity
  pub is_congruent :
      (f : ℕ) (ms ns : List (Message ar)) (d : ar f ≡ Some (length ms)) (e : ar f ≡ Some (length ns)) → SameMessages ar ms ns
      → SameMessage ar (apply ar f ms d) (apply ar f ns e)
  -- names of different numbers differ, and no public name is a fresh one
  pub public_apart : (i j : ℕ) → SameMessage ar (public_name ar i) (public_name ar j) → i ≡ j
  pub fresh_apart : (i j : ℕ) → SameMessage ar (fresh_name ar i) (fresh_name ar j) → i ≡ j
  pub names_apart : (i j : ℕ) → SameMessage ar (public_name ar i) (fresh_name ar j) → ⊥
