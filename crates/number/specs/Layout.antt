-- Layouts: the bytes of several things, of a count and that many; and a reader that is exact for them.
use Rattle.std.specs.Prelude.{ℕ, ◌+◌, List, [], ◌∷◌, ◌++◌, ◌≡◌, length, drop}
use Rattle.octets.specs.Head.{Stands}
use Rattle.number.specs.Groups.{groups}
use Rattle.number.specs.Reading.{Read, got}
-- layouts of numbers, of several things, of one thing after another
pub mod Laws

module _ {A : Type 0} where
  -- one behind the other
  abbrev pub flat : (A → List ℕ) → List A → List ℕ
  flat code [] = []
  flat code (x ∷ xs) = code x ++ flat code xs

  -- their count, and then they
  abbrev pub listed : (A → List ℕ) → List A → List ℕ
  listed code xs = groups (length xs) ++ flat code xs

  -- exact in both directions
  pub record Exact (file : List ℕ) (p : ℕ → Read A) (Good : A → Type 0) (code : A → List ℕ) : Type 0 where
    -- what is good reads back from its bytes
    pub back : (x : A) (at : ℕ) (rest : List ℕ) → Good x → drop at file ≡ code x ++ rest → p at ≡ got x (at + length (code x))
    -- what reads is good, and its bytes stand there
    pub form : (x : A) (at e : ℕ) → p at ≡ got x e → Good x × Stands file at (code x) e
