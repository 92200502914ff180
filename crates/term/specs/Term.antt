-- "A term is written in prefix order, tag first": terms as trees, their bytes, their symbols.
use Rattle.std.specs.Prelude.{ℕ, suc, ◌+◌, ◌<◌, List, [], ◌++◌, ◌⊎◌, ◌≡◌}
use Rattle.std.specs.Prelude.{Option, Some}
use Rattle.number.specs.Groups.{groups, number_limit}
use Rattle.term.specs.Tags.{variable_tag, public_tag, fresh_tag}
-- the encoding is read in one way only
pub mod Laws

-- what a leaf is: "0 variable and its number; 1 public name and its number; 2 fresh name and its number"
pub data Kind : Type 0 where
  variable public fresh : Kind

infixr 67 ◌&◌
mutual
  -- a variable or name with its number, or the function of a tag with its arguments
  pub data Term : Type 0 where
    leaf : Kind → ℕ → Term
    app : ℕ → Terms → Term

  pub data Terms : Type 0 where
    nil : Terms
    ◌&◌ : Term → Terms → Terms

abbrev pub tag_of : Kind → ℕ
tag_of variable = variable_tag
tag_of public = public_tag
tag_of fresh = fresh_tag

abbrev pub count : Terms → ℕ
count nil = 0
count (t & ts) = suc (count ts)

-- the bytes: tags are numbers like all others
abbrev mutual
  pub encode : Term → List ℕ
  encode (leaf k n) = groups (tag_of k) ++ groups n
  encode (app f ts) = groups f ++ encodes ts

  pub encodes : Terms → List ℕ
  encodes nil = []
  encodes (t & ts) = encode t ++ encodes ts

-- "Each tag counts as one symbol."
abbrev mutual
  pub symbols : Term → ℕ
  symbols (leaf k n) = 1
  symbols (app f ts) = suc (symbolss ts)

  pub symbolss : Terms → ℕ
  symbolss nil = 0
  symbolss (t & ts) = symbols t + symbolss ts

-- well formed under an arity for each tag: every application has as many arguments as its function takes
abbrev mutual
  pub Formed : (ℕ → Option ℕ) → Term → Type 0
  Formed ar (leaf k n) = Unit {0}
  Formed ar (app f ts) = (ar f ≡ Some (count ts)) × Formeds ar ts

  pub Formeds : (ℕ → Option ℕ) → Terms → Type 0
  Formeds ar nil = Unit {0}
  Formeds ar (t & ts) = Formed ar t × Formeds ar ts

-- every number in it is below some limit
abbrev mutual
  pub Below : ℕ → Term → Type 0
  Below limit (leaf k n) = n < limit
  Below limit (app f ts) = (f < limit) × Belows limit ts

  pub Belows : ℕ → Terms → Type 0
  Belows limit nil = Unit {0}
  Belows limit (t & ts) = Below limit t × Belows limit ts

-- every number in it can stand in a file
abbrev pub InRange : Term → Type 0
InRange = Below number_limit

abbrev pub InRanges : Terms → Type 0
InRanges = Belows number_limit

-- the leaf of a kind and a number stands in a term, below any function
abbrev mutual
  pub Occurs : Kind → ℕ → Term → Type 0
  Occurs k n (leaf j m) = leaf j m ≡ leaf k n
  Occurs k n (app f ts) = Occurss k n ts

  pub Occurss : Kind → ℕ → Terms → Type 0
  Occurss k n nil = ⊥
  Occurss k n (t & ts) = Occurs k n t ⊎ Occurss k n ts
