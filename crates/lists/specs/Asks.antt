-- One pattern for contracts over what stands at a place: it is asked that R holds of some trees, and promised that Q holds of all trees that R
-- holds of. Both name the same R, so that no contract needs that just one tree stands there.
module _ {A : Type 0} where
  abbrev pub Asks : (A → Type 0) → Type 0
  Asks R = (x : A) × R x

  abbrev pub Promises : (A → Type 0) → (A → Type 0) → Type 0
  Promises R Q = (x : A) → R x → Q x

-- of two trees
module _ {A B : Type 0} where
  abbrev pub Asks₂ : (A → B → Type 0) → Type 0
  Asks₂ R = (x : A) × (y : B) × R x y

  abbrev pub Promises₂ : (A → B → Type 0) → (A → B → Type 0) → Type 0
  Promises₂ R Q = (x : A) (y : B) → R x y → Q x y

-- of three
module _ {A B C : Type 0} where
  abbrev pub Asks₃ : (A → B → C → Type 0) → Type 0
  Asks₃ R = (x : A) × (y : B) × (z : C) × R x y z

  abbrev pub Promises₃ : (A → B → C → Type 0) → (A → B → C → Type 0) → Type 0
  Promises₃ R Q = (x : A) (y : B) (z : C) → R x y z → Q x y z
