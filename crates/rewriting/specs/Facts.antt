-- What the theory asks of facts.
use Rattle.std.specs.Prelude.{◌≡◌, Bool, true, not, List, ℕ}
use Rattle.lists.specs.Lists.{count_by, keep_by}
-- What holds of `same`, `linear` and `count`.
pub mod Laws

-- Facts, when two are the same, and which are linear: `same` is an equivalence, and same facts are linear together.
pub record Facts : Type 1 where
  pub Fact : Type 0
  pub same : Fact → Fact → Bool
  pub linear : Fact → Bool
  pub same_refl : (f : Fact) → same f f ≡ true
  pub same_sym : (f g : Fact) → same f g ≡ true → same g f ≡ true
  pub same_trans : (f g h : Fact) → same f g ≡ true → same g h ≡ true → same f h ≡ true
  pub same_linear : (f g : Fact) → same f g ≡ true → linear f ≡ linear g

-- The test says that two facts are the same.
abbrev pub Tested : (F : Facts) → F.Fact → F.Fact → Type 0
Tested F f g = F.same f g ≡ true

-- The multiplicity of a fact in a list: "equal facts count as the same fact".
abbrev pub count : (F : Facts) → F.Fact → List F.Fact → ℕ
count F f l = count_by (λ g. F.same f g) l

-- The linear facts of a list, and the persistent ones.
abbrev pub linears : (F : Facts) → List F.Fact → List F.Fact
linears F l = keep_by F.linear l

abbrev pub persistents : (F : Facts) → List F.Fact → List F.Fact
persistents F l = keep_by (λ f. not (F.linear f)) l
