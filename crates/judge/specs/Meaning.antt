-- What the answer means: where the tables number the messages of a trace, it decides whether the property holds of them, over whole numbers as
-- times.
use Rattle.std.specs.Prelude.{ℕ, List, [], Bool, ◌≡◌}
use Rattle.std.proofs.Common.{sym, subst}
use Rattle.lists.specs.Reflects.{Reflects}
use Rattle.property.specs.Formula.{Formula}
use Rattle.property.specs.Meaning.{Messages, Trace, Holds}
use Rattle.property.specs.Meaning.Alike.{LikeTrace}
use Rattle.property.specs.Times.{integers}
use Rattle.property.specs.Judge.Numbers.{numbers, Numbering, numbers_decide}
use Rattle.property.specs.Judge.{judge}
use Rattle.judge.specs.Tables.{trace_of}
use Rattle.judge.specs.Judging.{Property}

-- different public names are different messages; numbers are equal exactly where messages are the same, and the public name n is base + n
module _ (M : Messages) (apart : (i j : ℕ) → M.Same (M.name i) (M.name j) → i ≡ j) (base : ℕ) (R : M.Msg → ℕ → Type 0)
    (numbering : Numbering M base R) where
  pub answer_decides :
      {file table ars : List ℕ} {φ : Formula} (starts symbols classes : List ℕ) (tr : Trace M.Msg) {r : Bool} → Property file table ars φ
      → LikeTrace R tr (trace_of ars symbols classes starts) → r ≡ judge (numbers base) (trace_of ars symbols classes starts) [] φ
      → Reflects (Holds M integers tr [] φ) r
  answer_decides {ars = ars} {φ = φ} starts symbols classes tr p like e =
      subst (Reflects (Holds M integers tr [] φ)) (sym e)
      (numbers_decide M apart base R numbering tr (trace_of ars symbols classes starts) like φ p.fits integers)
