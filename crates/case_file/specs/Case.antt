-- The input of a test program, and the cases in it.
use Rattle.std.specs.Prelude.{◌+◌, ◌≡◌, length, drop, slice_index, Option, IfSome}
use Rattle.case_file.specs.declared.Case.{Case}
use Rattle.case_file.specs.declared.Cases.{Cases}

-- a case is the first of those that are left, and behind it these are
pub record IsFirst (left : Cases) (c : Case) (behind : Cases) : Type 0 where
  pub number : c.number ≡ left.before + 1
  pub kind : slice_index left.rest.now 0 ≡ c.kind
  pub before : behind.before ≡ c.number
  pub rest : drop (5 + length c.under.now + length c.bytes.now) left.rest.now ≡ behind.rest.now

abbrev pub Follows : Cases → Option Case → Cases → Type 0
Follows left o behind = IfSome o (λ c. IsFirst left c behind)
