-- A case takes its kind's byte and two counted parts, one behind the other.
use Rattle.std.proofs.Common.{ℕ, ◌+◌, ◌≡◌, ◌++◌, ◌∷◌, List, length, drop, get_or, ap, refl}
use Rattle.std.proofs.Math.Seq.{drop-append_seam}
use native.Mathlib.Omega.{arith}
use Rattle.std.proofs.lemmas.Grind.{common_steps}
use Rattle.case_file.proofs.CasesIterator.next.Goals as goal

-- what lies behind a counted part
behind : (a b s : List ℕ) → a ++ b ≡ drop 2 s → drop (2 + length a) s ≡ b
behind a b s e = grind (arith, common_steps, drop-append_seam a b, ap (λ (l : List ℕ). drop (length a) l) e)

-- and behind a case
past : (k : ℕ) (s a b t u v : List ℕ) → s ≡ k ∷ t → a ++ u ≡ drop 2 t → b ++ v ≡ drop 2 u → drop (5 + length a + length b) s ≡ v
past k s a b t u v e f g = grind (arith, common_steps, behind a u t f, behind b v u g)

pub returns-clause-steps : goal.returns-clause-steps
returns-clause-steps c = record {
  number = refl;
  kind = ap (λ (l : List ℕ). get_or l 0 0) c.in_ok-kind.ensures.cases.0;
  before = refl;
  rest = past c.in_ok-kind.kind.now _ _ _ _ _ _ c.in_ok-kind.ensures.cases.0 c.in_ok-under.ensures.parts c.in_ok-bytes.ensures.parts;
}
