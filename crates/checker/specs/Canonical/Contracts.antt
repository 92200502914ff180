-- What the functions inside the call canonical form are asked, and what they promise.
use Rattle.std.specs.Prelude.{ℕ, ◌≤◌, List, ◌≡◌, length}
use Rattle.octets.specs.Head.{Bytes}
use Rattle.term.specs.Term.{Term, encode}
use Rattle.term.specs.Arity.{tag_arities}
use Rattle.message.specs.Canon.{canon}
use Rattle.rewriting.specs.Table.{Ruling, passed}
use Rattle.checker.specs.Answer.{Written}
use Rattle.checker.specs.Answer.{written}
use Rattle.checker.specs.Answer.Judged as judged
use Rattle.checker.specs.Files.{term_limit, term_ruling}
use Rattle.checker.specs.Canonical.{canonical_outcome, canonical_output}

-- ── the file holds the term t under a table of slots ──
pub record Form (arities term free : List ℕ) (t : Term) : Type 0 where
  pub table : arities ≡ tag_arities free
  pub is : term_ruling arities term ≡ passed t
  pub bytes : Bytes term
  pub short : length term ≤ term_limit

-- the term is refused, or its canonical form is written, or the output is short
abbrev pub Judges : Ruling Term → List ℕ → List ℕ → Written → Type 0
Judges = judged.Judges (λ t. encode (canon t))

-- its canonical form is written, or the output is short
abbrev pub Formed : Term → List ℕ → List ℕ → Written → Type 0
Formed t output output' r = Judges (passed t) output output' r

-- ── under the table of a fit protocol ──
pub record Under (arities term free : List ℕ) : Type 0 where
  pub table : arities ≡ tag_arities free
  pub bytes : Bytes term
  pub short : length term ≤ term_limit

-- ── the call, with any work area that is long enough ──
pub record Inside (protocol term output output' : List ℕ) (r : Written) (work : ℕ) : Type 0 where
  pub answer : written r ≡ canonical_outcome protocol term (length output) work
  pub left : output' ≡ canonical_output protocol term output work
