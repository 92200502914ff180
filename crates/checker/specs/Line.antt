-- "one line with a line feed: `attack` (false) or `run` (true), then nodes, nodes with an action, edges; or `refused`, number, item"
use Rattle.std.specs.Prelude.{ℕ, zero, suc, ◌+◌, ◌*◌, ◌/◌, ◌%◌, List, [], ◌∷◌, ◌++◌, Bool, true, false, ◌≡◌, length, ltb}
use Rattle.lists.specs.Choice.{pick}
use Rattle.octets.specs.Splice.{splice}
use Rattle.rewriting.specs.Table.{Ruling, passed, refused}
use Rattle.checker.specs.Check.{Checked}
-- decimal figures one by one, the room of a number, one write behind the other, the line
pub mod Laws
-- the lines that document 01 prints, and some refusals
pub mod Printed

-- ── the words ──
-- attack
abbrev pub attack_word : List ℕ
attack_word = 97 ∷ 116 ∷ 116 ∷ 97 ∷ 99 ∷ 107 ∷ []

-- run
abbrev pub run_word : List ℕ
run_word = 114 ∷ 117 ∷ 110 ∷ []

-- refused
abbrev pub refused_word : List ℕ
refused_word = 114 ∷ 101 ∷ 102 ∷ 117 ∷ 115 ∷ 101 ∷ 100 ∷ []

abbrev pub word_of : Bool → List ℕ
word_of false = attack_word
word_of true = run_word

-- ── the numbers ──
-- 0 to 9
abbrev pub figure : ℕ → ℕ
figure d = 48 + d

-- what stands before the last figure, and the last figure; there are no more figures than `most`
abbrev pub figures : ℕ → ℕ → List ℕ
figures zero n = []
figures (suc most) n = pick (ltb n 10) (figure n ∷ []) (figures most (n / 10) ++ (figure (n % 10) ∷ []))

-- the decimal figures of a number
unfoldable pub decimal : ℕ → List ℕ
decimal n = figures (suc n) n

abbrev pub blank : ℕ
blank = 32

abbrev pub line_feed : ℕ
line_feed = 10

-- each number behind a blank, and the line feed
abbrev pub numbers : List ℕ → List ℕ
numbers [] = line_feed ∷ []
numbers (n ∷ ns) = (blank ∷ decimal n) ++ numbers ns

-- ── the line ──
abbrev pub line_of : Ruling Checked → List ℕ
line_of (passed c) = word_of c.holds ++ numbers (c.nodes ∷ c.active ∷ c.edges ∷ [])
line_of (refused n k) = refused_word ++ numbers (n ∷ k ∷ [])

-- ── writing it ──
-- the room of a number, its blank and twenty figures; of the longest line: a word of seven letters, three numbers, the line feed
abbrev pub number_room : ℕ
number_room = 21

abbrev pub word_room : ℕ
word_room = 7

abbrev pub line_room : ℕ
line_room = word_room + 3 * number_room + 1

-- these bytes were written from a place on, up to `end`, and the rest is as it was
pub record Put (out : List ℕ) (at : ℕ) (bytes out' : List ℕ) (end : ℕ) : Type 0 where
  pub ends : end ≡ at + length bytes
  pub wrote : out' ≡ splice out at bytes
