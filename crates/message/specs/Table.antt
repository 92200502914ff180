-- The table of subterm rules: figure 2's (1) to (3) and Change 4's two as rows. A later operator's equation is one more row.
use Rattle.std.specs.Prelude.{ℕ, eqb}
use Rattle.std.specs.Prelude.{Option, Some}
use Rattle.term.specs.Tags.{dec_tag, fst_tag, snd_tag, adec_tag, verify_tag}
use Rattle.lists.specs.Choice.{pick}
use Rattle.term.specs.Term.{variable, Term, leaf, Terms, nil, ◌&◌}
use Rattle.message.specs.Functions.{enc, pair, aenc, pk, sign, yes}
use Rattle.message.specs.Rules.{Rule}

-- a row is a function's tag, its arguments, and the result
pub data Table : Type 0 where
  end : Table
  row : ℕ → Terms → Term → Table → Table

-- the first row of a tag
abbrev pub lookup : Table → ℕ → Option Rule
lookup end f = Option.None
lookup (row g ts u rows) f = pick (eqb f g) (Some (record { args = ts; result = u })) (lookup rows f)

abbrev pub x : Term
x = leaf variable 0

abbrev pub y : Term
y = leaf variable 1

-- dec(enc(x,y),y) = x; fst(pair(x,y)) = x; snd(pair(x,y)) = y; adec(aenc(x,pk(y)),y) = x; verify(sign(x,y),x,pk(y)) = true
abbrev pub table : Table
table =
    row dec_tag (enc x y & y & nil) x
    (row fst_tag (pair x y & nil) x
    (row snd_tag (pair x y & nil) y
    (row adec_tag (aenc x (pk y) & y & nil) x
    (row verify_tag (sign x y & x & pk y & nil) yes
    end))))

abbrev pub rules : ℕ → Option Rule
rules = lookup table
