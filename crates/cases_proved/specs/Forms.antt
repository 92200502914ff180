-- The cases of messages as bytes that canonical form writes, under every fit protocol: g is the public name 0, a, b and m are the fresh names
-- 0, 1 and 2.
use Rattle.std.specs.Prelude.{ℕ, ◌≤◌, List, [], ◌∷◌, ◌≡◌, refl, length}
use Rattle.std.proofs.Common.{ap, sym, ◌∙◌, arith}
use Rattle.octets.specs.Head.{Bytes}
use Rattle.octets.specs.Splice.{splice}
use Rattle.number.specs.Groups.{groups, groups_in, number_limit}
use Rattle.number.specs.Reading.{read_in, read_number, many}
use Rattle.term.specs.Arity.{arity, tag_arities}
use Rattle.term.specs.Term.{Term, encode}
use Rattle.term.specs.Reader.{symbol_at, term, term_in}
use Rattle.message.specs.Functions.{one, enc, dec, exp, inv, mul}
use Rattle.message.specs.Canon.{apply, canon}
use Rattle.rewriting.specs.Table.{Ruling, passed, refused, and_then}
use Rattle.protocol.specs.Protocol.{Protocol}
use Rattle.checker.specs.Answer.{work_need}
use Rattle.checker.specs.Files.{term_limit, protocol_ruling, term_ruling, term_file}
use Rattle.checker.specs.Files.Fit.{FitFile, fit_passed}
use Rattle.checker.specs.Canonical.{term_of, form_of, canonical_outcome, canonical_output}
use Rattle.checker.specs.Canonical.Cases.{no_term, room, output_written}
use Rattle.cases_proved.specs.Messages.{pn, fn}

-- a protocol and a term file, and the bytes that canonical form writes and counts, whatever the output with room for them and the work area
-- that is long enough
pub record Written (protocol term bytes output : List ℕ) (work : ℕ) : Type 0 where
  pub outcome : canonical_outcome protocol term (length output) work ≡ passed (length bytes)
  pub left : canonical_output protocol term output work ≡ splice output 0 bytes

abbrev pub Writes : List ℕ → List ℕ → List ℕ → Type 0
Writes protocol term bytes =
    (output : List ℕ) (work : ℕ) → length bytes ≤ length output → work_need ≤ work → Written protocol term bytes output work

-- and the number and item that canonical form refuses them with
abbrev pub Refuses : List ℕ → List ℕ → ℕ → ℕ → Type 0
Refuses protocol term n k = (output work : ℕ) → work_need ≤ work → canonical_outcome protocol term output work ≡ refused n k

-- ── the files ──
-- exp(exp(exp(g,a),b),inv(a)) and exp(g,b)
abbrev pub powers_file : List ℕ
powers_file = 0x0A ∷ 0x0A ∷ 0x0A ∷ 0x01 ∷ 0x00 ∷ 0x02 ∷ 0x00 ∷ 0x02 ∷ 0x01 ∷ 0x0B ∷ 0x02 ∷ 0x00 ∷ []

abbrev pub power_file : List ℕ
power_file = 0x0A ∷ 0x01 ∷ 0x00 ∷ 0x02 ∷ 0x01 ∷ []

-- inv(mul(a,inv(b))) and mul(b,inv(a))
abbrev pub inverse_file : List ℕ
inverse_file = 0x0B ∷ 0x0C ∷ 0x02 ∷ 0x00 ∷ 0x0B ∷ 0x02 ∷ 0x01 ∷ []

abbrev pub quotient_file : List ℕ
quotient_file = 0x0C ∷ 0x02 ∷ 0x01 ∷ 0x0B ∷ 0x02 ∷ 0x00 ∷ []

-- inv(one) and one
abbrev pub inverse_one_file : List ℕ
inverse_one_file = 0x0B ∷ 0x03 ∷ []

abbrev pub one_file : List ℕ
one_file = 0x03 ∷ []

-- dec(enc(m,mul(a,b)),mul(b,a)) and m
abbrev pub decrypted_file : List ℕ
decrypted_file =
    0x05 ∷ 0x04 ∷ 0x02 ∷ 0x02 ∷ 0x0C ∷ 0x02 ∷ 0x00 ∷ 0x02 ∷ 0x01 ∷ 0x0C ∷ 0x02 ∷ 0x01 ∷ 0x02 ∷ 0x00 ∷ []

abbrev pub name_file : List ℕ
name_file = 0x02 ∷ 0x02 ∷ []

-- dec(enc(m,a),b)
abbrev pub locked_file : List ℕ
locked_file = 0x05 ∷ 0x04 ∷ 0x02 ∷ 0x02 ∷ 0x02 ∷ 0x00 ∷ 0x02 ∷ 0x01 ∷ []

-- 80 00 as the number of a public name
abbrev pub name_not_shortest : List ℕ
name_not_shortest = 0x01 ∷ 0x80 ∷ 0x00 ∷ []

-- ── by computation, under any protocol ──
-- the term that a file holds, and the bytes of its canonical form
record Computed (p : Protocol) (file bytes : List ℕ) (t : Term) : Type 0 where
  pub read : term_ruling (tag_arities p.functions) file ≡ passed t
  pub form : encode (canon t) ≡ bytes

abbrev g : Term
g = pn 0

abbrev a : Term
a = fn 0

abbrev b : Term
b = fn 1

abbrev m : Term
m = fn 2

computed :
    (p : Protocol)
    → Computed p powers_file power_file (exp (exp (exp g a) b) (inv a))
    × Computed p inverse_file quotient_file (inv (mul a (inv b)))
    × Computed p inverse_one_file one_file (inv one)
    × Computed p decrypted_file name_file (dec (enc m (mul a b)) (mul b a))
    × Computed p locked_file locked_file (dec (enc m a) b)
    × (term_ruling (tag_arities p.functions) name_not_shortest ≡ refused 3 4)
unfolding term_file term term_in symbol_at arity tag_arities many read_number read_in number_limit apply groups groups_in
computed p = (
  record { read = refl; form = refl },
  record { read = refl; form = refl },
  record { read = refl; form = refl },
  record { read = refl; form = refl },
  record { read = refl; form = refl },
  refl,
)

-- ── the cases, under every fit protocol, whatever the output and the work area ──
module _ (protocol : List ℕ) (bytes : Bytes protocol) (p : Protocol) (fit : FitFile protocol p) where
  by_file : {file form : List ℕ} {t : Term} → length file ≤ term_limit → Computed p file form t → Writes protocol file form
  by_file {file} {form} {t} short c output work enough long =
      let passes : protocol_ruling protocol ≡ passed p = fit_passed protocol bytes p fit in
      let held : term_of protocol file ≡ passed t =
      ap (λ (r : Ruling Protocol). and_then r (λ q. term_ruling (tag_arities q.functions) file)) passes ∙ c.read in
      let e : canonical_outcome protocol file (length output) work ≡ passed (length form) =
      room protocol file (length output) work long fit.short short p passes t c.read (omega (arith, ap length c.form, enough))
      ∙ ap (λ (l : List ℕ). passed (length l)) c.form in
      record { outcome = e; left = sym (output_written protocol file output form work (length form) e (ap form_of held ∙ c.form)) }

  pub powers : Writes protocol powers_file power_file
  powers = by_file (omega arith) (computed p).0

  pub inverse : Writes protocol inverse_file quotient_file
  inverse = by_file (omega arith) (computed p).1

  pub inverse_one : Writes protocol inverse_one_file one_file
  inverse_one = by_file (omega arith) (computed p).2

  pub decrypted : Writes protocol decrypted_file name_file
  decrypted = by_file (omega arith) (computed p).3

  pub locked : Writes protocol locked_file locked_file
  locked = by_file (omega arith) (computed p).4

  pub refuses : Refuses protocol name_not_shortest 3 4
  refuses output work long =
      no_term protocol name_not_shortest output work long fit.short (omega arith) p (fit_passed protocol bytes p fit) 3 4 (computed p).5
