-- "The M cases form one proved table, its claim made over the definitions."
use Rattle.std.specs.Prelude.{ℕ, List, [], ◌∷◌, ◌≢◌, ◌≡◌}
use Rattle.lists.specs.All.{All}
use Rattle.octets.specs.Head.{Bytes}
use Rattle.term.specs.Term.{Term}
use Rattle.message.specs.Functions.{one, enc, dec, exp, inv, mul}
use Rattle.message.specs.Canon.{canon}
use Rattle.rewriting.specs.Table.{Ruling, refused}
use Rattle.protocol.specs.Protocol.{Protocol}
use Rattle.checker.specs.Files.Fit.{FitFile}
use Rattle.checker.specs.Check.{Checked}
use Rattle.checker.specs.Line.{line_of}
use Rattle.checker.specs.Line.Printed as printed
use Rattle.checker.specs.Line.Printed.{attack_4_2_3_text, refused_12_4_text, attack_0_0_0_text, refused_3_1_text, refused_3_2_text, refused_3_3_text}
use Rattle.cases_proved.specs.Each.{done, ◌and◌, every}
use Rattle.cases_proved.specs.Numbers as numbers
use Rattle.cases_proved.specs.Messages.{pn, fn, Form, form_canon, powers, inverse, inverse_one, decrypted, locked}
use Rattle.cases_proved.specs.Lines as lines
use Rattle.cases_proved.specs.Lines.{attack, Line, printed_protocol, printed_property, printed_graph, without_last_edge}
use Rattle.cases_proved.specs.Lines.{no_graph, falsehood, not_shortest, its_protocol, printed_bytes, printed_fit}
use Rattle.cases_proved.specs.Forms as forms
use Rattle.cases_proved.specs.Forms.{Writes, Refuses, powers_file, power_file, inverse_file, quotient_file, inverse_one_file, one_file}
use Rattle.cases_proved.specs.Forms.{decrypted_file, name_file, locked_file, name_not_shortest}

-- ── what a case claims ──
pub data Case : Type 0 where
  -- three files, the outcome of checking them, and the line that is written
  line : List ℕ → List ℕ → List ℕ → Ruling Checked → List ℕ → Case
  -- a term, and its canonical form
  form : Term → Term → Case
  -- a protocol and a term file, and the bytes that canonical form writes
  writes : List ℕ → List ℕ → List ℕ → Case
  -- a protocol and a term file, and the number and item that canonical form refuses it with
  refuses : List ℕ → List ℕ → ℕ → ℕ → Case
  -- bytes, and the number that they are
  number : List ℕ → ℕ → Case
  -- bytes that are no number
  no_number : List ℕ → Case

abbrev pub Holds : Case → Type 0
Holds (line protocol property graph r text) = Line protocol property graph r × (line_of r ≡ text)
Holds (form t u) = ((free : List ℕ) → Form free t u) × (canon t ≡ u)
Holds (writes protocol term bytes) = Writes protocol term bytes
Holds (refuses protocol term n k) = Refuses protocol term n k
Holds (number bytes n) = numbers.Number bytes n
Holds (no_number bytes) = numbers.NoNumber bytes

-- ── the table: under a protocol file where the case names none, with the numbers of a public name g and of fresh names a, b, m ──
module _ (protocol : List ℕ) (gi ai bi mi : ℕ) where
  abbrev g : Term
  g = pn gi

  abbrev a : Term
  a = fn ai

  abbrev b : Term
  b = fn bi

  abbrev m : Term
  m = fn mi

  abbrev pub marked : List Case
  marked =
      -- "that line"
      line printed_protocol printed_property printed_graph (attack 4 2 3) attack_4_2_3_text
      -- "without its last edge, `refused 12 4`"
      ∷ line printed_protocol printed_property without_last_edge (refused 12 4) refused_12_4_text
      -- "graph 00 00 with property 00, `attack 0 0 0`"
      ∷ line printed_protocol falsehood no_graph (attack 0 0 0) attack_0_0_0_text
      ∷ line protocol falsehood no_graph (attack 0 0 0) attack_0_0_0_text
      -- "exp(exp(exp(g,a),b),inv(a)) is exp(g,b)"
      ∷ form (exp (exp (exp g a) b) (inv a)) (exp g b)
      ∷ writes protocol powers_file power_file
      -- "inv(mul(a,inv(b))) is mul(b,inv(a))"
      ∷ form (inv (mul a (inv b))) (mul b (inv a))
      ∷ writes protocol inverse_file quotient_file
      -- "inv(one) is one"
      ∷ form (inv one) one
      ∷ writes protocol inverse_one_file one_file
      -- "dec(enc(m,mul(a,b)),mul(b,a)) is m"
      ∷ form (dec (enc m (mul a b)) (mul b a)) m
      ∷ writes protocol decrypted_file name_file
      -- "dec(enc(m,a),b) stays"
      ∷ form (dec (enc m a) b) (dec (enc m a) b)
      ∷ writes protocol locked_file locked_file
      -- "80 01 is 128"
      ∷ number (0x80 ∷ 0x01 ∷ []) 128
      -- "80 00 refused": as a number, and by the calls in each file
      ∷ no_number not_shortest
      ∷ line not_shortest falsehood no_graph (refused 3 1) refused_3_1_text
      ∷ line protocol not_shortest no_graph (refused 3 2) refused_3_2_text
      ∷ line protocol falsehood not_shortest (refused 3 3) refused_3_3_text
      ∷ refuses protocol name_not_shortest 3 4
      ∷ []

-- a form under any free functions is the one that the calls write
whole : {t u : Term} → ((free : List ℕ) → Form free t u) → Holds (form t u)
whole {t} {u} f = (f, form_canon [] t u (f []))

-- ── each case holds, under every fit protocol file and for names of any distinct numbers ──
module _ (protocol : List ℕ) (bytes : Bytes protocol) (p : Protocol) (fit : FitFile protocol p) where
  pub marked_hold : (gi ai bi mi : ℕ) → ai ≢ bi → All Holds (marked protocol gi ai bi mi)
  marked_hold gi ai bi mi d =
      every Holds (marked protocol gi ai bi mi)
      ((lines.printed_line, printed.attack_4_2_3)
      and (lines.edge_missing, printed.refused_12_4)
      and (lines.empty_line printed_protocol printed_bytes its_protocol printed_fit, printed.attack_0_0_0)
      and (lines.empty_line protocol bytes p fit, printed.attack_0_0_0)
      and whole (λ free. powers free gi ai bi mi)
      and forms.powers protocol bytes p fit
      and whole (λ free. inverse free gi ai bi mi d)
      and forms.inverse protocol bytes p fit
      and whole inverse_one
      and forms.inverse_one protocol bytes p fit
      and whole (λ free. decrypted free gi ai bi mi)
      and forms.decrypted protocol bytes p fit
      and whole (λ free. locked free gi ai bi mi d)
      and forms.locked protocol bytes p fit
      and numbers.two_groups
      and numbers.not_shortest
      and (lines.protocol_refused, printed.refused_3_1)
      and (lines.property_refused protocol bytes p fit, printed.refused_3_2)
      and (lines.graph_refused protocol bytes p fit, printed.refused_3_3)
      and forms.refuses protocol bytes p fit
      and done)

-- and under the printed protocol
pub printed_hold : (gi ai bi mi : ℕ) → ai ≢ bi → All Holds (marked printed_protocol gi ai bi mi)
printed_hold = marked_hold printed_protocol printed_bytes its_protocol printed_fit
