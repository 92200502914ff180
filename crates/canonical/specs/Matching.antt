-- A rule's patterns against the arguments of a function, symbol by symbol: what is left of both, and where the values of the variables stand.
use Rattle.std.specs.Prelude.{ℕ, ◌+◌, ◌≤◌, ◌<◌, List, ◌≡◌, ◌⊎◌, Bool, true, false, length, get_or}
use Rattle.std.specs.Prelude.{Option, Some, None}
use Rattle.canonical.specs.declared.Span.{Span}
use Rattle.octets.specs.Limits.{longest}
use Rattle.octets.specs.Head.{Stands}
use Rattle.term.specs.Tags.{first_function}
use Rattle.term.specs.Term.{variable, public, fresh, Term, leaf, app, Terms, nil, ◌&◌, count, encode, encodes, Formeds, Occurss}
use Rattle.term.specs.Arity.{arity}
use Rattle.number.specs.Groups.{base}
use Rattle.message.specs.Substitution.{subs}
use Rattle.message.specs.Rules.{Rule}
use Rattle.message.specs.Table.{rules}
use Rattle.factors.specs.Laid.{Laid}
use Rattle.canonical.specs.Inner.{Here, Built}

-- as many variables as a rule has at most
abbrev pub variables : ℕ
variables = 2

-- a pattern has such variables, functions whose tags take one byte, and no names
abbrev mutual
  pub Pattern : Term → Type 0
  Pattern (leaf variable n) = n < variables
  Pattern (leaf public n) = ⊥
  Pattern (leaf fresh n) = ⊥
  Pattern (app f ts) = (first_function ≤ f) × (f < base) × Patterns ts

  pub Patterns : Terms → Type 0
  Patterns nil = Unit {0}
  Patterns (t & ts) = Pattern t × Patterns ts

-- where the value of variable v stands; None where it was not met yet
abbrev pub span_of : List (Option Span) → ℕ → Option Span
span_of S v = get_or S v None

abbrev pub Met : List (Option Span) → ℕ → Type 0
Met S v = (s : Span) × (span_of S v ≡ Some s)

-- the patterns ps are left from i on and the arguments ts from `at` on, and the variables that were met have the values θ
pub record Left (arities out : List ℕ) (e : ℕ) (patterns : List ℕ) (i at : ℕ) (S : List (Option Span)) (ps ts : Terms) (θ : ℕ → Term) : Type 0 where
  pub shaped : Patterns ps
  pub pattern : Laid arities patterns i ps
  pub pattern_ends : length patterns ≡ i + length (encodes ps)
  pub argument : Laid arities out at ts
  pub ends : e ≡ at + length (encodes ts)
  pub many : count ts ≡ count ps
  pub values : (v : ℕ) (s : Span) → span_of S v ≡ Some s → Here arities out s.from s.to (θ v)
  pub spans : length S ≡ variables
  pub short : length out ≤ longest

-- η makes the patterns the arguments, and gives the variables that were met their values
pub record Solves (S : List (Option Span)) (ps ts : Terms) (θ η : ℕ → Term) : Type 0 where
  pub same : ts ≡ subs η ps
  pub met : (v : ℕ) → Met S v → η v ≡ θ v

-- further on: the same solutions, no variable is lost, and a value that is new stands behind the arguments' place
pub record Further (arities out : List ℕ) (e : ℕ) (patterns : List ℕ) (at : ℕ) (S : List (Option Span)) (i' at' : ℕ) (S' : List (Option Span))
    (ps ts : Terms) (θ : ℕ → Term) : Type 0 where
  pub ps' : Terms
  pub ts' : Terms
  pub θ' : ℕ → Term
  pub left : Left arities out e patterns i' at' S' ps' ts' θ'
  pub forth : (η : ℕ → Term) → Solves S ps ts θ η → Solves S' ps' ts' θ' η
  pub back : (η : ℕ → Term) → Solves S' ps' ts' θ' η → Solves S ps ts θ η
  pub seen : (v : ℕ) → Occurss variable v ps ⊎ Met S v → Occurss variable v ps' ⊎ Met S' v
  pub onward : at ≤ at'
  pub lies : (v : ℕ) (s : Span) → span_of S' v ≡ Some s → (at ≤ s.from) ⊎ (span_of S v ≡ Some s)

abbrev pub Stepped :
    List ℕ → List ℕ → ℕ → List ℕ → ℕ → ℕ → List (Option Span) → List (Option Span) → Option (ℕ × ℕ) → Terms → Terms → (ℕ → Term) → Type 0
Stepped arities out e patterns i at S S' (Some (i', at')) ps ts θ = (i < i') × Further arities out e patterns at S i' at' S' ps ts θ
Stepped arities out e patterns i at S S' None ps ts θ = (η : ℕ → Term) → Solves S ps ts θ η → ⊥

-- the value of variable v, its place, and where that lies
pub record Placed (arities out : List ℕ) (at : ℕ) (S S' : List (Option Span)) (v : ℕ) (t : Term) : Type 0 where
  pub span : Span
  pub there : span_of S' v ≡ Some span
  pub here : Here arities out span.from span.to t
  pub lies : (at ≤ span.from) ⊎ (span_of S v ≡ Some span)

-- at the end: a solution, its values at their places; or there is none
pub record Solution (arities out : List ℕ) (at : ℕ) (S S' : List (Option Span)) (ps ts : Terms) (θ : ℕ → Term) : Type 0 where
  pub η : ℕ → Term
  pub solves : Solves S ps ts θ η
  pub placed : (v : ℕ) → Occurss variable v ps → Placed arities out at S S' v (η v)

abbrev pub Fits : List ℕ → List ℕ → ℕ → List (Option Span) → List (Option Span) → Bool → Terms → Terms → (ℕ → Term) → Type 0
Fits arities out at S S' true ps ts θ = Solution arities out at S S' ps ts θ
Fits arities out at S S' false ps ts θ = (η : ℕ → Term) → Solves S ps ts θ η → ⊥

-- ── a rule's result ──
-- q is what a result stands for: the value of a variable, which stands behind o, or itself
pub data Given (out : List ℕ) (o : ℕ) (result : List ℕ) (S : List (Option Span)) (q : List ℕ) : Type 0 where
  a_value :
      (v : ℕ) (s : Span) → result ≡ encode (leaf variable v) → v < variables → span_of S v ≡ Some s → o ≤ s.from → s.from ≤ s.to → s.to ≤ length out
      → Stands out s.from q s.to → Given out o result S q
  a_constant : (f : ℕ) → result ≡ encode (app f nil) → first_function ≤ f → f < base → q ≡ result → o < length out → Given out o result S q

-- ── a rule in bytes ──
-- the rule of tag f: the patterns of its arguments and its result
pub record Row (arities : List ℕ) (f : ℕ) (patterns result : List ℕ) : Type 0 where
  pub rule : Rule
  pub is : rules f ≡ Some rule
  pub small : f < base
  pub takes : arity arities f ≡ Some (count rule.args)
  pub shaped : Patterns rule.args
  pub formed : Formeds (arity arities) rule.args
  pub args : patterns ≡ encodes rule.args
  pub gives : result ≡ encode rule.result

-- a function of made arguments that has this rule
pub record Ruled (arities out : List ℕ) (o e : ℕ) (patterns result : List ℕ) (f : ℕ) (us : Terms) : Type 0 where
  pub row : Row arities f patterns result
  pub built : Built arities out o e f us
