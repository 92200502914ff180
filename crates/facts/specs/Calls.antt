-- The facts of nodes as calls take them: a node's number, the list of its rule, the number in that list.
use Rattle.std.specs.Prelude.{ℕ, ◌+◌, ◌≤◌, ◌<◌, List, Bool, ◌≡◌, length, get_or, eqb}
use Rattle.lists.specs.Reflects.{Reflects}
use Rattle.octets.specs.Limits.{longest}
use Rattle.octets.specs.Compare.{compare_bytes, is_equal}
use Rattle.term.specs.Term.{Term}
use Rattle.term.specs.Arity.{arity, tag_arities}
use Rattle.message.specs.Equations.{Same}
use Rattle.protocol.specs.Protocol.{Fact, Protocol, no_fact}
use Rattle.steps.specs.Nodes.{Node}
use Rattle.steps.specs.Facts.{facts_of, SameFact}
use Rattle.steps.specs.Values.{NodeRight}
use Rattle.steps.specs.Values.Parts.{no_term}
use Rattle.steps.specs.Table.{NodeIn}
use Rattle.facts.specs.declared.writing.Wanted.{Wanted}
use Rattle.facts.specs.declared.writing.Wanted.TheVariants as want
use Rattle.facts.specs.declared.nodes.FactId.{FactId}
use Rattle.facts.specs.declared.nodes.PlacedFact.{PlacedFact}
use Rattle.facts.specs.declared.nodes.WrittenFact.{WrittenFact}
use Rattle.facts.specs.declared.compare.Both.{Both}
use Rattle.facts.specs.Rules.{fact_start}
use Rattle.facts.specs.Writing.{fact_room, Has, wanted_bytes, Put}
-- a node's fact can be written
pub mod Laws
-- facts are the same just where their symbols and canonical bytes are; facts that are equal as they stand are
pub mod Bytes
-- what the answers mean by the equations
pub mod Meaning
-- numbers from 0 here, from 1 in crate rewriting
pub mod Numbers
-- what is written one behind the other; a public name
pub mod Names
pub mod Two

-- ── facts and arguments by number, from 0 ──
abbrev pub fact_at : Protocol → ℕ → ℕ → Node → Fact
fact_at P list i x = get_or (facts_of P list x) i no_fact

abbrev pub argument_at : Protocol → ℕ → ℕ → ℕ → Node → Term
argument_at P list i j x = get_or (fact_at P list i x).terms j no_term

-- ── what is asked ──
-- there is room for a fact from o on
pub record Room (out : List ℕ) (o : ℕ) : Type 0 where
  pub enough : o + fact_room ≤ length out
  pub short : length out ≤ longest

-- node j stands in the table, whatever its file is; and has the fact
abbrev pub NodeOf : List ℕ → List ℕ → ℕ → List ℕ → Protocol → Node → Type 0
NodeOf p nodes j s = NodeIn p s nodes j

pub record ListedFact (p nodes : List ℕ) (a : FactId) (s : List ℕ) (P : Protocol) (x : Node) : Type 0 where
  pub node : NodeIn p s nodes a.node P x
  pub listed : a.number < length (facts_of P a.list x)

-- the node stands in the table, 7 and 8 are absent from it, and it has the fact and the argument that is wanted
pub record FactIn (p s nodes : List ℕ) (a : FactId) (q : Wanted) (P : Protocol) (x : Node) : Type 0 where
  pub node : NodeIn p s nodes a.node P x
  pub right : NodeRight P x
  pub listed : a.number < length (facts_of P a.list x)
  pub has : Has q (fact_at P a.list a.number x)

-- it stands at that place
abbrev pub AtPlace : List ℕ → List ℕ → PlacedFact → Type 0
AtPlace p nodes a = a.place ≡ fact_start p nodes a.id.node a.id.list a.id.number

-- the whole fact; one argument of it
abbrev pub WholeFact : List ℕ → List ℕ → List ℕ → FactId → Protocol → Node → Type 0
WholeFact p s nodes a = FactIn p s nodes a want.All

abbrev pub OneOf : List ℕ → List ℕ → List ℕ → FactId → ℕ → Protocol → Node → Type 0
OneOf p s nodes a j = FactIn p s nodes a (want.One j)

-- facts of two nodes, of one protocol
pub record FactsIn (p s nodes : List ℕ) (a : FactId) (q : Wanted) (b : FactId) (r : Wanted) (P : Protocol) (x y : Node) : Type 0 where
  pub first : FactIn p s nodes a q P x
  pub second : FactIn p s nodes b r P y

-- ── what is promised: the fact's symbol, and the bytes that are wanted ──
pub record FactWritten (q : Wanted) (out : List ℕ) (o : ℕ) (out' : List ℕ) (r : WrittenFact) (f : Fact) : Type 0 where
  pub symbols : r.symbol ≡ f.symbol
  pub put : Put out o out' r.end (wanted_bytes q f)

-- "equal facts count as the same fact": the answer says whether two are the same by the equations
abbrev pub TellsFacts : Protocol → Fact → Fact → Bool → Type 0
TellsFacts P f g r = Reflects (SameFact (arity (tag_arities P.functions)) f g) r

-- "Two messages count as equal exactly when the paper's ten equations make them equal", from Change 4 on all twelve: whether two are
abbrev pub TellsTerms : Protocol → Term → Term → Bool → Type 0
TellsTerms P t u r = Reflects (Same (arity (tag_arities P.functions)) t u) r

-- the tests of the two facts' symbols and bytes
pub record Compared (p : Wanted) (f : Fact) (q : Wanted) (g : Fact) (r : Both) : Type 0 where
  pub symbols : r.symbols ≡ eqb f.symbol g.symbol
  pub bytes : r.bytes ≡ is_equal (compare_bytes (wanted_bytes p f) (wanted_bytes q g))
