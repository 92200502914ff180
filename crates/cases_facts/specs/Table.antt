-- The nodes of a good step list, their facts and the arguments of these: of each the calls of crate facts can be asked.
use Rattle.std.specs.Prelude.{ℕ}
use Rattle.lists.specs.Asks.{Asks₂}
use Rattle.steps.specs.Causes.Good.{RightNodes}
use Rattle.facts.specs.declared.nodes.FactId.{FactId}
use Rattle.facts.specs.declared.writing.Wanted.TheVariants as want
use Rattle.facts.specs.Owed.{HasFact}
use Rattle.cases_facts.specs.declared.table.NodeTable.{NodeTable}
use Rattle.cases_facts.specs.declared.table.Argument.{Argument}

-- its nodes are right
unfoldable pub AreRight : NodeTable → Type 0
AreRight t = Asks₂ (RightNodes t.p.now t.list.now t.rows.now t.n)

-- a fact of one of them
unfoldable pub IsFact : NodeTable → FactId → Type 0
IsFact t x = HasFact t.p.now t.list.now t.rows.now t.n x want.All

-- an argument of a fact of one of them
unfoldable pub IsArgument : NodeTable → Argument → Type 0
IsArgument t a = HasFact t.p.now t.list.now t.rows.now t.n a.place (want.One a.number)

-- how many facts a table keeps, and how many arguments
abbrev pub most_facts : ℕ
most_facts = 64

abbrev pub most_arguments : ℕ
most_arguments = 256
