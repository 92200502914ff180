-- The least edge whose ends are not right is the first bad one.
use Rattle.std.proofs.Common.{rules, tests, ◌≡◌, Bool, ℕ, List, sym}
use Rattle.lists.specs.Asks.{Promises₃}
use Rattle.protocol.specs.Protocol.{Protocol}
use Rattle.steps.specs.Nodes.{Node}
use Rattle.rewriting.specs.Checker.{ends_ok}
use Rattle.steps.specs.Runs.{protocol_facts, rewrittens}
use Rattle.graph.specs.Graph.{Graph}
use Rattle.graph.specs.Table.{edge_at, NodesOf, GraphIn}
use Rattle.graph.specs.Scan.{edges_listed, searched}
use Rattle.graph.proofs.ends.end_pass.Goals as goal

told :
    {p s nodes : List ℕ} {n : ℕ} (edges : List ℕ) {m : ℕ} {P : Protocol} {g : Graph} → GraphIn p s nodes n edges m P g → (j : ℕ) (r : Bool)
    → Promises₃ (NodesOf p nodes n) (λ (s : List ℕ) (P : Protocol) (xs : List Node). r ≡ ends_ok (protocol_facts P) (rewrittens P xs) (edge_at edges j))
    → ends_ok (protocol_facts P) (rewrittens P g.nodes) (edge_at edges j) ≡ r
told edges h j r t = sym (t _ _ _ h.nodes_in.stand)

pub returns : goal.returns
returns c =
    λ s P g h. searched (edges_listed h.edges_in) (λ k. ends_ok (protocol_facts P) (rewrittens P g.nodes)) _
    (λ e j l. let p = c.first_failing.ensures.none e j l in search (rules, tests, told c.args.edges.now h j))
    (λ k e. let (j, is, l, f, before) = c.first_failing.ensures.some k e in
    (j, is, l, search (rules, tests, told c.args.edges.now h j), λ i b. let p = before i b in search (rules, tests, told c.args.edges.now h i)))
