-- What the code answers of a list of nodes.
use Rattle.std.specs.Prelude.{ℕ, ◌≤◌, List, ◌≡◌, length, Result, Ok, Err}
use Rattle.std.proofs.Common.{ap, sym, ◌∙◌, subst}
use Rattle.rewriting.specs.Table.{Ruling, passed, refused}
use Rattle.octets.specs.Head.{Bytes}
use Rattle.octets.specs.Limits.{longest}
use Rattle.protocol.specs.Protocol.{Protocol}
use Rattle.prepared.specs.Prepared.{Prepared}
use Rattle.steps.specs.Nodes.{Node, Reading, steps}
use Rattle.steps.specs.Nodes.Code.{NodesAre, Told}
use Rattle.steps.specs.Nodes.Exact.{steps_form}
use Rattle.steps.specs.Table.{NodesIn}
use Rattle.steps.specs.Table.Laws.{nodes_in}
use Rattle.steps.specs.Causes.{steps_item, node_ruling, list_ruling}
use Rattle.steps.specs.declared.nodes.NodesFault.{NodesFault}
use Rattle.steps.specs.declared.nodes.NodesFault.TheVariants as all
use Rattle.rewriting.specs.declared.Refusal.{Refusal}
use Rattle.rewriting.specs.Answers.{refusal, answered}

-- 3 or 6 of a list of nodes, in the file of this item
abbrev pub fault_refusal : NodesFault → ℕ → Refusal
fault_refusal all.Broken item = refusal 3 item
fault_refusal (all.NoRule k) item = refusal 6 k

-- of the nodes their number
abbrev pub counted : Ruling (List Node) → Ruling ℕ
counted (passed xs) = passed (length xs)
counted (refused n k) = refused n k

-- ── a list as it was read ──
-- of a step list or of a graph, by its item
pub fault_ruled :
    (P : Protocol) (p s nodes : List ℕ) (q : Reading (List Node)) (f : NodesFault) (item : ℕ) → Told q p s nodes (Err f)
    → answered {A = ℕ} (Err (fault_refusal f item)) ≡ counted (list_ruling P item q)
fault_ruled P p s nodes q all.Broken item h = ap (λ (r : Reading (List Node)). counted (list_ruling P item r)) (sym h)
fault_ruled P p s nodes q (all.NoRule k) item h = ap (λ (r : Reading (List Node)). counted (list_ruling P item r)) (sym h)

module _ (P : Protocol) (p s nodes : List ℕ) (r : Result (ℕ × ℕ) NodesFault) (told : Told (steps P s) p s nodes r) where
  abbrev Whole : Ruling ℕ
  Whole = counted (list_ruling P steps_item (steps P s))

  as_told : {q : Result (ℕ × ℕ) NodesFault} → r ≡ q → Told (steps P s) p s nodes q
  as_told h = subst (Told (steps P s) p s nodes) h told

  module _ {n e : ℕ} (h : r ≡ Ok (n, e)) where
    pub list_read : NodesAre (steps P s) p s nodes n e
    list_read = as_told h

    -- the nodes that were read stand in the table
    pub list_in : Prepared p P → Bytes s → length s ≤ longest → NodesIn p s nodes n P list_read.items
    list_in f bytes short =
        let t = list_read in
        nodes_in f (steps_form P s bytes t.items e t.there).0 t.count t.rows t.long short

    pub list_nodes : (j : Result ℕ Refusal) → answered j ≡ counted (node_ruling P list_read.items) → answered j ≡ Whole
    list_nodes j k = k ∙ ap (λ (q : Reading (List Node)). counted (list_ruling P steps_item q)) (sym list_read.there)
