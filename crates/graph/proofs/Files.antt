-- What the code answers of a whole graph file.
use Rattle.std.specs.Prelude.{Result, Ok, Err, ⊤, ℕ, ◌≤◌, List, ◌≡◌, length}
use Rattle.std.proofs.Math.Path.{ap, subst}
use Rattle.std.proofs.Common.{◌∙◌}
use Rattle.octets.specs.Head.{Bytes}
use Rattle.octets.specs.Limits.{longest}
use Rattle.rewriting.specs.Answers.{answered}
use Rattle.rewriting.specs.Table.{passed, refused, and_then}
use Rattle.protocol.specs.Protocol.{Protocol}
use Rattle.prepared.specs.Prepared.{Prepared}
use Rattle.steps.specs.Nodes.{Reading}
use Rattle.steps.specs.Table.Laws.{nodes_in}
use Rattle.steps.specs.Causes.{graph_item, read_ruling}
use Rattle.steps.specs.Causes.Code.{fault_refusal}
use Rattle.steps.specs.declared.nodes.NodesFault.{NodesFault}
use Rattle.steps.specs.declared.nodes.NodesFault.TheVariants as fault
use Rattle.rewriting.specs.declared.Refusal.{Refusal}
use Rattle.graph.specs.Graph.{Graph}
use Rattle.graph.proofs.Graph.Exact.{graph_form}
use Rattle.graph.specs.Causes.{ruling, graph_ruling}
use Rattle.graph.specs.Table.{ReadIn}
use Rattle.graph.specs.Reading.{GraphIs, GraphTold}
use Rattle.graph.specs.Ruling.{GoodGraph, ReadDecided}

module _ (P : Protocol) (p s nodes edges : List ℕ) (r : Result (ℕ × ℕ) NodesFault) (told : GraphTold P p s nodes edges r) where
  as_told : {q : Result (ℕ × ℕ) NodesFault} → r ≡ q → GraphTold P p s nodes edges q
  as_told h = subst (GraphTold P p s nodes edges) h told

  pub file_fault : (f : NodesFault) → r ≡ Err f → graph_ruling P s ≡ answered (Err (fault_refusal f graph_item))
  unfolding graph_ruling
  file_fault fault.Broken h = ap (λ (q : Reading Graph). and_then (read_ruling graph_item q) (ruling P)) (as_told h)
  file_fault (fault.NoRule k) h = ap (λ (q : Reading Graph). and_then (read_ruling graph_item q) (ruling P)) (as_told h)

  module _ {n m : ℕ} (h : r ≡ Ok (n, m)) (prepared : Prepared p P) (bytes : Bytes s) (short : length s ≤ longest)
    where
      pub file_read : GraphIs P p s nodes edges n m
      file_read = as_told h

      pub file_in : ReadIn p s nodes n edges m P file_read.is
      file_in =
          let t = file_read in
          record {
            nodes_in = nodes_in prepared (graph_form s bytes P t.is (length s) t.there).0.0 t.count t.rows t.long short;
            edges_in = t.edges_in;
          }

      module _ {q : Result ⊤ Refusal} (decided : ReadDecided P file_read.is q) where
        pub file_passed : {u : ⊤} → q ≡ Ok u → GoodGraph P p s nodes n m
        unfolding graph_ruling
        file_passed e =
            let t = file_read in
            let d : ruling P t.is ≡ passed t.is = (subst (ReadDecided P t.is) e decided).0 in
            record {
              is = t.is;
              ruled = ap (λ (o : Reading Graph). and_then (read_ruling graph_item o) (ruling P)) t.there ∙ d;
              nodes_in = record { stand = file_in.nodes_in; right = decided.1 d };
              edge_count = t.edges_in.count;
            }

        pub file_refused : {d : Refusal} → q ≡ Err d → graph_ruling P s ≡ refused d.number d.item
        unfolding graph_ruling
        file_refused {d} e =
            ap (λ (o : Reading Graph). and_then (read_ruling graph_item o) (ruling P)) file_read.there
            ∙ (subst (ReadDecided P file_read.is) e decided).0
