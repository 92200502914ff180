-- Document 02, Change 4, at the files: "Message equality is from then on the congruence of all twelve equations." Files without the six functions keep
-- their rulings: what is accepted and what is true of them is what document 01's ten equations say over document 01's messages.
use Rattle.std.specs.Prelude.{ℕ, ◌≤◌, true, List, [], ◌↔◌, ◌≡◌, refl, length}
use Rattle.std.proofs.Common.{arith}
use Rattle.lists.specs.All.{All}
use Rattle.lists.specs.All.Laws.{all_map, all_both}
use Rattle.octets.specs.Head.{Bytes}
use Rattle.number.specs.Groups.{number_limit}
use Rattle.rewriting.specs.Table.{passed}
use Rattle.rewriting.specs.Graph as rewriting
use Rattle.protocol.specs.Protocol.{Protocol}
use Rattle.protocol.specs.Protocol.Limits.{Within}
use Rattle.steps.specs.Nodes.{NodeWithin}
use Rattle.steps.specs.Values.{NodeRight}
use Rattle.steps.specs.Facts.{is_linear}
use Rattle.steps.specs.Runs.{rewrittens}
use Rattle.steps.specs.Runs.Older.{OlderFact, OlderRule, OlderNode, accepted_older}
use Rattle.steps.specs.Runs.Equations.{AcceptedSame}
use Rattle.graph.specs.Graph.{Graph, encode_graph, GraphWithin}
use Rattle.property.specs.Formula.{Formula}
use Rattle.property.specs.Meaning.{Holds}
use Rattle.property.specs.Times.{integers}
use Rattle.trace.specs.Truth.Older.{older_messages, older_trace, trace_older, truth_older}
use Rattle.checker.specs.Answer.{work_need}
use Rattle.checker.specs.Files.Fit.{fit_within}
use Rattle.checker.specs.Check.{graph_limit, checked, check_outcome}
use Rattle.checker.specs.Demands.Older.{ProtocolFile, PropertyFile, FilesRuled, protocol_now, ruled_exactly}

-- ── files without the six functions ──
module _ (p : Protocol) where
  pub record Plain (g : Graph) : Type 0 where
    pub rules : All (OlderRule p) p.rules
    pub nodes : All (OlderNode p) g.nodes

  -- a dependency graph by the ten equations
  pub record OlderGraph (file : List ℕ) (g : Graph) : Type 0 where
    pub short : length file ≤ graph_limit
    pub within : GraphWithin p g
    pub bytes : file ≡ encode_graph g
    pub right : All (NodeRight p) g.nodes
    pub accepted : rewriting.Accepted (OlderFact p) (is_linear p) (rewrittens p g.nodes) g.edges

module _ (protocol property graph : List ℕ) (bytes : Bytes protocol) (p : Protocol) (f : Formula) (g : Graph) (plain : Plain p g) where
  pub record OlderRuled : Type 0 where
    pub its_protocol : ProtocolFile number_limit protocol p
    pub its_property : PropertyFile number_limit p property f
    pub its_graph : OlderGraph p graph g

  pub its_limits : ProtocolFile number_limit protocol p → Within p
  its_limits h = fit_within protocol bytes p (protocol_now number_limit (omega arith) p protocol bytes h)

  same :
      ProtocolFile number_limit protocol p → GraphWithin p g
      → AcceptedSame p g.nodes g.edges ↔ rewriting.Accepted (OlderFact p) (is_linear p) (rewrittens p g.nodes) g.edges
  same h w = accepted_older p (its_limits h) plain.rules g.nodes w.0.each plain.nodes g.edges

  -- the ten equations accept just what all twelve do
  pub ruled_older : FilesRuled protocol property graph number_limit p f g ↔ OlderRuled
  ruled_older = (
    (λ h.
        let d = h.its_graph.is in
        record {
          its_protocol = h.its_protocol;
          its_property = h.its_property;
          its_graph = record {
            short = h.its_graph.short;
            within = d.within;
            bytes = d.bytes;
            right = d.right;
            accepted = (same h.its_protocol d.within).0 d.accepted;
          };
        }),
    (λ h.
        let d = h.its_graph in
        record {
          its_protocol = h.its_protocol;
          its_property = h.its_property;
          its_graph = record {
            short = d.short;
            is = record { within = d.within; bytes = d.bytes; right = d.right; accepted = (same h.its_protocol d.within).1 d.accepted };
          };
        }),
  )

  module _ (h : OlderRuled) where
    -- so such files are ruled on
    pub older_ruling :
        Bytes property → Bytes graph → (work : ℕ) → work_need ≤ work → check_outcome protocol property graph work ≡ passed (checked p f g)
    older_ruling property_bytes graph_bytes work long =
        (ruled_exactly protocol property graph bytes property_bytes graph_bytes work long (checked p f g)).1 (p, f, g, ruled_older.1 h, refl)

    -- and the ruling is the truth over document 01's messages
    pub its_nodes : All (λ x. NodeWithin p x × NodeRight p x × OlderNode p x) g.nodes
    its_nodes =
        all_map _ (λ x. NodeWithin p x × NodeRight p x × OlderNode p x) (λ x (w, ro). (w, ro.0, ro.1)) g.nodes
        (all_both (NodeWithin p) (λ x. NodeRight p x × OlderNode p x) g.nodes h.its_graph.within.0.each
        (all_both (NodeRight p) (OlderNode p) g.nodes h.its_graph.right plain.nodes))

    pub older_truth :
        ((checked p f g).holds ≡ true)
        ↔ Holds (older_messages p.functions) integers (older_trace p (its_limits h.its_protocol) plain.rules g.nodes its_nodes) [] f
    older_truth =
        let fit = its_limits h.its_protocol in
        truth_older p g.nodes (older_trace p fit plain.rules g.nodes its_nodes) (trace_older p fit plain.rules g.nodes its_nodes) f
        h.its_property.fit
