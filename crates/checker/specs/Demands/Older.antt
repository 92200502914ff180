-- Document 02, Change 3, at the files: "Old files keep their rulings." What is accepted, drawn and written is said of files by their bytes, with
-- numbers below any limit: with the limit of today it is just what the calls answer, and a larger limit keeps what a smaller one had.
use Rattle.std.specs.Prelude.{ℕ, ◌+◌, ◌^◌, ◌≤◌, List, [], ◌↔◌, ◌≡◌, refl, length}
use Rattle.std.proofs.Common.{ap, sym, ◌∙◌, subst, arith}
use Rattle.lists.specs.Choice.{by_size}
use Rattle.lists.specs.All.{All}
use Rattle.octets.specs.Head.{Bytes}
use Rattle.octets.specs.Splice.{splice}
use Rattle.number.specs.Groups.{base, number_limit}
use Rattle.term.specs.Term.{Term, encode, symbols}
use Rattle.term.specs.Term.Laws.{below_wider}
use Rattle.term.specs.Arity.{tag_arities}
use Rattle.term.specs.Sizes.{most_symbols}
use Rattle.message.specs.Canon.{canon}
use Rattle.rewriting.specs.Table.{passed, Ruled}
use Rattle.rewriting.specs.Table.Laws.{refused_passed, passed_absent, passed_good}
use Rattle.protocol.specs.Protocol.{Protocol, fact_arities, encode_protocol}
use Rattle.protocol.specs.Protocol.Limits.{ProtocolBelow}
use Rattle.protocol.specs.Protocol.Limits.Wider.{protocol_wider}
use Rattle.protocol.specs.Protocol.Exact.{few_arities, protocol_exact}
use Rattle.rules.specs.Fit.Meaning.{Fit}
use Rattle.steps.specs.Nodes.{encode_nodes, NodesBelow}
use Rattle.steps.specs.Nodes.Wider.{nodes_wider}
use Rattle.steps.specs.Nodes.Exact.{steps_back}
use Rattle.steps.specs.Values.{NodeRight}
use Rattle.steps.specs.WellFormed.{steps_limit}
use Rattle.steps.specs.Runs.{NamesOnce}
use Rattle.steps.specs.Runs.Equations.{EarliestSame, draws_earliest_same}
use Rattle.graph.specs.Graph.{Graph, encode_graph}
use Rattle.graph.specs.Graph.Wider.{graph_wider}
use Rattle.graph.specs.Causes.{DependencyBelow}
use Rattle.property.specs.Formula.{Formula}
use Rattle.property.specs.Formula.Limits.{FormulaBelow}
use Rattle.property.specs.Formula.Limits.Wider.{formula_wider}
use Rattle.property.specs.Layout.{encode_formula}
use Rattle.property.specs.Layout.Exact.{property_exact}
use Rattle.property.specs.Fit.{IsFit}
use Rattle.checker.specs.Answer.{work_need}
use Rattle.checker.specs.Files.{protocol_limit, term_limit}
use Rattle.checker.specs.Files.Fit.{FitFile, fit_within, is_fit_file}
use Rattle.checker.specs.Check.{property_limit, graph_limit, Checked, checked, check_outcome}
use Rattle.checker.specs.Check.Fit.{FitProperty}
use Rattle.checker.specs.Check.Cases.{sized}
use Rattle.checker.specs.Check.Laws.{at_most, holds_passed, passed_answers}
use Rattle.checker.specs.Draw.{draw_outcome, draw_output}
use Rattle.checker.specs.Draw.Cases as drawing
use Rattle.checker.specs.Draw.Laws.{Draws, nodes_draws, draws_passed}
use Rattle.checker.specs.Canonical.{need, form_of, canonical_outcome, canonical_rows, canonical_output}
use Rattle.checker.specs.Canonical.Cases as forms
use Rattle.checker.specs.Canonical.Back.{canonical_back, canonical_short, term_taken}
use Rattle.checker.specs.Canonical.Files.{encodes}
use Rattle.checker.specs.Canonical.Laws.{Length, canonical_ruled}
use Rattle.checker.specs.Files.Terms.{IsTermBelow, IsTerm}
use Rattle.checker.specs.Demands.Earliest.{length_exactly}

-- ── the files, by their bytes, with numbers below `limit` ──
module _ (limit : ℕ) where
  -- a fit protocol
  pub record ProtocolFile (file : List ℕ) (p : Protocol) : Type 0 where
    pub short : length file ≤ protocol_limit
    pub bytes : file ≡ encode_protocol p
    pub within : ProtocolBelow limit p
    pub fit : All Fit p.rules

  module _ (p : Protocol) where
    -- a fit property
    pub record PropertyFile (file : List ℕ) (f : Formula) : Type 0 where
      pub short : length file ≤ property_limit
      pub bytes : file ≡ encode_formula f
      pub within : FormulaBelow limit (fact_arities p.symbols) f
      pub fit : IsFit [] f

    -- an accepted graph
    pub record GraphFile (file : List ℕ) (g : Graph) : Type 0 where
      pub short : length file ≤ graph_limit
      pub is : DependencyBelow p limit file g

    -- steps, and the graph that is drawn of them
    pub record StepsFile (file : List ℕ) (g : Graph) : Type 0 where
      pub short : length file ≤ steps_limit
      pub bytes : file ≡ encode_nodes g.nodes
      pub within : NodesBelow limit p g.nodes
      pub right : All (NodeRight p) g.nodes
      pub names_once : NamesOnce p g.nodes
      pub earliest : EarliestSame p g.nodes g.edges

    -- a term, in a file of so many bytes at most
    pub record TermFile (most : ℕ) (file : List ℕ) (t : Term) : Type 0 where
      pub short : length file ≤ most
      pub is : IsTermBelow limit (tag_arities p.functions) file t
      pub few : symbols t ≤ most_symbols

-- what document 01 had: "three groups at most (2,097,151)", "Term (1,024 bytes)"
abbrev pub old_limit : ℕ
old_limit = base ^ 3

abbrev pub old_term_limit : ℕ
old_term_limit = 1024

pub old_largest : old_limit ≡ 2097151 + 1
old_largest = refl

old_smaller : old_limit ≤ number_limit
unfolding number_limit
old_smaller = omega arith

-- a fit protocol's file, with the limit of today
protocol_file : (file : List ℕ) → Bytes file → (p : Protocol) → FitFile file p → ProtocolFile number_limit file p
protocol_file file is-bytes p h =
    let r = (protocol_exact file is-bytes p).0 h.reads in
    record { short = h.short; bytes = r.1; within = r.0; fit = h.each }

-- ── with a smaller limit they are what they are with that of today ──
module _ (limit : ℕ) (smaller : limit ≤ number_limit) (p : Protocol) where
  pub protocol_now : (file : List ℕ) → Bytes file → ProtocolFile limit file p → FitFile file p
  protocol_now file is-bytes h = record {
    short = h.short;
    reads = (protocol_exact file is-bytes p).1 (protocol_wider limit number_limit smaller p h.within, h.bytes);
    each = h.fit;
  }

  module _ (file protocol : List ℕ) (bytes : Bytes protocol) (is-bytes : Bytes file) (its_protocol : ProtocolFile limit protocol p) where
    fit : FitFile protocol p
    fit = protocol_now protocol bytes its_protocol

    property_now : (f : Formula) → PropertyFile limit p file f → FitProperty p file f
    property_now f h =
        let ars = fact_arities p.symbols in
        let few = few_arities p.symbols its_protocol.within.few_symbols in
        record {
          short = h.short;
          reads = (property_exact file is-bytes ars (omega (arith, few)) f).1 (formula_wider limit number_limit smaller ars f h.within, h.bytes);
          fits = h.fit;
        }

    steps_now : (g : Graph) → StepsFile limit p file g → Draws protocol file p g
    steps_now g h =
        let w = nodes_wider limit number_limit smaller p g.nodes h.within in
        nodes_draws protocol file bytes is-bytes p fit h.short g.nodes (length file) (steps_back p file is-bytes g.nodes w h.bytes) h.right
        g.edges
        ((draws_earliest_same p (fit_within protocol bytes p fit) g.nodes w.each g.edges).1 (h.names_once, h.earliest))

  term_now : (most : ℕ) (file : List ℕ) (t : Term) → TermFile limit p most file t → IsTerm (tag_arities p.functions) file t
  term_now most file t h =
      let i = h.is in
      record { bytes = i.bytes; formed = i.formed; range = below_wider limit number_limit smaller t i.range; is_ground = i.is_ground }

-- ── checking ──
module _ (protocol property graph : List ℕ) where
  pub record FilesRuled (limit : ℕ) (p : Protocol) (f : Formula) (g : Graph) : Type 0 where
    pub its_protocol : ProtocolFile limit protocol p
    pub its_property : PropertyFile limit p property f
    pub its_graph : GraphFile limit p graph g

  module _ (bytes : Bytes protocol) (property_bytes : Bytes property) (graph_bytes : Bytes graph) (work : ℕ) (long : work_need ≤ work) where
    ruled_below :
        (limit : ℕ) → limit ≤ number_limit → (p : Protocol) (f : Formula) (g : Graph) → FilesRuled limit p f g
        → check_outcome protocol property graph work ≡ passed (checked p f g)
    ruled_below limit smaller p f g h =
        let r = h.its_protocol in
        let q = h.its_property in
        let d = h.its_graph in
        sized protocol property graph work long r.short q.short d.short
        ∙ holds_passed protocol property graph bytes property_bytes graph_bytes p f g record {
          fit = protocol_now limit smaller p protocol bytes r;
          fit_property = property_now limit smaller p property protocol bytes property_bytes r f q;
          short = d.short;
          is_graph = record {
            within = graph_wider limit number_limit smaller p g d.is.within;
            bytes = d.is.bytes;
            right = d.is.right;
            accepted = d.is.accepted;
          };
        }

    -- a ruling is given just on these files
    pub ruled_exactly :
        (c : Checked)
        → (check_outcome protocol property graph work ≡ passed c)
        ↔ ((p : Protocol) × (f : Formula) × (g : Graph) × FilesRuled number_limit p f g × (c ≡ checked p f g))
    ruled_exactly c = (
      (λ e.
          let a = passed_answers protocol property graph bytes property_bytes graph_bytes work c e in
          let p = a.is_protocol in
          let h = a.files in
          let r = protocol_file protocol bytes p h.fit in
          let few = few_arities p.symbols r.within.few_symbols in
          let q = (property_exact property property_bytes (fact_arities p.symbols) (omega (arith, few)) a.is_property).0 h.fit_property.reads in
          let d = h.is_graph in (
            p,
            a.is_property,
            a.is_graph,
            record {
              its_protocol = r;
              its_property = record { short = h.fit_property.short; bytes = q.1; within = q.0; fit = h.fit_property.fits };
              its_graph = record { short = h.short; is = h.is_graph };
            },
            a.answer,
          )),
      (λ (p, f, g, h, e). ruled_below number_limit (omega arith) p f g h ∙ ap (λ (x : Checked). passed x) (sym e)),
    )

    -- "Old files keep their rulings."
    pub old_rulings :
        (p : Protocol) (f : Formula) (g : Graph) → FilesRuled old_limit p f g → check_outcome protocol property graph work ≡ passed (checked p f g)
    old_rulings = ruled_below old_limit old_smaller

-- ── drawing ──
module _ (protocol steps : List ℕ) where
  pub record FilesDrawn (limit : ℕ) (p : Protocol) (g : Graph) : Type 0 where
    pub its_protocol : ProtocolFile limit protocol p
    pub its_steps : StepsFile limit p steps g

  module _ (bytes : Bytes protocol) (steps_bytes : Bytes steps) where
    drawn_below : (limit : ℕ) → limit ≤ number_limit → (p : Protocol) (g : Graph) → FilesDrawn limit p g → Draws protocol steps p g
    drawn_below limit smaller p g h = steps_now limit smaller p steps protocol bytes steps_bytes h.its_protocol g h.its_steps

    -- a graph is drawn just of these files
    pub drawn_exactly : (p : Protocol) (g : Graph) → Draws protocol steps p g ↔ FilesDrawn number_limit p g
    drawn_exactly p g = (
      (λ d.
          record {
            its_protocol = protocol_file protocol bytes p d.fit;
            its_steps = record {
              short = d.short;
              bytes = d.its_steps;
              within = d.is_graph.within.0;
              right = d.is_graph.right;
              names_once = d.is_graph.accepted.names_once;
              earliest = d.its_edges;
            };
          }),
      drawn_below number_limit (omega arith) p g,
    )

    -- what could be drawn is drawn, with the same bytes
    module _ (output : List ℕ) (work : ℕ) (long : work_need ≤ work) (p : Protocol) (g : Graph) (h : FilesDrawn old_limit p g)
        (room : length (encode_graph g) ≤ length output) where
      pub old_drawn : draw_outcome protocol steps (length output) work ≡ passed (length (encode_graph g))
      old_drawn =
          (length_exactly protocol steps bytes steps_bytes (length output) work (length (encode_graph g)) long).1
          (record { is_protocol = p; is_graph = g; files = drawn_below old_limit old_smaller p g h; needs = refl }, room)

      pub old_drawing : draw_output protocol steps output work ≡ splice output 0 (encode_graph g)
      old_drawing =
          sym (drawing.output_written protocol steps output work (length (encode_graph g)) g old_drawn
          (draws_passed protocol steps bytes steps_bytes p g (drawn_below old_limit old_smaller p g h)))

-- ── canonical form ──
module _ (protocol term : List ℕ) where
  pub record FilesFormed (limit most : ℕ) (p : Protocol) (t : Term) : Type 0 where
    pub its_protocol : ProtocolFile limit protocol p
    pub its_term : TermFile limit p most term t

  module _ (bytes : Bytes protocol) (term_bytes : Bytes term) where
    module _ (output work : ℕ) (long : work_need ≤ work) where
      formed_below :
          (limit most : ℕ) → limit ≤ number_limit → most ≤ term_limit → (p : Protocol) (t : Term) → FilesFormed limit most p t → need t ≤ output
          → canonical_outcome protocol term output work ≡ passed (need t)
      formed_below limit most smaller shorter p t h room =
          let i = h.its_term in
          canonical_back protocol term bytes term_bytes p (protocol_now limit smaller p protocol bytes h.its_protocol) t
          (term_now limit smaller p most term t i) i.few (omega (arith, i.short)) output work long room

      -- a length is given just for these files, where there is room
      pub formed_exactly :
          (n : ℕ)
          → (canonical_outcome protocol term output work ≡ passed n)
          ↔ ((p : Protocol) × (t : Term) × FilesFormed number_limit term_limit p t × (n ≡ need t) × (n ≤ output))
      formed_exactly n = (
        there,
        (λ (p, t, h, e, l). formed_below number_limit term_limit (omega arith) (omega arith) p t h (omega (arith, e)) ∙ ap (λ (m : ℕ). passed m) (sym e)),
      )
        where
          there :
              canonical_outcome protocol term output work ≡ passed n
              → (p : Protocol) × (t : Term) × FilesFormed number_limit term_limit p t × (n ≡ need t) × (n ≤ output)
          there e =
              let rows = canonical_rows protocol term output work in
              let ruled = canonical_ruled protocol term bytes output work in
              let a = passed_absent (Length protocol term) rows (canonical_outcome protocol term output work) n ruled e in
              let l = passed_good (Length protocol term) rows n (subst (Ruled rows (Length protocol term)) e ruled) in
              let t = l.is in
              let c = encodes protocol term bytes term_bytes t l.holds in
              let p = c.is in
              let k = is_fit_file protocol bytes p (at_most protocol_limit (length protocol) (λ m. a.1.0 1 (refl, m))) c.fit in
              let few = at_most term_limit (length term) (λ m. a.1.1.0 4 (refl, m)) in (
                p,
                t,
                record {
                  its_protocol = protocol_file protocol bytes p k;
                  its_term = record { short = few; is = c.file; few = c.small };
                },
                l.needs,
                by_size output (need t)
                    (λ m. absurd (refused_passed 15 (need t) n
                    (sym (canonical_short protocol term bytes term_bytes p k t c.file c.small few output work long m) ∙ e)))
                    (λ m. omega (arith, m, l.needs)),
              )

    -- what could be written is written, with the same bytes
    module _ (output : List ℕ) (work : ℕ) (long : work_need ≤ work) (p : Protocol) (t : Term) (h : FilesFormed old_limit old_term_limit p t)
        (room : need t ≤ length output) where
      pub old_formed : canonical_outcome protocol term (length output) work ≡ passed (need t)
      old_formed = formed_below (length output) work long old_limit old_term_limit old_smaller (omega arith) p t h room

      pub old_form : canonical_output protocol term output work ≡ splice output 0 (encode (canon t))
      old_form =
          let i = h.its_term in
          sym (forms.output_written protocol term output (encode (canon t)) work (need t) old_formed
          (ap form_of (term_taken protocol term bytes term_bytes p (protocol_now old_limit old_smaller p protocol bytes h.its_protocol) t
          (term_now old_limit old_smaller p old_term_limit term t i) i.few (omega (arith, i.short)))))
