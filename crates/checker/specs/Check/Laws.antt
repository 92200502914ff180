-- The outcome of checking is what the table says.
use Rattle.std.specs.Prelude.{ℕ, ◌≤◌, ◌<◌, List, [], ◌∷◌, ◌≡◌, refl, length}
use Rattle.std.proofs.Common.{inl, inr, ap, sym, ◌∙◌, subst}
use Rattle.lists.specs.Choice.{by_size}
use Rattle.octets.specs.Head.{Bytes}
use Rattle.rewriting.specs.Table.{Ruling, passed, refused, Row, Ruled, and_then}
use Rattle.rewriting.specs.Table.Laws.{ruled_then, ruled_and_then, ruled_unique, passed_good, passed_inj, refused_passed}
use Rattle.protocol.specs.Protocol.{Protocol, fact_arities}
use Rattle.graph.specs.Graph.{Graph}
use Rattle.graph.specs.Causes.{graph_file_rows, graph_ruling, DependencyGraph}
use Rattle.graph.proofs.Causes.Laws.{graph_ruled, graph_accepted}
use Rattle.property.specs.Formula.{Formula}
use Rattle.property.specs.Layout as properties
use Rattle.property.specs.Causes.Laws.{Passing, property_ruled}
use Rattle.checker.specs.Files.{protocol_limit, protocol_ruling, protocol_rows}
use Rattle.checker.specs.Files.Laws.{IsFit, protocol_ruled}
use Rattle.checker.specs.Files.Fit.{FitFile, fit_within, fit_passed, is_fit_file}
use Rattle.checker.specs.Check.{property_limit, graph_limit, Checked, checked, property_under, property_under_rows, graph_under, under_protocol}
use Rattle.checker.specs.Check.{files_ruling, check_sizes, check_outcome, under_rows, files_rows, check_rows}
use Rattle.checker.specs.Check.Fit.{FitProperty, fit_property_passed, passing_fit}

-- a value that is worked out of the one that passes
pub ruled_map :
    {A B : Type 0} (Good : A → Type 0) (Fine : B → Type 0) (f : A → B) (cs : List Row) (r : Ruling A)
    → ((a : A) → Good a → r ≡ passed a → Fine (f a)) → Ruled cs Good r → Ruled cs Fine (and_then r (λ a. passed (f a)))
ruled_map Good Fine f [] r h (a, g, e) = (f a, h a g e, ap (λ q. and_then q (λ a. passed (f a))) e)
ruled_map Good Fine f (c ∷ cs) r h (inl (n, g)) = inl (n, ruled_map Good Fine f cs r h g)
ruled_map Good Fine f (c ∷ cs) r h (inr (k, l, e)) = inr (k, l, ap (λ q. and_then q (λ a. passed (f a))) e)

-- a limit that is not passed
pub at_most : (m n : ℕ) → (m < n → ⊥) → n ≤ m
at_most m n f = by_size m n (λ l. absurd (f l)) (λ l. l)

module _ (protocol property graph : List ℕ) where
  -- the files hold a fit protocol, a fit property under it and a dependency graph of it
  pub record Holds (p : Protocol) (f : Formula) (g : Graph) : Type 0 where
    pub fit : FitFile protocol p
    pub fit_property : FitProperty p property f
    pub short : length graph ≤ graph_limit
    pub is_graph : DependencyGraph p graph g

  -- and what is answered of them
  pub record Answers (c : Checked) : Type 0 where
    pub is_protocol : Protocol
    pub is_property : Formula
    pub is_graph : Graph
    pub files : Holds is_protocol is_property is_graph
    pub answer : c ≡ checked is_protocol is_property is_graph

  module _ (bytes : Bytes protocol) (property_bytes : Bytes property) (graph_bytes : Bytes graph) where
    -- ── what the files hold is what is answered ──
    pub files_fit : (p : Protocol) (f : Formula) → FitFile protocol p → FitProperty p property f → files_ruling protocol property graph ≡ graph_under p f graph
    files_fit p f fit fit_property =
        ap (λ (r : Ruling Protocol). and_then r (λ q. under_protocol q property graph)) (fit_passed protocol bytes p fit)
        ∙ ap (λ (r : Ruling Formula). and_then r (λ k. graph_under p k graph)) (fit_property_passed p property f fit_property)

    pub holds_passed : (p : Protocol) (f : Formula) (g : Graph) → Holds p f g → files_ruling protocol property graph ≡ passed (checked p f g)
    holds_passed p f g h =
        files_fit p f h.fit h.fit_property
        ∙ ap (λ (r : Ruling Graph). and_then r (λ k. passed (checked p f k)))
        ((graph_accepted p (fit_within protocol bytes p h.fit) graph graph_bytes g).1 h.is_graph)

    pub passed_graph :
        (p : Protocol) (f : Formula) (c : Checked) → FitFile protocol p → graph_under p f graph ≡ passed c
        → (g : Graph) × DependencyGraph p graph g × (c ≡ checked p f g)
    passed_graph p f c fit e = go (graph_ruling p graph) refl e
      where
        go :
            (r : Ruling Graph) → graph_ruling p graph ≡ r → and_then r (λ g. passed (checked p f g)) ≡ passed c
            → (g : Graph) × DependencyGraph p graph g × (c ≡ checked p f g)
        go (passed g) h q =
            (g, (graph_accepted p (fit_within protocol bytes p fit) graph graph_bytes g).0 h, sym (passed_inj (checked p f g) c q))
        go (refused n k) h q = absurd (refused_passed n k c q)

    -- there is one answer
    pub answers_unique : (c d : Checked) → Answers c → Answers d → c ≡ d
    answers_unique c d a b =
        passed_inj c d (ap (λ (x : Checked). passed x) a.answer ∙ sym (holds_passed a.is_protocol a.is_property a.is_graph a.files)
        ∙ holds_passed b.is_protocol b.is_property b.is_graph b.files ∙ ap (λ (x : Checked). passed x) (sym b.answer))

    -- ── the files are ruled by their rows ──
    graph_answers :
        (p : Protocol) (f : Formula) → FitFile protocol p → FitProperty p property f → length graph ≤ graph_limit
        → Ruled (graph_file_rows p graph) Answers (graph_under p f graph)
    graph_answers p f fit fit_property l =
        ruled_map (DependencyGraph p graph) Answers (checked p f) (graph_file_rows p graph) (graph_ruling p graph) (λ g d e. record {
          is_protocol = p;
          is_property = f;
          is_graph = g;
          files = record { fit = fit; fit_property = fit_property; short = l; is_graph = d };
          answer = refl;
        }) (graph_ruled p (fit_within protocol bytes p fit) graph graph_bytes)

    property_answers :
        (p : Protocol) → FitFile protocol p → length property ≤ property_limit → length graph ≤ graph_limit
        → Ruled (under_rows p property graph) Answers (under_protocol p property graph)
    property_answers p fit k l =
        let file = properties.property property (fact_arities p.symbols) in
        ruled_and_then (Passing file) Answers (property_under_rows p property) (property_under p property) (λ f. graph_file_rows p graph)
        (λ f. graph_under p f graph) (property_ruled file)
        (λ f h e. graph_answers p f fit (passing_fit p property (fit_within protocol bytes p fit) property_bytes k f h) l)

    -- "Checking: 1, 2 for all files in order, 3 and 4 for the protocol, 3 and 5 for the property, then the graph front to back for 3 and 6,
    -- then 7 to 13."
    pub check_ruled : (work : ℕ) → Ruled (check_rows protocol property graph work) Answers (check_outcome protocol property graph work)
    unfolding check_outcome
    check_ruled work =
        ruled_then Answers (check_sizes protocol property graph work) (files_rows protocol property graph) (files_ruling protocol property graph)
        (λ a. ruled_and_then (IsFit protocol) Answers (protocol_rows protocol) (protocol_ruling protocol) (λ p. under_rows p property graph)
        (λ p. under_protocol p property graph) (protocol_ruled protocol bytes)
        (λ p h e. property_answers p (is_fit_file protocol bytes p (at_most protocol_limit (length protocol) (λ l. a.1.0 1 (refl, l))) h)
        (at_most property_limit (length property) (λ l. a.1.1.0 2 (refl, l)))
        (at_most graph_limit (length graph) (λ l. a.1.1.1.0 3 (refl, l)))))

    -- the table says just this
    pub check_unique :
        (work : ℕ) (r : Ruling Checked) → Ruled (check_rows protocol property graph work) Answers r → r ≡ check_outcome protocol property graph work
    check_unique work r h =
        ruled_unique Answers answers_unique (check_rows protocol property graph work) r (check_outcome protocol property graph work) h (check_ruled work)

    -- it passes just where the files hold such a graph
    pub passed_answers : (work : ℕ) (c : Checked) → check_outcome protocol property graph work ≡ passed c → Answers c
    passed_answers work c e =
        passed_good Answers (check_rows protocol property graph work) c (subst (Ruled (check_rows protocol property graph work) Answers) e (check_ruled work))
