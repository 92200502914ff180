-- From what the functions inside the call check find to what they promise.
use Rattle.std.specs.Prelude.{Result, Ok, Err}
use Rattle.rewriting.specs.declared.Refusal.{Refusal}
use Rattle.rewriting.specs.Answers.{answered}
use Rattle.std.specs.Prelude.{ℕ, ◌≤◌, List, Bool, ◌≡◌, refl, length}
use Rattle.std.proofs.Common.{ap, ap₂, sym, ◌∙◌, subst}
use Rattle.lists.specs.Choice.{clash}
use Rattle.lists.specs.Lists.{count_by}
use Rattle.octets.specs.Head.{Bytes}
use Rattle.rewriting.specs.Table.{Ruling, passed, refused, and_then}
use Rattle.protocol.specs.Protocol.{Protocol, fact_arities, protocol}
use Rattle.rules.specs.Fit.{judged}
use Rattle.rules.specs.Fit.Laws.{verdict_of}
use Rattle.protocol.specs.declared.index.Counts.{Counts}
use Rattle.rules.specs.declared.fit.Unfit.{Unfit}
use Rattle.prepared.specs.Prepared.{Prepared}
use Rattle.prepared.specs.Lists.{PreparedAs, WherePrepared}
use Rattle.steps.specs.Nodes.{Node}
use Rattle.graph.specs.Graph.{Graph}
use Rattle.graph.specs.Causes.{graph_ruling}
use Rattle.graph.specs.Ruling.{GoodGraph, Answered}
use Rattle.property.specs.Formula.{Formula}
use Rattle.property.specs.Layout as layouts
use Rattle.property.specs.Causes.Laws.{Passing, passed_passing}
use Rattle.property.specs.Causes.Code.{plainly}
use Rattle.trace.specs.Active.{is_active}
use Rattle.trace.specs.Truth.{truth}
use Rattle.verdict.specs.Judged.{Posed}
use Rattle.checker.specs.Files.{protocol_ruling}
use Rattle.checker.specs.Files.Verdict.{ruled_sound}
use Rattle.checker.specs.Check.{Checked, checked, property_under, graph_under, under_protocol, files_ruling}
use Rattle.checker.specs.Check.Bounds.{most_number, most_item, property_bounded, graph_bounded}
use Rattle.checker.specs.Check.Contracts.{Under, verdict_on}

-- ── the verdict ──
pub told :
    (n m : ℕ) (P : Protocol) (xs : List Node) (f : Formula) {b : Bool} {a : ℕ} → b ≡ truth P xs f → a ≡ count_by (is_active P) xs
    → passed (record { holds = b; nodes = n; active = a; edges = m }) ≡ passed (verdict_on n m P xs f)
told n m P xs f p q = cc

-- ── the graph ──
module _ (P : Protocol) (p s nodes : List ℕ) (q : Result (ℕ × ℕ) Refusal) (answered : Answered P p s nodes q) where
  pub good_graph : {n m : ℕ} → q ≡ Ok (n, m) → GoodGraph P p s nodes n m
  good_graph h = subst (Answered P p s nodes) h answered

  graph_refusal : {e : Refusal} → q ≡ Err e → graph_ruling P s ≡ refused e.number e.item
  graph_refusal h = subst (Answered P p s nodes) h answered

  module _ (f : Formula) where
    pub good_posed :
        {n m : ℕ} {property : List ℕ} (h : q ≡ Ok (n, m)) → Passing (layouts.property property (fact_arities P.symbols)) f
        → Posed p property s nodes n P (good_graph h).is.nodes f
    good_posed h r = record { right = (good_graph h).nodes_in; passing = r }

    pub graph_judged :
        {n m : ℕ} {x : Ruling Checked} (h : q ≡ Ok (n, m)) → x ≡ passed (verdict_on n m P (good_graph h).is.nodes f)
        → x ≡ graph_under P f s
    graph_judged {n} {m} h e =
        let g = good_graph h in
        let c : length g.is.nodes ≡ n = g.nodes_in.stand.count in
        let d : length g.is.edges ≡ m = g.edge_count in
        e ∙ counts_are g c d ∙ sym (ap (λ (r : Ruling Graph). and_then r (λ k. passed (checked P f k))) g.ruled)
      where
        counts_are :
            {n m : ℕ} (g : GoodGraph P p s nodes n m) → length g.is.nodes ≡ n → length g.is.edges ≡ m
            → passed (verdict_on n m P g.is.nodes f) ≡ passed (checked P f g.is)
        counts_are g c d = cc

    pub graph_turned :
        {e : Refusal} {x : Ruling Checked} → q ≡ Err e → x ≡ refused e.number e.item → x ≡ graph_under P f s
    graph_turned h e = e ∙ sym (ap (λ (r : Ruling Graph). and_then r (λ k. passed (checked P f k))) (graph_refusal h))

  pub graph_limits : {e : Refusal} → Prepared p P → Bytes s → q ≡ Err e → (e.number ≤ most_number) × (e.item ≤ most_item)
  graph_limits {e} i bytes h = graph_bounded P i.body.within s bytes e.number e.item (graph_refusal h)

-- ── the property ──
module _ (P : Protocol) (property : List ℕ) (o : Result (Unit {0}) Refusal) (told : answered o ≡ plainly (property_under P property)) where
  pub property_passed : o ≡ Ok tt → (f : Formula) × (property_under P property ≡ passed f)
  property_passed h = go (property_under P property) refl (sym (ap answered h) ∙ told)
    where
      go : (q : Ruling Formula) → property_under P property ≡ q → passed tt ≡ plainly q → (f : Formula) × (property_under P property ≡ passed f)
      go (passed f) e i = (f, e)
      go (refused n k) e i = clash (cc)

  property_refusal : {d : Refusal} → o ≡ Err d → property_under P property ≡ refused d.number d.item
  property_refusal {d} h = go (property_under P property) refl (sym (ap answered h) ∙ told)
    where
      go : (q : Ruling Formula) → property_under P property ≡ q → refused d.number d.item ≡ plainly q → property_under P property ≡ refused d.number d.item
      go (passed f) e i = clash (cc)
      go (refused n k) e i =
          let x : n ≡ d.number = cc in
          let y : k ≡ d.item = cc in
          e ∙ ap₂ {C = Ruling Formula} refused x y

  pub property_under_lem : {p : List ℕ} → Prepared p P → (h : o ≡ Ok tt) → Under p property P (property_passed h).0
  property_under_lem i h = record { prepared = i; passing = passed_passing _ (property_passed h).0 (property_passed h).1 }

  pub property_judged :
      (graph : List ℕ) {x : Ruling Checked} (h : o ≡ Ok tt) → x ≡ graph_under P (property_passed h).0 graph
      → x ≡ under_protocol P property graph
  property_judged graph h e = e ∙ sym (ap (λ (r : Ruling Formula). and_then r (λ f. graph_under P f graph)) (property_passed h).1)

  pub property_turned :
      (graph : List ℕ) {e : Refusal} {x : Ruling Checked} → o ≡ Err e → x ≡ refused e.number e.item → x ≡ under_protocol P property graph
  property_turned graph h e = e ∙ sym (ap (λ (r : Ruling Formula). and_then r (λ f. graph_under P f graph)) (property_refusal h))

  pub property_limits : {e : Refusal} → o ≡ Err e → (e.number ≤ most_number) × (e.item ≤ most_item)
  property_limits {e} h = property_bounded (layouts.property property (fact_arities P.symbols)) e.number e.item (property_refusal h)

-- ── the protocol ──
module _ (file property graph p : List ℕ) (v : Result Counts Unfit) (verdict : verdict_of v ≡ judged (protocol file)) where
  pub its : {c : Counts} → v ≡ Ok c → WherePrepared file v p → PreparedAs file p
  its h w = subst (λ (q : Result Counts Unfit). WherePrepared file q p) h w

  pub protocol_judged :
      {c : Counts} {x : Ruling Checked} (h : v ≡ Ok c) (w : WherePrepared file v p)
      → ((P : Protocol) → Prepared p P → x ≡ under_protocol P property graph) → x ≡ files_ruling file property graph
  protocol_judged h w e =
      let i = its h w in
      e i.its i.is
      ∙ sym (ap (λ (r : Ruling Protocol). and_then r (λ q. under_protocol q property graph))
      (ruled_sound file i.its (length file) i.reads (sym verdict ∙ ap verdict_of h)))

pub protocol_turned :
    (file property graph : List ℕ) {a b : ℕ} {x : Ruling Checked} → protocol_ruling file ≡ refused a b → x ≡ refused a b
    → x ≡ files_ruling file property graph
protocol_turned file property graph h e = e ∙ sym (ap (λ (r : Ruling Protocol). and_then r (λ q. under_protocol q property graph)) h)
