-- What code answers of nodes: the place behind one; the nodes of a list, each with its row in the table.
use Rattle.std.specs.Prelude.{ℕ, suc, ◌<◌, List, Bool, false, ◌≡◌, refl, length, get_or}
use Rattle.std.proofs.Math.Bool.{true}
use Rattle.std.specs.Prelude.{Option, Some, None, Result, Ok, Err}
use Rattle.std.proofs.Math.Path.{ap}
use Rattle.std.proofs.Common.{sym, ◌∙◌, subst, eq-eqb, ne_eqb}
use Rattle.std.specs.Option.{ok_or}
use Rattle.std.specs.Result.{IsErrAnd}
use Rattle.std.proofs.lemmas.Result.{err_from_is_err_and}
use Rattle.lists.specs.Choice.{pick, clash}
use Rattle.number.specs.Reading.{Read, got, fault, and_then, read_number, below, many}
use Rattle.term.specs.Term.{Term}
use Rattle.term.specs.Arity.{tag_arities}
use Rattle.term.specs.Reader.{term}
use Rattle.protocol.specs.Protocol.{Rule, Protocol}
use Rattle.rules.specs.Numbered.{rule_of}
use Rattle.steps.specs.declared.nodes.NodeFault.{NodeFault}
use Rattle.steps.specs.declared.nodes.NodeFault.TheVariants as one
use Rattle.steps.specs.declared.nodes.NodesFault.{NodesFault}
use Rattle.steps.specs.declared.nodes.NodesFault.TheVariants as all
use Rattle.steps.specs.Nodes.{Node, node_of_lem, no_node, most_nodes, Reading, read, broken, no_rule, plainly}
use Rattle.steps.specs.Nodes.{absent, unknown, values, node, nodes_from, node_list, all_of, steps}
use Rattle.steps.specs.Table.{RowsFor, Row}

-- ── a fault in the place of nothing ──
-- what a `?` returns behind `ok_or`
pub fault_of :
    {A B E : Type 0} (o : Option A) {r : Result A E} {d e : E} (q : Result B E) → IsErrAnd q (λ y. y ≡ e) → r ≡ Err e
    → r ≡ ok_or o d → (q ≡ Err d) × (o ≡ None)
fault_of None {d = d} {e = e} q h w v =
    let p = err_from_is_err_and q h in
    let s : e ≡ d = (let z = sym w ∙ v in cc) in
    (p.1 ∙ ap Err (p.2 ∙ s), refl)
fault_of (Some x) q h w v = clash (cc)

-- ── one node ──
-- behind some terms, or behind a node
abbrev pub terms_end : {A : Type 0} → Read A → Result ℕ NodeFault
terms_end (got x e) = Ok e
terms_end fault = Err one.Broken

-- a node whose rule number was read
abbrev pub node_from : Protocol → List ℕ → Option Rule → ℕ → Result ℕ NodeFault
node_from p file None at = Err one.NoRule
node_from p file (Some u) at = terms_end (many (term file (tag_arities p.functions)) (length u.sorts) at)

abbrev pub node_of : Protocol → List ℕ → Read ℕ → Result ℕ NodeFault
node_of p file (got r e) = node_from p file (rule_of p r) e
node_of p file fault = Err one.Broken

unfoldable pub node_end : Protocol → List ℕ → ℕ → Result ℕ NodeFault
node_end p file at = node_of p file (read_number file at)

-- ── several: the nodes, each with its row; a layout fault; the node that has no such rule ──
pub record NodesAre (r : Reading (List Node)) (p s nodes : List ℕ) (n e : ℕ) : Type 0 where
  pub items : List Node
  pub there : r ≡ read items e
  pub count : length items ≡ n
  pub long : RowsFor nodes n
  pub rows : (j : ℕ) → j < n → Row p s nodes j (get_or items j no_node)

abbrev pub Told : Reading (List Node) → List ℕ → List ℕ → List ℕ → Result (ℕ × ℕ) NodesFault → Type 0
Told r p s nodes (Ok (n, e)) = NodesAre r p s nodes n e
Told r p s nodes (Err all.Broken) = r ≡ broken
Told r p s nodes (Err (all.NoRule k)) = r ≡ no_rule k

-- ── laws ──
-- a node by its rule number
module _ (p : Protocol) (file : List ℕ) (at : ℕ) where
  -- what the end of a node says of its reading
  end_terms : {A : Type 0} (r : Read A) (f : A → Node) {e : ℕ} → terms_end r ≡ Ok e → (x : Node) × (and_then r (λ y d. got (f y) d) ≡ got x e)
  end_terms (got y d) f {e} h = let a : d ≡ e = cc in (f y, ap (got (f y)) a)
  end_terms fault f {e} h = clash (cc)

  broken_terms : {A : Type 0} (r : Read A) (f : A → ℕ → Read Node) → terms_end r ≡ Err one.Broken → and_then r f ≡ fault
  broken_terms (got y d) f h = clash (cc)
  broken_terms fault f h = refl

  end_values : (r d : ℕ) (o : Option Rule) {e : ℕ} → node_from p file o d ≡ Ok e → (x : Node) × (values p file r o d ≡ got x e)
  end_values r d None h = clash (cc)
  end_values r d (Some u) h = end_terms (many (term file (tag_arities p.functions)) (length u.sorts) d) (node_of_lem r) h

  broken_values : (r d : ℕ) (o : Option Rule) → node_from p file o d ≡ Err one.Broken → (absent o ≡ false) × (values p file r o d ≡ fault)
  broken_values r d None h = clash (cc)
  broken_values r d (Some u) h = (refl, broken_terms (many (term file (tag_arities p.functions)) (length u.sorts) d) _ h)

  no_values : (d : ℕ) (o : Option Rule) → node_from p file o d ≡ Err one.NoRule → absent o ≡ true
  no_values d None h = refl
  no_values d (Some u) h = go (many (term file (tag_arities p.functions)) (length u.sorts) d) h
    where
      go : (r : Read (List Term)) → terms_end r ≡ Err one.NoRule → false ≡ true
      go (got x e) h = clash (cc)
      go fault h = clash (cc)

  pub end_node : {e : ℕ} → node_end p file at ≡ Ok e → (x : Node) × (node p file at ≡ got x e)
  unfolding node_end node
  end_node h = go (read_number file at) h
    where
      go : (o : Read ℕ) {e : ℕ} → node_of p file o ≡ Ok e → (x : Node) × (and_then o (λ r e. values p file r (rule_of p r) e) ≡ got x e)
      go (got r d) h = end_values r d (rule_of p r) h
      go fault h = clash (cc)

  pub broken_node : node_end p file at ≡ Err one.Broken → (unknown p (read_number file at) ≡ false) × (node p file at ≡ fault)
  unfolding node_end node
  broken_node h = go (read_number file at) h
    where
      go : (o : Read ℕ) → node_of p file o ≡ Err one.Broken → (unknown p o ≡ false) × (and_then o (λ r e. values p file r (rule_of p r) e) ≡ fault)
      go (got r d) h = broken_values r d (rule_of p r) h
      go fault h = (refl, refl)

  pub no_node_lem : node_end p file at ≡ Err one.NoRule → unknown p (read_number file at) ≡ true
  unfolding node_end
  no_node_lem h = go (read_number file at) h
    where
      go : (o : Read ℕ) → node_of p file o ≡ Err one.NoRule → unknown p o ≡ true
      go (got r d) h = no_values d (rule_of p r) h
      go fault h = clash (cc)

-- the count and then the nodes
module _ (p : Protocol) (file : List ℕ) (at : ℕ) where
  pub nodes_got : {n e : ℕ} → below file (suc most_nodes) at ≡ got n e → node_list p file at ≡ nodes_from p file 1 n e
  unfolding node_list
  nodes_got h = ap (λ (o : Read ℕ). plainly o (λ n e. nodes_from p file 1 n e)) h

  pub nodes_fault : below file (suc most_nodes) at ≡ fault → node_list p file at ≡ broken
  unfolding node_list
  nodes_fault h = ap (λ (o : Read ℕ). plainly o (λ n e. nodes_from p file 1 n e)) h

pub told_as : (r q : Reading (List Node)) → r ≡ q → (p s nodes : List ℕ) (o : Result (ℕ × ℕ) NodesFault) → Told q p s nodes o → Told r p s nodes o
told_as r q h p s nodes o t = subst (λ (z : Reading (List Node)). Told z p s nodes o) (sym h) t

-- ── a whole step list ──
module _ (P : Protocol) (p s nodes : List ℕ) (r : Result (ℕ × ℕ) NodesFault) (told : Told (node_list P s 0) p s nodes r) where
  as_told : {q : Result (ℕ × ℕ) NodesFault} → r ≡ q → Told (node_list P s 0) p s nodes q
  as_told h = subst (Told (node_list P s 0) p s nodes) h told

  pub steps_end : {n e : ℕ} → r ≡ Ok (n, e) → e ≡ length s → NodesAre (steps P s) p s nodes n e
  unfolding steps
  steps_end {n} {e} h q =
      let t = as_told h in
      record {
        items = t.items;
        there = ap (all_of s) t.there ∙ ap (λ (b : Bool). pick b (read t.items e) broken) (eq-eqb e (length s) q);
        count = t.count;
        long = t.long;
        rows = t.rows;
      }

  pub steps_leftover : {n e : ℕ} → r ≡ Ok (n, e) → (e ≡ length s → ⊥) → steps P s ≡ broken
  unfolding steps
  steps_leftover {n} {e} h q =
      let t = as_told h in
      ap (all_of s) t.there ∙ ap (λ (b : Bool). pick b (read t.items e) broken) (ne_eqb e (length s) q)

  pub steps_fault : (f : NodesFault) → r ≡ Err f → Told (steps P s) p s nodes (Err f)
  unfolding steps
  steps_fault all.Broken h = ap (all_of s) (as_told h)
  steps_fault (all.NoRule k) h = ap (all_of s) (as_told h)
