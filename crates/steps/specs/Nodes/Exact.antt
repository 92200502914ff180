-- A node list is read exactly: what is within the limits reads back from its bytes, and what reads is within them and stands there.
use Prim.Native.Nat.{ℕ, zero, suc, ◌+◌, ◌≤◌, ◌<◌}
use mathlib.Core.List.{List, [], ◌∷◌, ◌++◌, append-nil}
use Rattle.std.specs.Prelude.{Bool, false, ◌↔◌, ◌≡◌}
use Rattle.std.specs.Prelude.{Option, Some, None}
use Rattle.std.proofs.Math.Path.{refl, ap, ap₂, sym}
use Rattle.std.proofs.Common.{◌∙◌, subst, eq-eqb}
use native.Mathlib.Omega.{arith}
use Rattle.std.proofs.Math.ListN.{length, drop, drop_of_length-le}
use Rattle.lists.specs.Choice.{pick, cut, cut_eq, clash}
use Rattle.octets.specs.Head.{Bytes, Stands}
use Rattle.number.specs.Groups.{groups, number_limit}
use Rattle.number.specs.Reading.{Read, got, fault, and_then, read_number, below, many, counted}
use Rattle.number.specs.Reading.Laws.{cut_got, then_got}
use Rattle.number.specs.Layout.{flat, Exact}
use Rattle.lists.specs.All.{All}
use Rattle.number.specs.Layout.Laws.{number_exact, many_exact, then_exact, counted_exact}
use Rattle.term.specs.Term.{Term, encode}
use Rattle.term.specs.Arity.{tag_arities}
use Rattle.term.specs.Reader.{term}
use Rattle.term.specs.Reader.Exact.{Good, term_exact}
use Rattle.protocol.specs.Protocol.{Rule, Protocol}
use Rattle.rules.specs.Numbered.{rule_of}
use Rattle.steps.specs.Nodes.{Node, node_of_lem, most_nodes, encode_node, encode_nodes, Reading, read, broken, no_rule, onward, plainly}
use Rattle.steps.specs.Nodes.{all_of, NodeWithin, NodesWithin, values, node, absent, unknown, nodes_from, node_list, steps}

-- ── readings in parts ──
module _ {A B : Type 0} where
  pub cut_read :
      {C : Type 0} {y : B} {e : ℕ} (r : Reading A) (f : A → ℕ → Reading B) → onward r f ≡ read y e
      → ((x : A) (d : ℕ) → r ≡ read x d → f x d ≡ read y e → C) → C
  cut_read (read x d) f h k = k x d refl h
  cut_read broken f h k = clash (cc)
  cut_read (no_rule j) f h k = clash (cc)

  pub cut_plain :
      {C : Type 0} {y : B} {e : ℕ} (r : Read A) (f : A → ℕ → Reading B) → plainly r f ≡ read y e
      → ((x : A) (d : ℕ) → r ≡ got x d → f x d ≡ read y e → C) → C
  cut_plain (got x d) f h k = k x d refl h
  cut_plain fault f h k = clash (cc)

most_small : most_nodes < number_limit
unfolding number_limit
most_small = omega arith

module _ (p : Protocol) (file : List ℕ) where
  -- ── the front-to-back reading has read just where the plain reader has ──
  known_in : (r e at : ℕ) (o : Option Rule) (x : Node) → values p file r o at ≡ got x e → absent o ≡ false
  known_in r e at None x h = clash (cc)
  known_in r e at (Some u) x h = refl

  pub node_known : (at e : ℕ) (x : Node) → node p file at ≡ got x e → unknown p (read_number file at) ≡ false
  unfolding node
  node_known at e x h =
      cut_got (read_number file at) _ h (λ r d hr h. ap (unknown p) hr ∙ known_in r e d (rule_of p r) x h)

  pub from_many : (k n at e : ℕ) (xs : List Node) → nodes_from p file k n at ≡ read xs e → many (node p file) n at ≡ got xs e
  unfolding nodes_from many
  from_many k zero at e xs h = let a : [] ≡ xs = cc in let b : at ≡ e = cc in ap₂ got a b
  from_many k (suc n) at e xs h =
      cut _ _ _ (unknown p (read_number file at)) h
      (λ t h. clash (cc))
      (λ t h. cut_plain (node p file at) _ h (λ x d hx h. cut_read (nodes_from p file (suc k) n d) _ h (λ ys c hys h.
      let a : x ∷ ys ≡ xs = cc in
      let b : c ≡ e = cc in
      then_got (node p file at) _ hx ∙ then_got (many (node p file) n d) _ (from_many (suc k) n d c ys hys) ∙ ap₂ got a b)))

  pub many_from : (k n at e : ℕ) (xs : List Node) → many (node p file) n at ≡ got xs e → nodes_from p file k n at ≡ read xs e
  unfolding nodes_from many
  many_from k zero at e xs h = let a : [] ≡ xs = cc in let b : at ≡ e = cc in ap₂ read a b
  many_from k (suc n) at e xs h =
      cut_got (node p file at) _ h (λ x d hx h. cut_got (many (node p file) n d) _ h (λ ys c hys h.
      let a : x ∷ ys ≡ xs = cc in
      let b : c ≡ e = cc in
      ap (λ (t : Bool). pick t (no_rule k) (plainly (node p file at) (λ x e. onward (nodes_from p file (suc k) n e) (λ xs f. read (x ∷ xs) f))))
      (node_known at d x hx)
      ∙ ap (λ (o : Read Node). plainly o (λ x e. onward (nodes_from p file (suc k) n e) (λ xs f. read (x ∷ xs) f))) hx
      ∙ ap (λ (o : Reading (List Node)). onward o (λ xs f. read (x ∷ xs) f)) (many_from (suc k) n d c ys hys)
      ∙ ap₂ read a b))

  pub nodes_counted : (at e : ℕ) (xs : List Node) → (node_list p file at ≡ read xs e) ↔ (counted file most_nodes (node p file) at ≡ got xs e)
  unfolding node_list counted
  nodes_counted at e xs = (
    (λ h. cut_plain (below file (suc most_nodes) at) _ h (λ n d hn h. then_got (below file (suc most_nodes) at) _ hn ∙ from_many 1 n d e xs h)),
    (λ h. cut_got (below file (suc most_nodes) at) _ h (λ n d hn h.
        ap (λ (o : Read ℕ). plainly o (λ n e. nodes_from p file 1 n e)) hn ∙ many_from 1 n d e xs h)),
  )

  -- ── exact ──
  module _ (bytes : Bytes file) where
    abbrev Valued : Option Rule → List Term → Type 0
    Valued None vs = ⊥
    Valued (Some u) vs = (length vs ≡ length u.sorts) × All (Good (tag_arities p.functions)) vs

    abbrev values_at : Option Rule → ℕ → Read (List Term)
    values_at None at = fault
    values_at (Some u) at = many (term file (tag_arities p.functions)) (length u.sorts) at

    values_exact : (o : Option Rule) → Exact file (values_at o) (Valued o) (flat encode)
    values_exact None = record { back = λ vs at rest good there. absurd good; form = λ vs at e h. clash (cc) }
    values_exact (Some u) =
        many_exact file (term file (tag_arities p.functions)) (Good (tag_arities p.functions)) encode (term_exact file (tag_arities p.functions) bytes)
        (length u.sorts)

    values_as : (r at : ℕ) (o : Option Rule) → values p file r o at ≡ and_then (values_at o at) (λ vs e. got (node_of_lem r vs) e)
    values_as r at None = refl
    values_as r at (Some u) = refl

    node_as : (at : ℕ) → node p file at ≡ and_then (read_number file at) (λ r e. and_then (values_at (rule_of p r) e) (λ vs f. got (node_of_lem r vs) f))
    unfolding node
    node_as at = go (read_number file at)
      where
        go : (o : Read ℕ) → and_then o (λ r e. values p file r (rule_of p r) e) ≡ and_then o
            (λ r e. and_then (values_at (rule_of p r) e) (λ vs f. got (node_of_lem r vs) f))
        go (got r e) = values_as r e (rule_of p r)
        go fault = refl

    within_from : (x : Node) (o : Option Rule) → rule_of p x.rule ≡ o → x.rule < number_limit → Valued o x.values → NodeWithin p x
    within_from x None h l v = absurd v
    within_from x (Some u) h l v = record { is = u; known = h; range = l; takes = v.0; each = v.1 }

    plain_exact :
        Exact file (λ at. and_then (read_number file at) (λ r e. and_then (values_at (rule_of p r) e) (λ vs f. got (node_of_lem r vs) f)))
        (λ x. (x.rule < number_limit) × Valued (rule_of p x.rule) x.values) encode_node
    plain_exact =
        then_exact file (read_number file) (λ v. v < number_limit) groups (number_exact file bytes)
        (λ r. values_at (rule_of p r)) (λ r. Valued (rule_of p r)) (flat encode) (λ r g. values_exact (rule_of p r))
        node_of_lem (λ x. x.rule) (λ x. x.values) (λ x. refl) (λ r vs. refl) (λ r vs. refl)

    pub node_exact : Exact file (node p file) (NodeWithin p) encode_node
    node_exact = record {
      back = λ x at rest w there.
          node_as at ∙ plain_exact.back x at rest
          (w.range, subst (λ (o : Option Rule). Valued o x.values) (sym w.known) (w.takes, w.each)) there;
      form = λ x at e h.
          let f = plain_exact.form x at e (sym (node_as at) ∙ h) in
          (within_from x (rule_of p x.rule) refl f.0.0 f.0.1, f.1);
    }

    -- ── the whole list ──
    list_exact : Exact file (counted file most_nodes (node p file)) (λ xs. (length xs ≤ most_nodes) × All (NodeWithin p) xs) encode_nodes
    list_exact = counted_exact file (node p file) (NodeWithin p) encode_node node_exact bytes most_nodes most_small

    -- what is within the limits reads back from its bytes
    pub nodes_back :
        (xs : List Node) (at : ℕ) (rest : List ℕ) → NodesWithin p xs → drop at file ≡ encode_nodes xs ++ rest
        → node_list p file at ≡ read xs (at + length (encode_nodes xs))
    nodes_back xs at rest w there =
        (nodes_counted at (at + length (encode_nodes xs)) xs).1 (list_exact.back xs at rest (w.few, w.each) there)

    -- what reads is within the limits, and its bytes stand there
    pub nodes_form : (xs : List Node) (at e : ℕ) → node_list p file at ≡ read xs e → NodesWithin p xs × Stands file at (encode_nodes xs) e
    nodes_form xs at e h =
        let f = list_exact.form xs at e ((nodes_counted at e xs).0 h) in
        (record { few = f.0.0; each = f.0.1 }, f.1)

    -- ── a step list is its nodes' bytes and nothing else ──
    pub steps_form : (xs : List Node) (e : ℕ) → steps p file ≡ read xs e → NodesWithin p xs × (file ≡ encode_nodes xs) × (e ≡ length file)
    unfolding steps
    steps_form xs e h =
        cut_read (node_list p file 0) _ h (λ ys d hy h. cut_eq _ _ _ d (length file) h
        (λ q h.
        let a : ys ≡ xs = cc in
        let b : d ≡ e = cc in
        let f = nodes_form xs 0 e (hy ∙ ap₂ read a b) in
        let m : length file ≤ e = omega arith in
        let n : drop e file ≡ [] = drop_of_length-le file m in
        (f.0, f.1.there ∙ ap (λ (l : List ℕ). encode_nodes xs ++ l) n ∙ append-nil (encode_nodes xs), sym b ∙ q))
        (λ q h. clash (cc)))

    pub steps_back : (xs : List Node) → NodesWithin p xs → file ≡ encode_nodes xs → steps p file ≡ read xs (length file)
    unfolding steps
    steps_back xs w h =
        let e : 0 + length (encode_nodes xs) ≡ length file = omega (arith, ap length h) in
        ap (all_of file) (nodes_back xs 0 [] w (h ∙ sym (append-nil (encode_nodes xs))))
        ∙ ap (λ (t : Bool). pick t (read xs (0 + length (encode_nodes xs))) broken) (eq-eqb (0 + length (encode_nodes xs)) (length file) e)
        ∙ ap (read xs) e

    -- exact in both directions
    pub steps_exact : (xs : List Node) → (steps p file ≡ read xs (length file)) ↔ (NodesWithin p xs × (file ≡ encode_nodes xs))
    steps_exact xs = ((λ h. let f = steps_form xs (length file) h in (f.0, f.1)), (λ h. steps_back xs h.0 h.1))
