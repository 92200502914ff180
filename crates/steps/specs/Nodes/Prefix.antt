-- The reading of a node list depends on the bytes up to its end alone: the same bytes up to there, any bytes behind, give the same
-- nodes and the same end.
use Rattle.std.specs.Prelude.{ℕ, ◌≤◌, ◌<◌, List, ◌++◌, ◌≡◌, length, take, drop}
use Rattle.std.proofs.Common.{ap, sym, ◌∙◌, arith, length-append, length-drop, take-append-drop, length-take-le, take_at}
use Rattle.std.proofs.lemmas.List.{drop-append-le}
use Rattle.octets.specs.Head.{Bytes, Stands, stands_within}
use Rattle.number.specs.Groups.{groups}
use Rattle.number.specs.Groups.Laws.{groups_some}
use Rattle.number.specs.Layout.{flat}
use Rattle.protocol.specs.Protocol.{Protocol}
use Rattle.steps.specs.Nodes.{Node, encode_node, encode_nodes, read, node_list}
use Rattle.steps.specs.Nodes.Exact.{nodes_back, nodes_form}

-- a list from a place on, cut at a later one
cut_at : (file : List ℕ) (at e : ℕ) → at ≤ e → e ≤ length file → drop at file ≡ drop at (take e file) ++ drop e file
cut_at file at e l w =
    let n : at ≤ length (take e file) = omega (arith, length-take-le e file w) in
    ap (drop at) (sym (take-append-drop e file)) ∙ drop-append-le at (take e file) (drop e file) n

-- what stands in one list stands in another that is the same up to there
pub stands_alike :
    (file z : List ℕ) (at e : ℕ) (bs : List ℕ) → take e file ≡ take e z → e ≤ length file → e ≤ length z → Stands file at bs e → Stands z at bs e
stands_alike file z at e bs same ls lz h =
    let l : at ≤ e = omega (arith, h.ends) in
    let n : length (drop at (take e file)) ≡ length bs =
    omega (arith, length-drop at (take e file), length-take-le e file ls, h.ends) in
    let b : drop at (take e file) ≡ bs =
    sym (take_at (drop at (take e file)) (drop e file) (length bs) n) ∙ ap (take (length bs)) (sym (cut_at file at e l ls) ∙ h.there)
    ∙ take_at bs (drop e file) (length bs) (omega arith) in
    record { ends = h.ends; there = cut_at z at e l lz ∙ ap (λ (x : List ℕ). x ++ drop e z) (ap (drop at) (sym same) ∙ b) }

-- a list of nodes takes a byte at least
pub nodes_some : (xs : List Node) → 0 < length (encode_nodes xs)
nodes_some xs = omega (arith, length-append (groups (length xs)) (flat encode_node xs), groups_some (length xs))

module _ (p : Protocol) (file z : List ℕ) (bytes : Bytes file) (bytes' : Bytes z) where
  -- the end lies within the file
  pub nodes_end : (xs : List Node) (at e : ℕ) → node_list p file at ≡ read xs e → e ≤ length file
  nodes_end xs at e h = stands_within (nodes_form p file bytes xs at e h).1 (nodes_some xs)

  pub nodes_alike : (xs : List Node) (at e : ℕ) → e ≤ length z → take e file ≡ take e z → node_list p file at ≡ read xs e → node_list p z at ≡ read xs e
  nodes_alike xs at e l same h =
      let f = nodes_form p file bytes xs at e h in
      let g = stands_alike file z at e (encode_nodes xs) same (nodes_end xs at e h) l f.1 in
      nodes_back p z bytes' xs at (drop e z) f.0 g.there ∙ ap (read xs) (sym g.ends)
