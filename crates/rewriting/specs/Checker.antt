-- The passes over a graph: 9 to 13, each over the whole graph before the next, the smallest item first.
use Rattle.std.specs.Prelude.{Bool, true, false, not, ◌&&◌, ◌||◌, List, ℕ, leb, ltb, eqb}
use Rattle.std.specs.Prelude.{Option, Some, None}
use Rattle.lists.specs.Lists.{all_by, first_bad}
use Rattle.rewriting.specs.Facts.{Facts}
use Rattle.rewriting.specs.Graph.{Node, Edge, into, out_of, premise_at, conclusion_at}
use Rattle.rewriting.specs.Table.{Ruling, passed, or_refuse}
use Rattle.rewriting.specs.Places.{Placed, placed}
use Rattle.rewriting.specs.Writer.{first_name_twice}

abbrev pub is_some : {A : Type 0} → Option A → Bool
is_some None = false
is_some (Some a) = true

module _ (F : Facts) where
  -- 10: both ends are there, and the source is earlier.
  abbrev pub ends_ok : List (Node F.Fact) → Edge → Bool
  ends_ok nodes e = is_some (conclusion_at nodes e.source) && (is_some (premise_at nodes e.target) && ltb e.source.node e.target.node)

  -- 11: the two facts, if they are there, are the same.
  abbrev pub agree : Option F.Fact → Option F.Fact → Bool
  agree None g = true
  agree (Some f) None = true
  agree (Some f) (Some g) = F.same f g

  abbrev pub facts_ok : List (Node F.Fact) → Edge → Bool
  facts_ok nodes e = agree (conclusion_at nodes e.source) (premise_at nodes e.target)

  -- 12: just one edge goes into a premise.
  abbrev pub one_into : List Edge → Placed F.Fact → Bool
  one_into edges t = eqb (into t.place edges) 1

  abbrev pub premises_ok : List Edge → ℕ → Node F.Fact → Bool
  premises_ok edges k x = all_by (one_into edges) (placed k 1 x.premises)

  -- 13: at most one edge goes out of a linear conclusion.
  abbrev pub one_out : List Edge → Placed F.Fact → Bool
  one_out edges t = not (F.linear t.fact) || leb (out_of t.place edges) 1

  abbrev pub conclusions_ok : List Edge → ℕ → Node F.Fact → Bool
  conclusions_ok edges k x = all_by (one_out edges) (placed k 1 x.conclusions)

  -- What the passes answer; `a` is the value of a graph that passes.
  abbrev pub check_graph : {A : Type 0} → List (Node F.Fact) → List Edge → A → Ruling A
  check_graph nodes edges a =
      or_refuse 9 (first_name_twice nodes)
      (or_refuse 10 (first_bad (λ k e. ends_ok nodes e) 1 edges)
      (or_refuse 11 (first_bad (λ k e. facts_ok nodes e) 1 edges)
      (or_refuse 12 (first_bad (premises_ok edges) 1 nodes)
      (or_refuse 13 (first_bad (conclusions_ok edges) 1 nodes)
      (passed a)))))
