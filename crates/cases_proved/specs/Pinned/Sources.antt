-- "For each premise, .. the writer takes the lowest node and then the lowest conclusion that is equal and, if linear, still unused": the graphs.
use Rattle.std.specs.Prelude.{ℕ, List, [], ◌∷◌, ◌++◌, refl}
use Rattle.lists.specs.All.{All}
use Rattle.lists.specs.Below.{all_below}
use Rattle.number.specs.Groups.{groups, groups_in, number_limit}
use Rattle.number.specs.Reading.{read_in, read_number, below, many, counted}
use Rattle.term.specs.Arity.{arity, tag_arities}
use Rattle.term.specs.Reader.{symbol_at, term, term_in}
use Rattle.message.specs.Canon.{apply}
use Rattle.rewriting.specs.Table.{passed, refused}
use Rattle.protocol.specs.Protocol.{rule_term, fact, facts, layout, rule, own, protocol}
use Rattle.rules.specs.Numbered.{rule_of, numbered, fixed}
use Rattle.steps.specs.Nodes.{node, nodes_from, node_list, steps}
use Rattle.steps.specs.Facts.{same_fact, same_term, same_terms}
use Rattle.checker.specs.Answer.{work_need}
use Rattle.checker.specs.Draw.{steps_under, draw_outcome}
use Rattle.cases_proved.specs.Pinned.Row.{Row, draws, writes, At, Holds, all_grown}

-- 4 linear and 5 persistent, of no argument, 6 linear of one; rules 31 to 42
abbrev choices : List ℕ
choices =
    0x00 ∷ 0x03 ∷ 0x00 ∷ 0x00 ∷ 0x00 ∷ 0x01 ∷ 0x01 ∷ 0x00 ∷ 0x0C
    -- 31 makes 4 and 4
    ∷ 0x00 ∷ 0x00 ∷ 0x00 ∷ 0x02 ∷ 0x04 ∷ 0x04
    -- 32 takes 4
    ∷ 0x00 ∷ 0x01 ∷ 0x04 ∷ 0x00 ∷ 0x00
    -- 33 takes 4 and 4
    ∷ 0x00 ∷ 0x02 ∷ 0x04 ∷ 0x04 ∷ 0x00 ∷ 0x00
    -- 34 makes 5 and 4
    ∷ 0x00 ∷ 0x00 ∷ 0x00 ∷ 0x02 ∷ 0x05 ∷ 0x04
    -- 35 makes 4
    ∷ 0x00 ∷ 0x00 ∷ 0x00 ∷ 0x01 ∷ 0x04
    -- 36 takes 4 and makes 4
    ∷ 0x00 ∷ 0x01 ∷ 0x04 ∷ 0x00 ∷ 0x01 ∷ 0x04
    -- 37 makes 5
    ∷ 0x00 ∷ 0x00 ∷ 0x00 ∷ 0x01 ∷ 0x05
    -- 38 takes 5 and 5
    ∷ 0x00 ∷ 0x02 ∷ 0x05 ∷ 0x05 ∷ 0x00 ∷ 0x00
    -- 39 makes 6(fst(pair(y,y))), y public
    ∷ 0x01 ∷ 0x02 ∷ 0x00 ∷ 0x00 ∷ 0x01 ∷ 0x06 ∷ 0x08 ∷ 0x07 ∷ 0x00 ∷ 0x00 ∷ 0x00 ∷ 0x00
    -- 40 makes 6(y), y public
    ∷ 0x01 ∷ 0x02 ∷ 0x00 ∷ 0x00 ∷ 0x01 ∷ 0x06 ∷ 0x00 ∷ 0x00
    -- 41 takes 6(y), y public
    ∷ 0x01 ∷ 0x02 ∷ 0x01 ∷ 0x06 ∷ 0x00 ∷ 0x00 ∷ 0x00 ∷ 0x00
    -- 42 takes 4 and 5
    ∷ 0x00 ∷ 0x02 ∷ 0x04 ∷ 0x05 ∷ 0x00 ∷ 0x00 ∷ []

-- the graph drawn of some steps has their bytes and then these edges
abbrev chooses : List ℕ → List ℕ → Row
chooses steps edges = writes choices steps (steps ++ edges)

abbrev pub rows : List Row
rows =
    -- two equal premises of one node take two equal conclusions of one node, the lower the first
    chooses (0x02 ∷ 0x1F ∷ 0x21 ∷ []) (0x02 ∷ 0x01 ∷ 0x01 ∷ 0x02 ∷ 0x01 ∷ 0x01 ∷ 0x02 ∷ 0x02 ∷ 0x02 ∷ [])
    ∷ draws choices (0x02 ∷ 0x1F ∷ 0x21 ∷ []) 12 (passed 12)
    -- "the length or need that follows"
    ∷ draws choices (0x02 ∷ 0x1F ∷ 0x21 ∷ []) 11 (refused 15 12)
    -- "the lowest node and then the lowest conclusion": conclusion 2 of node 1, not conclusion 1 of node 2
    ∷ chooses (0x03 ∷ 0x22 ∷ 0x23 ∷ 0x20 ∷ []) (0x01 ∷ 0x01 ∷ 0x02 ∷ 0x03 ∷ 0x01 ∷ [])
    -- "still unused": node 2 has used the first conclusion
    ∷ chooses (0x03 ∷ 0x1F ∷ 0x20 ∷ 0x20 ∷ []) (0x02 ∷ 0x01 ∷ 0x01 ∷ 0x02 ∷ 0x01 ∷ 0x01 ∷ 0x02 ∷ 0x03 ∷ 0x01 ∷ [])
    -- by the premise before it at the same node
    ∷ chooses (0x03 ∷ 0x23 ∷ 0x23 ∷ 0x21 ∷ []) (0x02 ∷ 0x01 ∷ 0x01 ∷ 0x03 ∷ 0x01 ∷ 0x02 ∷ 0x01 ∷ 0x03 ∷ 0x02 ∷ [])
    -- "if linear": a persistent one serves both premises, and the one of node 2 neither
    ∷ chooses (0x03 ∷ 0x25 ∷ 0x25 ∷ 0x26 ∷ []) (0x02 ∷ 0x01 ∷ 0x01 ∷ 0x03 ∷ 0x01 ∷ 0x01 ∷ 0x01 ∷ 0x03 ∷ 0x02 ∷ [])
    -- a node takes no conclusion of its own, nor one of a later node
    ∷ chooses (0x03 ∷ 0x23 ∷ 0x24 ∷ 0x20 ∷ []) (0x02 ∷ 0x01 ∷ 0x01 ∷ 0x02 ∷ 0x01 ∷ 0x02 ∷ 0x01 ∷ 0x03 ∷ 0x01 ∷ [])
    ∷ draws choices (0x01 ∷ 0x24 ∷ []) 9 (refused 14 1)
    ∷ draws choices (0x02 ∷ 0x20 ∷ 0x23 ∷ []) 9 (refused 14 1)
    -- "equal": by the equation of fst, though node 2 has the very term
    ∷ chooses (0x03 ∷ 0x27 ∷ 0x01 ∷ 0x05 ∷ 0x28 ∷ 0x01 ∷ 0x05 ∷ 0x29 ∷ 0x01 ∷ 0x05 ∷ []) (0x01 ∷ 0x01 ∷ 0x01 ∷ 0x03 ∷ 0x01 ∷ [])
    -- "Edges are written in that order of premises", though their sources fall
    ∷ chooses (0x03 ∷ 0x25 ∷ 0x23 ∷ 0x2A ∷ []) (0x02 ∷ 0x02 ∷ 0x01 ∷ 0x03 ∷ 0x01 ∷ 0x01 ∷ 0x01 ∷ 0x03 ∷ 0x02 ∷ [])
    ∷ []

-- ── by computation ──
computed : All (At work_need) rows
unfolding protocol rule layout facts fact own rule_term term term_in symbol_at arity tag_arities
    steps_under steps node_list nodes_from node rule_of numbered fixed same_fact same_terms same_term apply
    many counted below read_number read_in groups groups_in number_limit all_below draw_outcome
computed = (
  (refl, refl, refl, refl),
  (
    refl,
    (
      refl,
      (
        (refl, refl, refl, refl),
        (
          (refl, refl, refl, refl),
          (
            (refl, refl, refl, refl),
            ((refl, refl, refl, refl), ((refl, refl, refl, refl), (refl, (refl, ((refl, refl, refl, refl), ((refl, refl, refl, refl), tt)))))),
          ),
        ),
      ),
    ),
  ),
)

pub rows_hold : All Holds rows
rows_hold = all_grown rows computed
