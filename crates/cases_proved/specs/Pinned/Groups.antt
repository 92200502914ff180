-- Document 02, Change 3: "A number may have four groups, up to 268,435,455, and the term file grows to 1,280 bytes. Every reader and writer of a number
-- relies on the new range. FF FF FF 7F (hexadecimal) is read, and a fifth group is refused as layout."
use Rattle.std.specs.Prelude.{ℕ, List, [], ◌∷◌, ◌++◌, refl, replicate}
use Rattle.lists.specs.All.{All}
use Rattle.lists.specs.Below.{all_below}
use Rattle.number.specs.Groups.{groups, groups_in, number_limit}
use Rattle.number.specs.Reading.{read_in, read_number, below, many, counted}
use Rattle.term.specs.Arity.{arity, tag_arities}
use Rattle.term.specs.Reader.{symbol_at, term, term_in}
use Rattle.message.specs.Canon.{apply}
use Rattle.rewriting.specs.Table.{passed, refused}
use Rattle.protocol.specs.Protocol.{rule_term, fact, facts, layout, rule, own, protocol}
use Rattle.rules.specs.Numbered.{rule_of, numbered, fixed}
use Rattle.steps.specs.Nodes.{node, nodes_from, node_list, steps}
use Rattle.steps.specs.Facts.{same_fact, same_term, same_terms}
use Rattle.graph.specs.Graph.{place, edge, edge_list, graph}
use Rattle.graph.specs.Causes.{graph_ruling}
use Rattle.property.specs.Layout.{term_at, sort_at, equal_at, times_at, fact_at, timed_at, head_at, action_at, scoped_at, formula_at, property}
use Rattle.trace.specs.Truth.{truth}
use Rattle.checker.specs.Answer.{work_need}
use Rattle.checker.specs.Files.{term_file}
use Rattle.checker.specs.Check.{check_outcome}
use Rattle.checker.specs.Draw.{steps_under, draw_outcome}
use Rattle.checker.specs.Canonical.{canonical_outcome}
use Rattle.cases_proved.specs.Each.{Each, done, ◌and◌}
use Rattle.cases_proved.specs.Lines.{attack, run, falsehood, no_graph}
use Rattle.cases_proved.specs.Pinned.Row.{Row, checks, draws, forms, At, Holds, all_hold, none, own_fact, times}

-- 2,097,152, the least number of four groups; 268,435,455; five groups; zero in four
abbrev four : List ℕ
four = 0x80 ∷ 0x80 ∷ 0x80 ∷ 0x01 ∷ []

abbrev most : List ℕ
most = 0xFF ∷ 0xFF ∷ 0xFF ∷ 0x7F ∷ []

abbrev fifth : List ℕ
fifth = 0x80 ∷ 0x80 ∷ 0x80 ∷ 0x80 ∷ 0x01 ∷ []

abbrev long : List ℕ
long = 0x80 ∷ 0x80 ∷ 0x80 ∷ 0x00 ∷ []

-- ── the rows ──
abbrev pub rows : List Row
rows =
    -- "no such rule | 6 | node": a rule number that a file can hold, wherever nodes stand
    draws none (0x01 ∷ four) 0 (refused 6 1)
    ∷ draws none (0x01 ∷ most) 0 (refused 6 1)
    ∷ checks none falsehood (0x01 ∷ (four ++ (0x00 ∷ []))) (refused 6 1)
    ∷ draws none (0x01 ∷ fifth) 0 (refused 3 5)
    ∷ draws none (0x01 ∷ long) 0 (refused 3 5)
    ∷ checks none falsehood (0x01 ∷ (fifth ++ (0x00 ∷ []))) (refused 3 3)
    -- "value .. holds a variable | 7 | node"
    ∷ draws none (0x01 ∷ 0x08 ∷ 0x00 ∷ four) 0 (refused 7 1)
    ∷ draws none (0x01 ∷ 0x08 ∷ 0x00 ∷ fifth) 0 (refused 3 5)
    ∷ draws none (0x01 ∷ 0x08 ∷ 0x00 ∷ long) 0 (refused 3 5)
    -- "name made twice | 9 | later node": the largest name twice and once; names of which only the fourth group differs
    ∷ draws none (0x02 ∷ 0x00 ∷ 0x02 ∷ (most ++ (0x00 ∷ 0x02 ∷ most))) 14 (refused 9 2)
    ∷ draws none (0x01 ∷ 0x00 ∷ 0x02 ∷ most) 8 (passed 8)
    ∷ draws none (0x02 ∷ 0x00 ∷ 0x02 ∷ (four ++ (0x00 ∷ 0x02 ∷ 0x80 ∷ 0x80 ∷ 0x80 ∷ 0x02 ∷ []))) 14 (passed 14)
    ∷ draws none (0x02 ∷ 0x00 ∷ 0x02 ∷ (four ++ (0x00 ∷ 0x02 ∷ 0x00 ∷ []))) 11 (passed 11)
    -- "edge end missing | 10 | edge": each field; the edge with small ones is accepted
    ∷ checks (own_fact 0x00) falsehood (0x02 ∷ 0x1F ∷ 0x20 ∷ 0x01 ∷ 0x01 ∷ 0x01 ∷ 0x02 ∷ 0x01 ∷ []) (attack 2 0 1)
    ∷ checks (own_fact 0x00) falsehood (0x02 ∷ 0x1F ∷ 0x20 ∷ 0x01 ∷ (most ++ (0x01 ∷ 0x02 ∷ 0x01 ∷ []))) (refused 10 1)
    ∷ checks (own_fact 0x00) falsehood (0x02 ∷ 0x1F ∷ 0x20 ∷ 0x01 ∷ 0x01 ∷ (most ++ (0x02 ∷ 0x01 ∷ []))) (refused 10 1)
    ∷ checks (own_fact 0x00) falsehood (0x02 ∷ 0x1F ∷ 0x20 ∷ 0x01 ∷ 0x01 ∷ 0x01 ∷ (most ++ (0x01 ∷ []))) (refused 10 1)
    ∷ checks (own_fact 0x00) falsehood (0x02 ∷ 0x1F ∷ 0x20 ∷ 0x01 ∷ 0x01 ∷ 0x01 ∷ 0x02 ∷ most) (refused 10 1)
    ∷ checks (own_fact 0x00) falsehood (0x02 ∷ 0x1F ∷ 0x20 ∷ 0x01 ∷ 0x01 ∷ 0x01 ∷ 0x02 ∷ fifth) (refused 3 3)
    ∷ checks (own_fact 0x00) falsehood (0x02 ∷ 0x1F ∷ 0x20 ∷ 0x01 ∷ 0x01 ∷ 0x01 ∷ 0x02 ∷ long) (refused 3 3)
    -- "variable out of scope .. | 5 | 0": a message's and a time's
    ∷ checks none (0x01 ∷ 0x00 ∷ (four ++ (0x01 ∷ 0x00 ∷ []))) no_graph (refused 5 0)
    ∷ checks none (0x05 ∷ (four ++ four)) no_graph (refused 5 0)
    ∷ checks none (0x01 ∷ 0x00 ∷ (fifth ++ (0x01 ∷ 0x00 ∷ []))) no_graph (refused 3 2)
    ∷ checks none (0x01 ∷ 0x00 ∷ (long ++ (0x01 ∷ 0x00 ∷ []))) no_graph (refused 3 2)
    -- public names in a property: the largest is itself, and the fourth group counts
    ∷ checks none (0x01 ∷ 0x01 ∷ (most ++ (0x01 ∷ most))) no_graph (run 0 0 0)
    ∷ checks none (0x01 ∷ 0x01 ∷ (four ++ (0x01 ∷ 0x00 ∷ []))) no_graph (attack 0 0 0)
    -- a name in a rule; an undeclared rule variable stays 3
    ∷ checks (0x00 ∷ 0x00 ∷ 0x01 ∷ 0x00 ∷ 0x00 ∷ 0x00 ∷ 0x01 ∷ 0x02 ∷ 0x01 ∷ most) falsehood no_graph (attack 0 0 0)
    ∷ checks (0x00 ∷ 0x00 ∷ 0x01 ∷ 0x00 ∷ 0x00 ∷ 0x00 ∷ 0x01 ∷ 0x02 ∷ 0x01 ∷ fifth) falsehood no_graph (refused 3 1)
    ∷ checks (0x00 ∷ 0x00 ∷ 0x01 ∷ 0x00 ∷ 0x00 ∷ 0x00 ∷ 0x01 ∷ 0x02 ∷ 0x00 ∷ four) falsehood no_graph (refused 3 1)
    -- counts, arities, flags, sorts, symbols and tags of four groups are past their figures: protocol, property, nodes and edges, term
    ∷ checks (four ++ (0x00 ∷ 0x00 ∷ [])) falsehood no_graph (refused 3 1)
    ∷ checks (0x01 ∷ (four ++ (0x00 ∷ 0x00 ∷ []))) falsehood no_graph (refused 3 1)
    ∷ checks (0x00 ∷ (four ++ (0x00 ∷ []))) falsehood no_graph (refused 3 1)
    ∷ checks (0x00 ∷ 0x01 ∷ (four ++ (0x00 ∷ 0x00 ∷ []))) falsehood no_graph (refused 3 1)
    ∷ checks (0x00 ∷ 0x01 ∷ 0x00 ∷ (four ++ (0x00 ∷ []))) falsehood no_graph (refused 3 1)
    ∷ checks (0x00 ∷ 0x00 ∷ four) falsehood no_graph (refused 3 1)
    ∷ checks (0x00 ∷ 0x00 ∷ 0x01 ∷ four) falsehood no_graph (refused 3 1)
    ∷ checks (0x00 ∷ 0x00 ∷ 0x01 ∷ 0x01 ∷ (four ++ (0x00 ∷ 0x00 ∷ 0x00 ∷ []))) falsehood no_graph (refused 3 1)
    ∷ checks (0x00 ∷ 0x00 ∷ 0x01 ∷ 0x00 ∷ four) falsehood no_graph (refused 3 1)
    ∷ checks (0x00 ∷ 0x00 ∷ 0x01 ∷ 0x00 ∷ 0x00 ∷ 0x00 ∷ 0x01 ∷ (four ++ (0x01 ∷ 0x00 ∷ []))) falsehood no_graph (refused 3 1)
    ∷ checks (0x00 ∷ 0x00 ∷ 0x01 ∷ 0x00 ∷ 0x00 ∷ 0x00 ∷ 0x01 ∷ 0x02 ∷ four) falsehood no_graph (refused 3 1)
    ∷ checks none (four) no_graph (refused 3 2)
    ∷ checks none (0x0B ∷ (four ++ (0x00 ∷ []))) no_graph (refused 3 2)
    ∷ checks none (0x0B ∷ 0x01 ∷ (four ++ (0x03 ∷ 0x01 ∷ 0x00 ∷ 0x00 ∷ 0x00 ∷ []))) no_graph (refused 3 2)
    ∷ checks none (0x0B ∷ 0x01 ∷ 0x03 ∷ (four ++ (0x01 ∷ 0x00 ∷ 0x00 ∷ 0x00 ∷ []))) no_graph (refused 3 2)
    ∷ checks none (0x01 ∷ (four ++ (0x00 ∷ 0x01 ∷ 0x00 ∷ []))) no_graph (refused 3 2)
    ∷ draws none (four) 0 (refused 3 5)
    ∷ draws none (0x01 ∷ 0x08 ∷ four) 0 (refused 3 5)
    ∷ checks none falsehood (four ++ (0x00 ∷ [])) (refused 3 3)
    ∷ checks none falsehood (0x00 ∷ four) (refused 3 3)
    ∷ forms none four 0 (refused 3 4)
    -- "ascend by their encoded bytes": name 2,097,152 stands behind 128 and before 129; the value is right, and K of it is not there
    ∷ draws none (0x01 ∷ 0x08 ∷ 0x0C ∷ 0x02 ∷ 0x80 ∷ 0x01 ∷ 0x0C ∷ 0x02 ∷ (four ++ (0x02 ∷ 0x81 ∷ 0x01 ∷ []))) 0 (refused 14 1)
    ∷ draws none (0x01 ∷ 0x08 ∷ 0x0C ∷ 0x02 ∷ 0x80 ∷ 0x01 ∷ 0x0C ∷ 0x02 ∷ 0x81 ∷ 0x01 ∷ 0x02 ∷ four) 0 (refused 7 1)
    ∷ draws none (0x01 ∷ 0x08 ∷ 0x0C ∷ 0x02 ∷ (four ++ (0x0C ∷ 0x02 ∷ 0x80 ∷ 0x01 ∷ 0x02 ∷ 0x81 ∷ 0x01 ∷ []))) 0 (refused 7 1)
    -- "the term file grows to 1,280 bytes", not the symbols of a term: 171 names under 170 pairs are 1,025 bytes and 341 symbols, 212 under 211 are 1,271
    ∷ forms none (replicate 170 0x07 ++ (times 171 (0x02 ∷ most))) 0 (refused 8 0)
    ∷ forms none (replicate 211 0x07 ++ (times 212 (0x02 ∷ most))) 0 (refused 8 0)
    ∷ forms none (replicate 127 0x07 ++ (times 128 (0x02 ∷ most))) 767 (passed 767)
    ∷ []

-- ── by computation ──
computed : Each (At work_need) rows
unfolding protocol rule layout facts fact own rule_term term term_in symbol_at arity tag_arities
    property formula_at scoped_at head_at action_at timed_at fact_at times_at equal_at sort_at term_at
    graph_ruling graph edge_list edge place steps_under steps node_list nodes_from node rule_of numbered fixed
    truth same_fact same_terms same_term apply term_file
    many counted below read_number read_in groups groups_in number_limit all_below
    check_outcome draw_outcome canonical_outcome
computed =
    refl and refl and refl and refl and refl and refl and refl and refl and refl and refl and refl and refl and refl and refl and refl and refl
    and refl and refl and refl and refl and refl and refl and refl and refl and refl and refl and refl and refl and refl and refl and refl and refl
    and refl and refl and refl and refl and refl and refl and refl and refl and refl and refl and refl and refl and refl and refl and refl and refl
    and refl and refl and refl and refl and refl and refl and refl and refl and done

pub rows_hold : All Holds rows
rows_hold = all_hold rows computed
