-- "A figure in brackets after a file or a count is the most allowed": of each count, at the figure and one past it (of files: Refusals.antt).
use Rattle.std.specs.Prelude.{ℕ, List, [], ◌∷◌, ◌++◌, refl, replicate}
use Rattle.lists.specs.All.{All}
use Rattle.lists.specs.Below.{all_below}
use Rattle.number.specs.Groups.{groups, groups_in, number_limit}
use Rattle.number.specs.Reading.{read_in, read_number, below, many, counted}
use Rattle.term.specs.Arity.{arity, tag_arities}
use Rattle.term.specs.Reader.{symbol_at, term, term_in}
use Rattle.message.specs.Canon.{apply}
use Rattle.rewriting.specs.Table.{passed, refused}
use Rattle.protocol.specs.Protocol.{rule_term, fact, facts, layout, rule, own, protocol}
use Rattle.rules.specs.Numbered.{rule_of, numbered, fixed}
use Rattle.steps.specs.Nodes.{node, nodes_from, node_list, steps}
use Rattle.steps.specs.Facts.{same_fact, same_term, same_terms}
use Rattle.graph.specs.Graph.{place, edge, edge_list, graph}
use Rattle.graph.specs.Causes.{graph_ruling}
use Rattle.property.specs.Layout.{term_at, sort_at, equal_at, times_at, fact_at, timed_at, head_at, action_at, scoped_at, formula_at, property}
use Rattle.trace.specs.Truth.{truth}
use Rattle.checker.specs.Answer.{work_need}
use Rattle.checker.specs.Files.{term_file}
use Rattle.checker.specs.Check.{check_outcome}
use Rattle.checker.specs.Draw.{steps_under, draw_outcome}
use Rattle.checker.specs.Canonical.{canonical_outcome}
use Rattle.cases_proved.specs.Each.{Each, done, ◌and◌}
use Rattle.cases_proved.specs.Lines.{attack, run, falsehood, no_graph}
use Rattle.cases_proved.specs.Pinned.Row.{Row, checks, draws, forms, At, Holds, all_hold, none, own_fact, times}

-- a rule without variables and facts, number 31
abbrev one_rule : List ℕ
one_rule = 0x00 ∷ 0x00 ∷ 0x01 ∷ 0x00 ∷ 0x00 ∷ 0x00 ∷ 0x00 ∷ []

-- ── the rows ──
abbrev pub rows : List Row
rows =
    -- "count of free functions (16), each arity (0 to 4)"
    checks (0x10 ∷ (replicate 16 0x00 ++ (0x00 ∷ 0x00 ∷ []))) falsehood no_graph (attack 0 0 0)
    ∷ checks (0x11 ∷ (replicate 17 0x00 ++ (0x00 ∷ 0x00 ∷ []))) falsehood no_graph (refused 3 1)
    ∷ checks (0x01 ∷ 0x04 ∷ 0x00 ∷ 0x00 ∷ []) falsehood no_graph (attack 0 0 0)
    ∷ checks (0x01 ∷ 0x05 ∷ 0x00 ∷ 0x00 ∷ []) falsehood no_graph (refused 3 1)
    -- "count of own fact symbols (32), each arity (0 to 8) and 0 linear or 1 persistent"
    ∷ checks (0x00 ∷ 0x20 ∷ (replicate 64 0x00 ++ (0x00 ∷ []))) falsehood no_graph (attack 0 0 0)
    ∷ checks (0x00 ∷ 0x21 ∷ (replicate 66 0x00 ++ (0x00 ∷ []))) falsehood no_graph (refused 3 1)
    ∷ checks (0x00 ∷ 0x01 ∷ 0x08 ∷ 0x00 ∷ 0x00 ∷ []) falsehood no_graph (attack 0 0 0)
    ∷ checks (0x00 ∷ 0x01 ∷ 0x09 ∷ 0x00 ∷ 0x00 ∷ []) falsehood no_graph (refused 3 1)
    ∷ checks (0x00 ∷ 0x01 ∷ 0x00 ∷ 0x01 ∷ 0x00 ∷ []) falsehood no_graph (attack 0 0 0)
    ∷ checks (0x00 ∷ 0x01 ∷ 0x00 ∷ 0x02 ∷ 0x00 ∷ []) falsehood no_graph (refused 3 1)
    -- the last own symbol is 35
    ∷ checks (0x00 ∷ 0x20 ∷ (replicate 64 0x00 ++ (0x01 ∷ 0x00 ∷ 0x00 ∷ 0x01 ∷ 0x23 ∷ 0x00 ∷ []))) falsehood no_graph (attack 0 0 0)
    ∷ checks (0x00 ∷ 0x20 ∷ (replicate 64 0x00 ++ (0x01 ∷ 0x00 ∷ 0x00 ∷ 0x01 ∷ 0x24 ∷ 0x00 ∷ []))) falsehood no_graph (refused 3 1)
    -- "count of rules (64)"; the last is 94, and behind 100 there is none
    ∷ checks (0x00 ∷ 0x00 ∷ 0x40 ∷ replicate 256 0x00) falsehood (0x01 ∷ 0x5E ∷ 0x00 ∷ []) (attack 1 0 0)
    ∷ checks (0x00 ∷ 0x00 ∷ 0x40 ∷ replicate 256 0x00) falsehood (0x01 ∷ 0x65 ∷ 0x00 ∷ []) (refused 6 1)
    ∷ checks (0x00 ∷ 0x00 ∷ 0x41 ∷ replicate 260 0x00) falsehood no_graph (refused 3 1)
    -- "count of variables (16), each sort (0 message, 1 fresh, 2 public)"
    ∷ checks (0x00 ∷ 0x00 ∷ 0x01 ∷ 0x10 ∷ (replicate 16 0x00 ++ (0x00 ∷ 0x00 ∷ 0x00 ∷ []))) falsehood no_graph (attack 0 0 0)
    ∷ checks (0x00 ∷ 0x00 ∷ 0x01 ∷ 0x11 ∷ (replicate 17 0x00 ++ (0x00 ∷ 0x00 ∷ 0x00 ∷ []))) falsehood no_graph (refused 3 1)
    ∷ checks (0x00 ∷ 0x00 ∷ 0x01 ∷ 0x01 ∷ 0x02 ∷ 0x00 ∷ 0x00 ∷ 0x00 ∷ []) falsehood no_graph (attack 0 0 0)
    ∷ checks (0x00 ∷ 0x00 ∷ 0x01 ∷ 0x01 ∷ 0x03 ∷ 0x00 ∷ 0x00 ∷ 0x00 ∷ []) falsehood no_graph (refused 3 1)
    -- "premises, actions, conclusions, each a count (8) and facts"
    ∷ checks (0x00 ∷ 0x01 ∷ 0x00 ∷ 0x00 ∷ 0x01 ∷ 0x00 ∷ 0x08 ∷ (replicate 8 0x04 ++ (0x00 ∷ 0x00 ∷ []))) falsehood no_graph (attack 0 0 0)
    ∷ checks (0x00 ∷ 0x01 ∷ 0x00 ∷ 0x00 ∷ 0x01 ∷ 0x00 ∷ 0x09 ∷ (replicate 9 0x04 ++ (0x00 ∷ 0x00 ∷ []))) falsehood no_graph (refused 3 1)
    ∷ checks (0x00 ∷ 0x01 ∷ 0x00 ∷ 0x00 ∷ 0x01 ∷ 0x00 ∷ 0x00 ∷ 0x08 ∷ (replicate 8 0x04 ++ (0x00 ∷ []))) falsehood no_graph (attack 0 0 0)
    ∷ checks (0x00 ∷ 0x01 ∷ 0x00 ∷ 0x00 ∷ 0x01 ∷ 0x00 ∷ 0x00 ∷ 0x09 ∷ (replicate 9 0x04 ++ (0x00 ∷ []))) falsehood no_graph (refused 3 1)
    ∷ checks (0x00 ∷ 0x01 ∷ 0x00 ∷ 0x00 ∷ 0x01 ∷ 0x00 ∷ 0x00 ∷ 0x00 ∷ 0x08 ∷ replicate 8 0x04) falsehood no_graph (attack 0 0 0)
    ∷ checks (0x00 ∷ 0x01 ∷ 0x00 ∷ 0x00 ∷ 0x01 ∷ 0x00 ∷ 0x00 ∷ 0x00 ∷ 0x09 ∷ replicate 9 0x04) falsehood no_graph (refused 3 1)
    -- "a rule's term has at most 64 symbols", each by itself; a leaf's number is no symbol
    ∷ checks (0x00 ∷ 0x00 ∷ 0x01 ∷ 0x00 ∷ 0x00 ∷ 0x01 ∷ 0x03 ∷ (replicate 63 0x06 ++ (0x03 ∷ 0x00 ∷ []))) falsehood no_graph (attack 0 0 0)
    ∷ checks (0x00 ∷ 0x00 ∷ 0x01 ∷ 0x00 ∷ 0x00 ∷ 0x01 ∷ 0x03 ∷ (replicate 64 0x06 ++ (0x03 ∷ 0x00 ∷ []))) falsehood no_graph (refused 3 1)
    ∷ checks
    (0x00 ∷ 0x00 ∷ 0x01 ∷ 0x00 ∷ 0x00 ∷ 0x01 ∷ 0x03 ∷ (replicate 63 0x06 ++ (0x01 ∷ 0x00 ∷ 0x00 ∷ [])))
    falsehood no_graph (attack 0 0 0)
    ∷ checks
    (0x00 ∷ 0x00 ∷ 0x01 ∷ 0x00 ∷ 0x00 ∷ 0x01 ∷ 0x03 ∷ (replicate 64 0x06 ++ (0x01 ∷ 0x00 ∷ 0x00 ∷ [])))
    falsehood no_graph (refused 3 1)
    ∷ checks
    (0x00 ∷ 0x01 ∷ 0x02 ∷ 0x00 ∷ 0x01 ∷ 0x00 ∷ 0x00 ∷ 0x01 ∷ 0x04 ∷ (replicate 63 0x06 ++ (0x03 ∷ (replicate 63 0x06 ++ (0x03 ∷ 0x00 ∷ [])))))
    falsehood no_graph (attack 0 0 0)
    -- "Symbols 0 Fr, 1 In, 2 Out .., 3 K .., each of arity 1"
    ∷ checks
    (0x00 ∷ 0x00 ∷ 0x01 ∷ 0x00 ∷ 0x00 ∷ 0x04 ∷ 0x00 ∷ 0x03 ∷ 0x01 ∷ 0x03 ∷ 0x02 ∷ 0x03 ∷ 0x03 ∷ 0x03 ∷ 0x00 ∷ [])
    falsehood no_graph (attack 0 0 0)
    -- "Arities: one 0; h, fst, snd, inv 1; the others 2": each with just the terms that it takes
    ∷ forms none (0x03 ∷ []) 1 (passed 1)
    ∷ forms none (0x06 ∷ 0x03 ∷ []) 2 (passed 2)
    ∷ forms none (0x08 ∷ 0x01 ∷ 0x00 ∷ []) 3 (passed 3)
    ∷ forms none (0x09 ∷ 0x01 ∷ 0x00 ∷ []) 3 (passed 3)
    ∷ forms none (0x0B ∷ 0x01 ∷ 0x00 ∷ []) 3 (passed 3)
    ∷ forms none (0x04 ∷ 0x01 ∷ 0x00 ∷ 0x01 ∷ 0x01 ∷ []) 5 (passed 5)
    ∷ forms none (0x05 ∷ 0x01 ∷ 0x00 ∷ 0x01 ∷ 0x01 ∷ []) 5 (passed 5)
    ∷ forms none (0x07 ∷ 0x01 ∷ 0x00 ∷ 0x01 ∷ 0x01 ∷ []) 5 (passed 5)
    ∷ forms none (0x0A ∷ 0x01 ∷ 0x00 ∷ 0x01 ∷ 0x01 ∷ []) 5 (passed 5)
    ∷ forms none (0x0C ∷ 0x01 ∷ 0x00 ∷ 0x01 ∷ 0x01 ∷ []) 5 (passed 5)
    -- "count of nodes (512)", in a graph and in steps
    ∷ checks one_rule falsehood (0x80 ∷ 0x04 ∷ (replicate 512 0x1F ++ (0x00 ∷ []))) (attack 512 0 0)
    ∷ checks one_rule falsehood (0x81 ∷ 0x04 ∷ (replicate 513 0x1F ++ (0x00 ∷ []))) (refused 3 3)
    ∷ draws one_rule (0x80 ∷ 0x04 ∷ replicate 512 0x1F) 515 (passed 515)
    ∷ draws one_rule (0x81 ∷ 0x04 ∷ replicate 513 0x1F) 516 (refused 3 5)
    -- "count of edges (4,096)": one more; just as many are in Edges.antt
    ∷ checks (own_fact 0) falsehood (0x02 ∷ 0x1F ∷ 0x20 ∷ 0x81 ∷ 0x20 ∷ times 4097 (0x01 ∷ 0x01 ∷ 0x02 ∷ 0x01 ∷ [])) (refused 3 3)
    -- "a count of new variables (8)": new ones that are not in their guard are 5, one too many 3
    ∷ checks none (0x0B ∷ 0x08 ∷ (replicate 8 0x00 ++ (0x03 ∷ 0x01 ∷ 0x00 ∷ 0x00 ∷ 0x00 ∷ []))) no_graph (refused 5 0)
    ∷ checks none (0x0B ∷ 0x09 ∷ (replicate 9 0x00 ++ (0x03 ∷ 0x01 ∷ 0x00 ∷ 0x00 ∷ 0x00 ∷ []))) no_graph (refused 3 2)
    -- "16 in scope"; a sibling's do not count
    ∷ checks none
    (0x0B ∷ 0x08 ∷ (replicate 8 0x00 ++ (0x03 ∷ 0x01 ∷ 0x00 ∷ 0x00 ∷ 0x0B ∷ 0x08 ∷ (replicate 8 0x00 ++ (0x03 ∷ 0x01 ∷ 0x00 ∷ 0x00 ∷ 0x00
    ∷ [])))))
    no_graph (refused 5 0)
    ∷ checks none
    (0x0B ∷ 0x08 ∷ (replicate 8 0x00 ++ (0x03 ∷ 0x01 ∷ 0x00 ∷ 0x00 ∷ 0x0B ∷ 0x08 ∷ (replicate 8 0x00 ++ (0x03 ∷ 0x01 ∷ 0x00 ∷ 0x00 ∷ 0x0B
    ∷ 0x01 ∷ 0x00 ∷ 0x03 ∷ 0x01 ∷ 0x00 ∷ 0x00 ∷ 0x00 ∷ [])))))
    no_graph (refused 3 2)
    ∷ checks none
    (0x0B ∷ 0x08 ∷ (replicate 8 0x00 ++ (0x03 ∷ 0x01 ∷ 0x00 ∷ 0x00 ∷ 0x09 ∷ 0x0B ∷ 0x08 ∷ (replicate 8 0x00 ++ (0x03 ∷ 0x01 ∷ 0x00 ∷ 0x00
    ∷ 0x00 ∷ 0x0B ∷ 0x08 ∷ (replicate 8 0x00 ++ (0x03 ∷ 0x01 ∷ 0x00 ∷ 0x00 ∷ 0x00 ∷ [])))))))
    no_graph (refused 5 0)
    -- "nesting at most 16, the outermost formula counting one": on the left, on the right, below quantifiers
    ∷ checks none (replicate 15 0x09 ++ (replicate 16 0x00)) no_graph (attack 0 0 0)
    ∷ checks none (replicate 16 0x09 ++ (replicate 17 0x00)) no_graph (refused 3 2)
    ∷ checks none (times 15 (0x0A ∷ 0x00 ∷ []) ++ (0x00 ∷ [])) no_graph (attack 0 0 0)
    ∷ checks none (times 16 (0x0A ∷ 0x00 ∷ []) ++ (0x00 ∷ [])) no_graph (refused 3 2)
    ∷ checks none
    (0x0B ∷ 0x01 ∷ 0x03 ∷ 0x03 ∷ 0x01 ∷ 0x00 ∷ 0x00 ∷ (times 14 (0x0C ∷ 0x00 ∷ 0x03 ∷ 0x01 ∷ 0x00 ∷ 0x00 ∷ []) ++ (0x00 ∷ [])))
    no_graph (attack 0 0 0)
    ∷ checks none
    (0x0B ∷ 0x01 ∷ 0x03 ∷ 0x03 ∷ 0x01 ∷ 0x00 ∷ 0x00 ∷ (times 15 (0x0C ∷ 0x00 ∷ 0x03 ∷ 0x01 ∷ 0x00 ∷ 0x00 ∷ []) ++ (0x00 ∷ [])))
    no_graph (refused 3 2)
    -- "each sort (0 message, 3 time)"
    ∷ checks none (0x0C ∷ 0x02 ∷ 0x00 ∷ 0x03 ∷ 0x03 ∷ 0x00 ∷ 0x00 ∷ 0x01 ∷ 0x00 ∷ []) no_graph (run 0 0 0)
    ∷ checks none (0x0C ∷ 0x02 ∷ 0x01 ∷ 0x03 ∷ 0x03 ∷ 0x00 ∷ 0x00 ∷ 0x01 ∷ 0x00 ∷ []) no_graph (refused 3 2)
    ∷ checks none (0x0C ∷ 0x02 ∷ 0x02 ∷ 0x03 ∷ 0x03 ∷ 0x00 ∷ 0x00 ∷ 0x01 ∷ 0x00 ∷ []) no_graph (refused 3 2)
    ∷ checks none (0x0C ∷ 0x02 ∷ 0x04 ∷ 0x03 ∷ 0x03 ∷ 0x00 ∷ 0x00 ∷ 0x01 ∷ 0x00 ∷ []) no_graph (refused 3 2)
    -- "Only tags 0 and 1 stand for terms here."; tag 12 is the last of a formula
    ∷ checks none (0x01 ∷ 0x01 ∷ 0x00 ∷ 0x01 ∷ 0x00 ∷ []) no_graph (run 0 0 0)
    ∷ checks none (0x01 ∷ 0x02 ∷ 0x00 ∷ 0x02 ∷ 0x00 ∷ []) no_graph (refused 3 2)
    ∷ checks none (0x01 ∷ 0x03 ∷ 0x03 ∷ []) no_graph (refused 3 2)
    ∷ checks none (0x0D ∷ []) no_graph (refused 3 2)
    ∷ checks none (0x0D ∷ 0x00 ∷ 0x03 ∷ 0x01 ∷ 0x00 ∷ 0x00 ∷ 0x00 ∷ []) no_graph (refused 3 2)
    -- "groups of seven bits, lowest first, top bit set where another group follows": names of one, two and three groups
    ∷ forms none (0x01 ∷ 0x7F ∷ []) 2 (passed 2)
    ∷ forms none (0x01 ∷ 0x80 ∷ 0x01 ∷ []) 3 (passed 3)
    ∷ forms none (0x01 ∷ 0x80 ∷ 0x80 ∷ 0x01 ∷ []) 4 (passed 4)
    -- "shortest form"; document 02, Change 3: "A number may have four groups, up to 268,435,455"
    ∷ forms none (0x01 ∷ 0xFF ∷ 0xFF ∷ 0xFF ∷ 0x7F ∷ []) 5 (passed 5)
    ∷ forms none (0x01 ∷ 0x80 ∷ 0x80 ∷ 0x80 ∷ 0x80 ∷ 0x01 ∷ []) 6 (refused 3 4)
    ∷ forms none (0x01 ∷ 0xFF ∷ 0x00 ∷ []) 3 (refused 3 4)
    ∷ forms none (0x01 ∷ 0xFF ∷ 0xFF ∷ 0x00 ∷ []) 4 (refused 3 4)
    ∷ forms none (0x01 ∷ 0x80 ∷ []) 2 (refused 3 4)
    ∷ []

-- ── by computation ──
computed : Each (At work_need) rows
unfolding protocol rule layout facts fact own rule_term term term_in symbol_at arity tag_arities
    property formula_at scoped_at head_at action_at timed_at fact_at times_at equal_at sort_at term_at
    graph_ruling graph edge_list edge place steps_under steps node_list nodes_from node rule_of numbered fixed
    truth same_fact same_terms same_term apply term_file
    many counted below read_number read_in groups groups_in number_limit all_below
    check_outcome draw_outcome canonical_outcome
computed =
    refl and refl and refl and refl and refl and refl and refl and refl and refl and refl and refl and refl and refl and refl and refl and refl
    and refl and refl and refl and refl and refl and refl and refl and refl and refl and refl and refl and refl and refl and refl and refl and refl
    and refl and refl and refl and refl and refl and refl and refl and refl and refl and refl and refl and refl and refl and refl and refl and refl
    and refl and refl and refl and refl and refl and refl and refl and refl and refl and refl and refl and refl and refl and refl and refl and refl
    and refl and refl and refl and refl and refl and refl and refl and refl and refl and refl and done

pub rows_hold : All Holds rows
rows_hold = all_hold rows computed
