-- Document 02, Change 4, as the calls judge: the two equations, canonical form, arities, the apply-rules 95 to 100, and properties.
use Rattle.std.specs.Prelude.{ℕ, List, [], ◌∷◌, ◌++◌, refl}
use Rattle.lists.specs.All.{All}
use Rattle.lists.specs.Below.{all_below}
use Rattle.number.specs.Groups.{groups, groups_in, number_limit}
use Rattle.number.specs.Reading.{read_in, read_number, below, many, counted}
use Rattle.term.specs.Arity.{arity, tag_arities}
use Rattle.term.specs.Reader.{symbol_at, term, term_in}
use Rattle.message.specs.Canon.{apply}
use Rattle.rewriting.specs.Table.{passed, refused}
use Rattle.protocol.specs.Protocol.{rule_term, fact, facts, layout, rule, own, protocol}
use Rattle.rules.specs.Numbered.{rule_of, numbered, fixed}
use Rattle.steps.specs.Nodes.{node, nodes_from, node_list, steps}
use Rattle.steps.specs.Facts.{same_fact, same_term, same_terms}
use Rattle.graph.specs.Graph.{place, edge, edge_list, graph}
use Rattle.graph.specs.Causes.{graph_ruling}
use Rattle.property.specs.Layout.{term_at, sort_at, equal_at, times_at, fact_at, timed_at, head_at, action_at, scoped_at, formula_at, property}
use Rattle.trace.specs.Truth.{truth}
use Rattle.checker.specs.Answer.{work_need}
use Rattle.checker.specs.Files.{term_file}
use Rattle.checker.specs.Check.{check_outcome}
use Rattle.checker.specs.Draw.{steps_under, draw_outcome}
use Rattle.checker.specs.Canonical.{canonical_outcome}
use Rattle.cases_proved.specs.Each.{Each, done, ◌and◌}
use Rattle.cases_proved.specs.Lines.{attack, falsehood}
use Rattle.cases_proved.specs.Pinned.Row.{Row, checks, draws, forms, At, Holds, all_hold, none, times}
use Rattle.cases_proved.specs.Pinned.Equations.{sends, hears, value}
use Rattle.cases_proved.specs.Pinned.Rules.{of_one, of_two}

-- ── files ──
-- 16 free functions of no argument: tags 13 to 28
abbrev sixteen : List ℕ
sixteen = 0x10 ∷ (times 16 (0x00 ∷ []) ++ (0x00 ∷ 0x00 ∷ []))

-- n rules without variables and facts
abbrev empties : ℕ → List ℕ
empties n = 0x00 ∷ 0x00 ∷ n ∷ times n (0x00 ∷ 0x00 ∷ 0x00 ∷ 0x00 ∷ [])

-- no node
abbrev no_graph : List ℕ
no_graph = 0x00 ∷ 0x00 ∷ []

-- n times h over public name 1
abbrev hashes : ℕ → List ℕ
hashes n = times n (0x06 ∷ []) ++ (0x01 ∷ 0x01 ∷ [])

-- public names 1 to 3 are known, a rule applies to them, and the function of that tag of i, j and k is sent
abbrev of_three : ℕ → ℕ → ℕ → ℕ → ℕ → List ℕ
of_three rule tag i j k =
    0x05 ∷ 0x03 ∷ 0x01 ∷ 0x01 ∷ 0x03 ∷ 0x01 ∷ 0x02 ∷ 0x03 ∷ 0x01 ∷ 0x03 ∷ rule ∷ 0x01 ∷ 0x01 ∷ 0x01 ∷ 0x02 ∷ 0x01 ∷ 0x03 ∷ 0x02 ∷ tag ∷ 0x01 ∷ i
    ∷ 0x01 ∷ j ∷ 0x01 ∷ k ∷ 0x04 ∷ 0x01 ∷ 0x01 ∷ 0x04 ∷ 0x01 ∷ 0x02 ∷ 0x01 ∷ 0x04 ∷ 0x02 ∷ 0x03 ∷ 0x01 ∷ 0x04 ∷ 0x03 ∷ 0x04 ∷ 0x01 ∷ 0x05 ∷ 0x01 ∷ []

-- ── the rows ──
abbrev pub rows : List Row
rows =
    -- "adec(aenc(m,pk(k)),k)=m and verify(sign(m,k),m,pk(k))=true", between what is sent and what is heard, and below h
    checks (sends (0x1E ∷ 0x1D ∷ 0x00 ∷ 0x00 ∷ 0x1F ∷ 0x00 ∷ 0x01 ∷ 0x00 ∷ 0x01 ∷ [])) falsehood (hears (0x01 ∷ 0x01 ∷ [])) (attack 2 0 1)
    ∷ checks (sends (0x21 ∷ 0x20 ∷ 0x00 ∷ 0x00 ∷ 0x00 ∷ 0x01 ∷ 0x00 ∷ 0x00 ∷ 0x1F ∷ 0x00 ∷ 0x01 ∷ [])) falsehood (hears (0x22 ∷ [])) (attack 2 0 1)
    ∷ checks (sends (0x06 ∷ 0x1E ∷ 0x1D ∷ 0x00 ∷ 0x00 ∷ 0x1F ∷ 0x00 ∷ 0x01 ∷ 0x00 ∷ 0x01 ∷ [])) falsehood (hears (0x06 ∷ 0x01 ∷ 0x01 ∷ [])) (attack 2 0 1)
    -- parts are normalised first: a key, a message and a signed message equal by the equations alone, a ciphertext only after fst
    ∷ checks (sends (0x1E ∷ 0x1D ∷ 0x00 ∷ 0x00 ∷ 0x1F ∷ 0x0C ∷ 0x00 ∷ 0x01 ∷ 0x00 ∷ 0x02 ∷ 0x0C ∷ 0x00 ∷ 0x02 ∷ 0x00 ∷ 0x01 ∷ [])) falsehood
    (hears (0x01 ∷ 0x01 ∷ [])) (attack 2 0 1)
    ∷ checks (sends (0x21 ∷ 0x20 ∷ 0x0C ∷ 0x00 ∷ 0x00 ∷ 0x00 ∷ 0x01 ∷ 0x00 ∷ 0x02 ∷ 0x0C ∷ 0x00 ∷ 0x01 ∷ 0x00 ∷ 0x00 ∷ 0x1F ∷ 0x00 ∷ 0x02 ∷ [])) falsehood
    (hears (0x22 ∷ [])) (attack 2 0 1)
    ∷ checks (sends (0x21 ∷ 0x20 ∷ 0x00 ∷ 0x00 ∷ 0x0C ∷ 0x00 ∷ 0x01 ∷ 0x00 ∷ 0x02 ∷ 0x00 ∷ 0x00 ∷ 0x1F ∷ 0x0C ∷ 0x00 ∷ 0x02 ∷ 0x00 ∷ 0x01 ∷ [])) falsehood
    (hears (0x22 ∷ [])) (attack 2 0 1)
    ∷ checks (sends (0x1E ∷ 0x08 ∷ 0x07 ∷ 0x1D ∷ 0x00 ∷ 0x00 ∷ 0x1F ∷ 0x00 ∷ 0x01 ∷ 0x00 ∷ 0x02 ∷ 0x00 ∷ 0x01 ∷ [])) falsehood (hears (0x01 ∷ 0x01 ∷ []))
    (attack 2 0 1)
    -- no others: another key, the public key on both sides, no pk, pk for the secret key; another message, another key, the secret key, no signature
    ∷ checks (sends (0x1E ∷ 0x1D ∷ 0x00 ∷ 0x00 ∷ 0x1F ∷ 0x00 ∷ 0x01 ∷ 0x00 ∷ 0x02 ∷ [])) falsehood (hears (0x01 ∷ 0x01 ∷ [])) (refused 11 1)
    ∷ checks (sends (0x1E ∷ 0x1D ∷ 0x00 ∷ 0x00 ∷ 0x1F ∷ 0x00 ∷ 0x01 ∷ 0x1F ∷ 0x00 ∷ 0x01 ∷ [])) falsehood (hears (0x01 ∷ 0x01 ∷ [])) (refused 11 1)
    ∷ checks (sends (0x1E ∷ 0x1D ∷ 0x00 ∷ 0x00 ∷ 0x00 ∷ 0x01 ∷ 0x00 ∷ 0x01 ∷ [])) falsehood (hears (0x01 ∷ 0x01 ∷ [])) (refused 11 1)
    ∷ checks (sends (0x21 ∷ 0x20 ∷ 0x00 ∷ 0x00 ∷ 0x00 ∷ 0x01 ∷ 0x00 ∷ 0x02 ∷ 0x1F ∷ 0x00 ∷ 0x01 ∷ [])) falsehood (hears (0x22 ∷ [])) (refused 11 1)
    ∷ checks (sends (0x21 ∷ 0x20 ∷ 0x00 ∷ 0x00 ∷ 0x00 ∷ 0x01 ∷ 0x00 ∷ 0x00 ∷ 0x1F ∷ 0x00 ∷ 0x02 ∷ [])) falsehood (hears (0x22 ∷ [])) (refused 11 1)
    ∷ checks (sends (0x21 ∷ 0x20 ∷ 0x00 ∷ 0x00 ∷ 0x00 ∷ 0x01 ∷ 0x00 ∷ 0x00 ∷ 0x00 ∷ 0x01 ∷ [])) falsehood (hears (0x22 ∷ [])) (refused 11 1)
    ∷ checks (sends (0x21 ∷ 0x1D ∷ 0x00 ∷ 0x00 ∷ 0x00 ∷ 0x01 ∷ 0x00 ∷ 0x00 ∷ 0x1F ∷ 0x00 ∷ 0x01 ∷ [])) falsehood (hears (0x22 ∷ [])) (refused 11 1)
    -- dec does not open aenc, adec does not open enc; "true" is no unit, and not its own inverse
    ∷ checks (sends (0x05 ∷ 0x1D ∷ 0x00 ∷ 0x00 ∷ 0x00 ∷ 0x01 ∷ 0x00 ∷ 0x01 ∷ [])) falsehood (hears (0x01 ∷ 0x01 ∷ [])) (refused 11 1)
    ∷ checks (sends (0x1E ∷ 0x04 ∷ 0x00 ∷ 0x00 ∷ 0x1F ∷ 0x00 ∷ 0x01 ∷ 0x00 ∷ 0x01 ∷ [])) falsehood (hears (0x01 ∷ 0x01 ∷ [])) (refused 11 1)
    ∷ checks (sends (0x0C ∷ 0x00 ∷ 0x00 ∷ 0x22 ∷ [])) falsehood (hears (0x01 ∷ 0x01 ∷ [])) (refused 11 1)
    ∷ checks (sends (0x0B ∷ 0x22 ∷ [])) falsehood (hears (0x22 ∷ [])) (refused 11 1)
    -- "In a canonical term neither new equation applies", as values: a canonical one is 12, any other 7
    ∷ checks none falsehood (value (0x1E ∷ 0x1D ∷ 0x01 ∷ 0x01 ∷ 0x1F ∷ 0x01 ∷ 0x02 ∷ 0x01 ∷ 0x02 ∷ [])) (refused 7 1)
    ∷ checks none falsehood (value (0x1E ∷ 0x1D ∷ 0x01 ∷ 0x01 ∷ 0x1F ∷ 0x01 ∷ 0x02 ∷ 0x01 ∷ 0x03 ∷ [])) (refused 12 1)
    ∷ checks none falsehood (value (0x21 ∷ 0x20 ∷ 0x01 ∷ 0x01 ∷ 0x01 ∷ 0x02 ∷ 0x01 ∷ 0x01 ∷ 0x1F ∷ 0x01 ∷ 0x02 ∷ [])) (refused 7 1)
    ∷ checks none falsehood (value (0x21 ∷ 0x20 ∷ 0x01 ∷ 0x01 ∷ 0x01 ∷ 0x02 ∷ 0x01 ∷ 0x03 ∷ 0x1F ∷ 0x01 ∷ 0x02 ∷ [])) (refused 12 1)
    ∷ checks none falsehood (value (0x21 ∷ 0x20 ∷ 0x01 ∷ 0x01 ∷ 0x01 ∷ 0x02 ∷ 0x01 ∷ 0x01 ∷ 0x01 ∷ 0x02 ∷ [])) (refused 12 1)
    -- factors like others, behind every free function by their bytes
    ∷ checks none falsehood (value (0x0C ∷ 0x01 ∷ 0x01 ∷ 0x22 ∷ [])) (refused 12 1)
    ∷ checks none falsehood (value (0x0C ∷ 0x22 ∷ 0x01 ∷ 0x01 ∷ [])) (refused 7 1)
    ∷ checks none falsehood (value (0x0B ∷ 0x22 ∷ [])) (refused 12 1)
    ∷ checks sixteen falsehood (value (0x0C ∷ 0x1C ∷ 0x1F ∷ 0x01 ∷ 0x01 ∷ [])) (refused 12 1)
    ∷ checks sixteen falsehood (value (0x0C ∷ 0x1F ∷ 0x01 ∷ 0x01 ∷ 0x1C ∷ [])) (refused 7 1)
    -- "arities 2, 2, 1, 2, 3, 0", and 35 is no tag; canonical form "returns their length"
    ∷ forms none (0x1E ∷ 0x1D ∷ 0x01 ∷ 0x01 ∷ 0x1F ∷ 0x01 ∷ 0x02 ∷ 0x01 ∷ 0x02 ∷ []) 9 (passed 2)
    ∷ forms none (0x21 ∷ 0x20 ∷ 0x01 ∷ 0x01 ∷ 0x01 ∷ 0x02 ∷ 0x01 ∷ 0x01 ∷ 0x1F ∷ 0x01 ∷ 0x02 ∷ []) 9 (passed 1)
    ∷ forms none (0x1D ∷ 0x01 ∷ 0x01 ∷ 0x01 ∷ 0x02 ∷ []) 9 (passed 5)
    ∷ forms none (0x1D ∷ 0x01 ∷ 0x01 ∷ []) 9 (refused 3 4)
    ∷ forms none (0x1E ∷ 0x01 ∷ 0x01 ∷ 0x01 ∷ 0x02 ∷ []) 9 (passed 5)
    ∷ forms none (0x1E ∷ 0x01 ∷ 0x01 ∷ []) 9 (refused 3 4)
    ∷ forms none (0x1F ∷ 0x01 ∷ 0x01 ∷ []) 9 (passed 3)
    ∷ forms none (0x1F ∷ 0x01 ∷ 0x01 ∷ 0x01 ∷ 0x02 ∷ []) 9 (refused 3 4)
    ∷ forms none (0x20 ∷ 0x01 ∷ 0x01 ∷ 0x01 ∷ 0x02 ∷ []) 9 (passed 5)
    ∷ forms none (0x20 ∷ 0x01 ∷ 0x01 ∷ []) 9 (refused 3 4)
    ∷ forms none (0x21 ∷ 0x01 ∷ 0x01 ∷ 0x01 ∷ 0x02 ∷ 0x01 ∷ 0x03 ∷ []) 9 (passed 7)
    ∷ forms none (0x21 ∷ 0x01 ∷ 0x01 ∷ 0x01 ∷ 0x02 ∷ []) 9 (refused 3 4)
    ∷ forms none (0x22 ∷ []) 9 (passed 1)
    ∷ forms none (0x22 ∷ 0x01 ∷ 0x01 ∷ []) 9 (refused 3 4)
    ∷ forms none (0x23 ∷ []) 9 (refused 3 4)
    ∷ forms none (0x23 ∷ 0x01 ∷ 0x01 ∷ []) 9 (refused 3 4)
    ∷ checks none falsehood (value (0x23 ∷ [])) (refused 3 3)
    ∷ checks (sends (0x23 ∷ [])) falsehood no_graph (refused 3 1)
    -- "Their apply-rules are 95 to 100, in that order": aenc, adec, pk, sign, verify, true, in argument order
    ∷ checks none falsehood (of_two 95 29 1 2) (attack 4 1 3)
    ∷ checks none falsehood (of_two 95 29 2 1) (refused 11 3)
    ∷ checks none falsehood (of_two 96 30 1 2) (attack 4 1 3)
    ∷ checks none falsehood (of_two 96 30 2 1) (refused 11 3)
    ∷ checks none falsehood (of_one 97 31) (attack 3 1 2)
    ∷ checks none falsehood (of_two 98 32 1 2) (attack 4 1 3)
    ∷ checks none falsehood (of_two 98 32 2 1) (refused 11 3)
    ∷ checks none falsehood (of_three 99 33 1 2 3) (attack 5 1 4)
    ∷ checks none falsehood (of_three 99 33 1 3 2) (refused 11 4)
    ∷ checks none falsehood (0x02 ∷ 0x64 ∷ 0x02 ∷ 0x22 ∷ 0x01 ∷ 0x01 ∷ 0x01 ∷ 0x02 ∷ 0x01 ∷ []) (attack 2 1 1)
    ∷ draws none (0x02 ∷ 0x64 ∷ 0x02 ∷ 0x22 ∷ []) 9 (passed 9)
    -- "so protocol rules keep their numbers": 31 to 36, and 94, are the protocol's or none; 101 is none
    ∷ checks none falsehood (0x01 ∷ 0x1F ∷ 0x00 ∷ []) (refused 6 1)
    ∷ checks none falsehood (0x01 ∷ 0x24 ∷ 0x00 ∷ []) (refused 6 1)
    ∷ checks (empties 6) falsehood (0x01 ∷ 0x24 ∷ 0x00 ∷ []) (attack 1 0 0)
    ∷ checks (empties 63) falsehood (0x01 ∷ 0x5E ∷ 0x00 ∷ []) (refused 6 1)
    ∷ checks (empties 64) falsehood (0x01 ∷ 0x5F ∷ 0x00 ∷ []) (refused 3 3)
    ∷ checks (empties 64) falsehood (0x01 ∷ 0x64 ∷ 0x00 ∷ []) (attack 1 0 0)
    ∷ draws none (0x01 ∷ 0x65 ∷ []) 9 (refused 6 1)
    -- "Outside properties, tags 29 to 34 cease to be a layout fault": in a property they stay one, as terms and as formulas
    ∷ checks none (0x01 ∷ (0x1D ∷ 0x01 ∷ 0x01 ∷ 0x01 ∷ 0x02 ∷ 0x01 ∷ 0x01 ∷ [])) no_graph (refused 3 2)
    ∷ checks none (0x01 ∷ (0x1E ∷ 0x01 ∷ 0x01 ∷ 0x01 ∷ 0x02 ∷ 0x01 ∷ 0x01 ∷ [])) no_graph (refused 3 2)
    ∷ checks none (0x01 ∷ (0x1F ∷ 0x01 ∷ 0x01 ∷ 0x01 ∷ 0x01 ∷ [])) no_graph (refused 3 2)
    ∷ checks none (0x01 ∷ (0x20 ∷ 0x01 ∷ 0x01 ∷ 0x01 ∷ 0x02 ∷ 0x01 ∷ 0x01 ∷ [])) no_graph (refused 3 2)
    ∷ checks none (0x01 ∷ (0x21 ∷ 0x01 ∷ 0x01 ∷ 0x01 ∷ 0x02 ∷ 0x01 ∷ 0x03 ∷ 0x01 ∷ 0x01 ∷ [])) no_graph (refused 3 2)
    ∷ checks none (0x01 ∷ (0x22 ∷ 0x01 ∷ 0x01 ∷ [])) no_graph (refused 3 2)
    ∷ checks none (0x1D ∷ []) no_graph (refused 3 2)
    ∷ checks none (0x22 ∷ []) no_graph (refused 3 2)
    -- a term of 256 symbols is made of three values, one of 385 is not
    ∷ checks none falsehood (0x01 ∷ 0x63 ∷ (hashes 127 ++ (hashes 125 ++ (hashes 0 ++ (0x00 ∷ []))))) (refused 12 1)
    ∷ checks none falsehood (0x01 ∷ 0x63 ∷ (hashes 127 ++ (hashes 127 ++ (hashes 127 ++ (0x00 ∷ []))))) (refused 8 1)
    ∷ []

-- ── by computation ──
computed : Each (At work_need) rows
unfolding protocol rule layout facts fact own rule_term term term_in symbol_at arity tag_arities
    property formula_at scoped_at head_at action_at timed_at fact_at times_at equal_at sort_at term_at
    graph_ruling graph edge_list edge place steps_under steps node_list nodes_from node rule_of numbered fixed
    truth same_fact same_terms same_term apply term_file
    many counted below read_number read_in groups groups_in number_limit all_below
    check_outcome draw_outcome canonical_outcome
computed =
    refl and refl and refl and refl and refl and refl and refl and refl and refl and refl and refl and refl and refl and refl and refl and refl and refl and
    refl and refl and refl and refl and refl and refl and refl and refl and refl and refl and refl and refl and refl and refl and refl and refl and refl
    and refl and refl and refl and refl and refl and refl and refl and refl and refl and refl and refl and refl and refl and refl and refl and refl and
    refl and refl and refl and refl and refl and refl and refl and refl and refl and refl and refl and refl and refl and refl and refl and refl and refl
    and refl and refl and refl and refl and refl and refl and refl and done

pub rows_hold : All Holds rows
rows_hold = all_hold rows computed
