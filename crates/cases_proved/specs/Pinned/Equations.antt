-- "Equality is the least congruence of document 003, figure 2" and "Canonical form", as the calls judge facts and values.
use Rattle.std.specs.Prelude.{ℕ, List, [], ◌∷◌, ◌++◌, refl}
use Rattle.lists.specs.All.{All}
use Rattle.lists.specs.Below.{all_below}
use Rattle.number.specs.Groups.{groups, groups_in, number_limit}
use Rattle.number.specs.Reading.{read_in, read_number, below, many, counted}
use Rattle.term.specs.Arity.{arity, tag_arities}
use Rattle.term.specs.Reader.{symbol_at, term, term_in}
use Rattle.message.specs.Canon.{apply}
use Rattle.rewriting.specs.Table.{passed, refused}
use Rattle.protocol.specs.Protocol.{rule_term, fact, facts, layout, rule, own, protocol}
use Rattle.rules.specs.Numbered.{rule_of, numbered, fixed}
use Rattle.steps.specs.Nodes.{node, nodes_from, node_list, steps}
use Rattle.steps.specs.Facts.{same_fact, same_term, same_terms}
use Rattle.graph.specs.Graph.{place, edge, edge_list, graph}
use Rattle.graph.specs.Causes.{graph_ruling}
use Rattle.property.specs.Layout.{term_at, sort_at, equal_at, times_at, fact_at, timed_at, head_at, action_at, scoped_at, formula_at, property}
use Rattle.trace.specs.Truth.{truth}
use Rattle.checker.specs.Answer.{work_need}
use Rattle.checker.specs.Files.{term_file}
use Rattle.checker.specs.Check.{check_outcome}
use Rattle.checker.specs.Draw.{steps_under, draw_outcome}
use Rattle.checker.specs.Canonical.{canonical_outcome}
use Rattle.cases_proved.specs.Each.{Each, done, ◌and◌}
use Rattle.cases_proved.specs.Lines.{attack, falsehood}
use Rattle.cases_proved.specs.Pinned.Row.{Row, checks, forms, At, Holds, all_hold, none}

-- ── files ──
-- a protocol: nothing to Out of a term of three variables of sort public
abbrev pub sends : List ℕ → List ℕ
sends term = 0x00 ∷ 0x00 ∷ 0x01 ∷ 0x03 ∷ 0x02 ∷ 0x02 ∷ 0x02 ∷ 0x00 ∷ 0x00 ∷ 0x01 ∷ 0x02 ∷ term

-- a graph: that rule of the public names 1, 2 and 3, and rule 1 of a term; an edge from Out to Out
abbrev pub hears : List ℕ → List ℕ
hears term = 0x02 ∷ 0x1F ∷ 0x01 ∷ 0x01 ∷ 0x01 ∷ 0x02 ∷ 0x01 ∷ 0x03 ∷ 0x01 ∷ (term ++ (0x01 ∷ 0x01 ∷ 0x01 ∷ 0x02 ∷ 0x01 ∷ []))

-- a graph: rule 1 of a term, its premise without an edge
abbrev pub value : List ℕ → List ℕ
value term = 0x01 ∷ 0x01 ∷ (term ++ (0x00 ∷ []))

-- ── the rows ──
abbrev pub rows : List Row
rows =
    -- "equal facts count as the same fact": the ten equations, each between what is sent and what is heard. "dec(enc(m,k),k)=m; fst and snd
    -- project pairs"
    checks (sends (0x05 ∷ 0x04 ∷ 0x00 ∷ 0x00 ∷ 0x00 ∷ 0x01 ∷ 0x00 ∷ 0x01 ∷ [])) falsehood (hears (0x01 ∷ 0x01 ∷ [])) (attack 2 0 1)
    ∷ checks (sends (0x08 ∷ 0x07 ∷ 0x00 ∷ 0x00 ∷ 0x00 ∷ 0x01 ∷ [])) falsehood (hears (0x01 ∷ 0x01 ∷ [])) (attack 2 0 1)
    ∷ checks (sends (0x09 ∷ 0x07 ∷ 0x00 ∷ 0x00 ∷ 0x00 ∷ 0x01 ∷ [])) falsehood (hears (0x01 ∷ 0x02 ∷ [])) (attack 2 0 1)
    -- "mul is associative and commutative with unit one and inverse inv"
    ∷ checks
    (sends (0x0C ∷ 0x0C ∷ 0x00 ∷ 0x00 ∷ 0x00 ∷ 0x01 ∷ 0x00 ∷ 0x02 ∷ []))
    falsehood
    (hears (0x0C ∷ 0x01 ∷ 0x01 ∷ 0x0C ∷ 0x01 ∷ 0x02 ∷ 0x01 ∷ 0x03 ∷ [])) (attack 2 0 1)
    ∷ checks (sends (0x0C ∷ 0x00 ∷ 0x01 ∷ 0x00 ∷ 0x00 ∷ [])) falsehood (hears (0x0C ∷ 0x01 ∷ 0x01 ∷ 0x01 ∷ 0x02 ∷ [])) (attack 2 0 1)
    ∷ checks (sends (0x0C ∷ 0x00 ∷ 0x00 ∷ 0x03 ∷ [])) falsehood (hears (0x01 ∷ 0x01 ∷ [])) (attack 2 0 1)
    ∷ checks (sends (0x0C ∷ 0x00 ∷ 0x00 ∷ 0x0B ∷ 0x00 ∷ 0x00 ∷ [])) falsehood (hears (0x03 ∷ [])) (attack 2 0 1)
    -- "inv(inv(y))=y; exp(exp(y,z),w)=exp(y,mul(z,w)); exp(y,one)=y"
    ∷ checks (sends (0x0B ∷ 0x0B ∷ 0x00 ∷ 0x00 ∷ [])) falsehood (hears (0x01 ∷ 0x01 ∷ [])) (attack 2 0 1)
    ∷ checks
    (sends (0x0A ∷ 0x0A ∷ 0x00 ∷ 0x00 ∷ 0x00 ∷ 0x01 ∷ 0x00 ∷ 0x02 ∷ []))
    falsehood
    (hears (0x0A ∷ 0x01 ∷ 0x01 ∷ 0x0C ∷ 0x01 ∷ 0x02 ∷ 0x01 ∷ 0x03 ∷ [])) (attack 2 0 1)
    ∷ checks (sends (0x0A ∷ 0x00 ∷ 0x00 ∷ 0x03 ∷ [])) falsehood (hears (0x01 ∷ 0x01 ∷ [])) (attack 2 0 1)
    -- "congruence": below h
    ∷ checks (sends (0x06 ∷ 0x08 ∷ 0x07 ∷ 0x00 ∷ 0x00 ∷ 0x00 ∷ 0x01 ∷ [])) falsehood (hears (0x06 ∷ 0x01 ∷ 0x01 ∷ [])) (attack 2 0 1)
    -- no others: dec with another key, enc of dec, a pair of fst and snd, the key as the message
    ∷ checks (sends (0x05 ∷ 0x04 ∷ 0x00 ∷ 0x00 ∷ 0x00 ∷ 0x01 ∷ 0x00 ∷ 0x02 ∷ [])) falsehood (hears (0x01 ∷ 0x01 ∷ [])) (refused 11 1)
    ∷ checks (sends (0x04 ∷ 0x05 ∷ 0x00 ∷ 0x00 ∷ 0x00 ∷ 0x01 ∷ 0x00 ∷ 0x01 ∷ [])) falsehood (hears (0x01 ∷ 0x01 ∷ [])) (refused 11 1)
    ∷ checks (sends (0x07 ∷ 0x08 ∷ 0x00 ∷ 0x00 ∷ 0x09 ∷ 0x00 ∷ 0x00 ∷ [])) falsehood (hears (0x01 ∷ 0x01 ∷ [])) (refused 11 1)
    ∷ checks (sends (0x05 ∷ 0x04 ∷ 0x00 ∷ 0x00 ∷ 0x00 ∷ 0x01 ∷ 0x00 ∷ 0x00 ∷ [])) falsehood (hears (0x01 ∷ 0x02 ∷ [])) (refused 11 1)
    -- "reading mul as the product in the DH group, so that exp spreads over it"; inv(x) below exp stays; exp is not commutative
    ∷ checks
    (sends (0x0A ∷ 0x0C ∷ 0x00 ∷ 0x00 ∷ 0x00 ∷ 0x01 ∷ 0x00 ∷ 0x02 ∷ []))
    falsehood
    (hears (0x0C ∷ 0x0A ∷ 0x01 ∷ 0x01 ∷ 0x01 ∷ 0x03 ∷ 0x0A ∷ 0x01 ∷ 0x02 ∷ 0x01 ∷ 0x03 ∷ [])) (refused 11 1)
    ∷ checks
    (sends (0x0A ∷ 0x0B ∷ 0x00 ∷ 0x00 ∷ 0x00 ∷ 0x01 ∷ []))
    falsehood
    (hears (0x0B ∷ 0x0A ∷ 0x01 ∷ 0x01 ∷ 0x01 ∷ 0x02 ∷ [])) (refused 11 1)
    ∷ checks (sends (0x0A ∷ 0x00 ∷ 0x00 ∷ 0x00 ∷ 0x01 ∷ [])) falsehood (hears (0x0A ∷ 0x01 ∷ 0x02 ∷ 0x01 ∷ 0x01 ∷ [])) (refused 11 1)
    -- "comparing ciphertext keys before normalising": dec(enc(x,mul(y,z)),mul(z,y)) is x
    ∷ checks
    (sends (0x05 ∷ 0x04 ∷ 0x00 ∷ 0x00 ∷ 0x0C ∷ 0x00 ∷ 0x01 ∷ 0x00 ∷ 0x02 ∷ 0x0C ∷ 0x00 ∷ 0x02 ∷ 0x00 ∷ 0x01 ∷ []))
    falsehood (hears (0x01 ∷ 0x01 ∷ [])) (attack 2 0 1)
    -- "Fresh and public names are two incomparable sets": public name 1 is not fresh name 1
    ∷ checks (sends (0x00 ∷ 0x00 ∷ [])) falsehood (hears (0x01 ∷ 0x01 ∷ [])) (attack 2 0 1)
    ∷ checks (sends (0x00 ∷ 0x00 ∷ [])) falsehood (hears (0x02 ∷ 0x01 ∷ [])) (refused 11 1)
    -- "no dec, fst or snd equation applies", as values: a canonical one is 12, any other 7
    ∷ checks none falsehood (value (0x05 ∷ 0x04 ∷ 0x01 ∷ 0x01 ∷ 0x01 ∷ 0x02 ∷ 0x01 ∷ 0x02 ∷ [])) (refused 7 1)
    ∷ checks none falsehood (value (0x05 ∷ 0x04 ∷ 0x01 ∷ 0x01 ∷ 0x01 ∷ 0x02 ∷ 0x01 ∷ 0x03 ∷ [])) (refused 12 1)
    ∷ checks none falsehood (value (0x08 ∷ 0x07 ∷ 0x01 ∷ 0x01 ∷ 0x01 ∷ 0x02 ∷ [])) (refused 7 1)
    ∷ checks none falsehood (value (0x09 ∷ 0x07 ∷ 0x01 ∷ 0x01 ∷ 0x01 ∷ 0x02 ∷ [])) (refused 7 1)
    ∷ checks none falsehood (value (0x08 ∷ 0x01 ∷ 0x01 ∷ [])) (refused 12 1)
    -- "the base of an exp is no exp, its exponent is not one"
    ∷ checks none falsehood (value (0x0A ∷ 0x0A ∷ 0x01 ∷ 0x01 ∷ 0x01 ∷ 0x02 ∷ 0x01 ∷ 0x03 ∷ [])) (refused 7 1)
    ∷ checks none falsehood (value (0x0A ∷ 0x01 ∷ 0x01 ∷ 0x03 ∷ [])) (refused 7 1)
    ∷ checks none falsehood (value (0x0A ∷ 0x03 ∷ 0x01 ∷ 0x01 ∷ [])) (refused 12 1)
    ∷ checks none falsehood (value (0x0A ∷ 0x01 ∷ 0x01 ∷ 0x0A ∷ 0x01 ∷ 0x02 ∷ 0x01 ∷ 0x03 ∷ [])) (refused 12 1)
    -- "each factor carries a whole-number exponent ..; exponent zero drops out": repeated, inverted
    ∷ checks none falsehood (value (0x0C ∷ 0x01 ∷ 0x01 ∷ 0x01 ∷ 0x01 ∷ [])) (refused 12 1)
    ∷ checks none falsehood (value (0x0C ∷ 0x01 ∷ 0x01 ∷ 0x0B ∷ 0x01 ∷ 0x01 ∷ [])) (refused 7 1)
    ∷ checks none falsehood (value (0x0C ∷ 0x01 ∷ 0x01 ∷ 0x0B ∷ 0x01 ∷ 0x02 ∷ [])) (refused 12 1)
    -- "ascend by their encoded bytes (unsigned, the first difference decides)": 256 (80 02) before 129 (81 01), 127 (7F) before 128 (80 01)
    ∷ checks none falsehood (value (0x0C ∷ 0x01 ∷ 0x80 ∷ 0x02 ∷ 0x01 ∷ 0x81 ∷ 0x01 ∷ [])) (refused 12 1)
    ∷ checks none falsehood (value (0x0C ∷ 0x01 ∷ 0x81 ∷ 0x01 ∷ 0x01 ∷ 0x80 ∷ 0x02 ∷ [])) (refused 7 1)
    ∷ checks none falsehood (value (0x0C ∷ 0x01 ∷ 0x7F ∷ 0x01 ∷ 0x80 ∷ 0x01 ∷ [])) (refused 12 1)
    ∷ checks none falsehood (value (0x0C ∷ 0x01 ∷ 0x80 ∷ 0x01 ∷ 0x01 ∷ 0x7F ∷ [])) (refused 7 1)
    ∷ checks none falsehood (value (0x0C ∷ 0x01 ∷ 0x09 ∷ 0x02 ∷ 0x00 ∷ [])) (refused 12 1)
    ∷ checks none falsehood (value (0x0C ∷ 0x02 ∷ 0x00 ∷ 0x01 ∷ 0x09 ∷ [])) (refused 7 1)
    -- "form P = mul(first, rest)", "negative ones form N likewise", "The result is P, inv(N), mul(P, inv(N)), or one"
    ∷ checks none falsehood (value (0x0C ∷ 0x01 ∷ 0x01 ∷ 0x0C ∷ 0x01 ∷ 0x02 ∷ 0x01 ∷ 0x03 ∷ [])) (refused 12 1)
    ∷ checks none falsehood (value (0x0C ∷ 0x0C ∷ 0x01 ∷ 0x01 ∷ 0x01 ∷ 0x02 ∷ 0x01 ∷ 0x03 ∷ [])) (refused 7 1)
    ∷ checks none falsehood (value (0x0B ∷ 0x0C ∷ 0x01 ∷ 0x01 ∷ 0x01 ∷ 0x02 ∷ [])) (refused 12 1)
    ∷ checks none falsehood (value (0x0C ∷ 0x0B ∷ 0x01 ∷ 0x01 ∷ 0x0B ∷ 0x01 ∷ 0x02 ∷ [])) (refused 7 1)
    ∷ checks none falsehood (value (0x0C ∷ 0x0C ∷ 0x01 ∷ 0x02 ∷ 0x01 ∷ 0x03 ∷ 0x0B ∷ 0x01 ∷ 0x01 ∷ [])) (refused 12 1)
    ∷ checks none falsehood (value (0x0C ∷ 0x01 ∷ 0x02 ∷ 0x0C ∷ 0x01 ∷ 0x03 ∷ 0x0B ∷ 0x01 ∷ 0x01 ∷ [])) (refused 7 1)
    ∷ checks none falsehood (value (0x0C ∷ 0x0B ∷ 0x01 ∷ 0x01 ∷ 0x01 ∷ 0x02 ∷ [])) (refused 7 1)
    ∷ checks none falsehood (value (0x03 ∷ [])) (refused 12 1)
    -- "A factor is no mul, inv or one"
    ∷ checks none falsehood (value (0x0C ∷ 0x03 ∷ 0x01 ∷ 0x01 ∷ [])) (refused 7 1)
    ∷ checks none falsehood (value (0x0B ∷ 0x03 ∷ [])) (refused 7 1)
    ∷ checks none falsehood (value (0x0B ∷ 0x0B ∷ 0x01 ∷ 0x01 ∷ [])) (refused 7 1)
    -- canonical form "returns their length": of each of these
    ∷ forms none (0x05 ∷ 0x04 ∷ 0x01 ∷ 0x01 ∷ 0x01 ∷ 0x02 ∷ 0x01 ∷ 0x02 ∷ []) 9 (passed 2)
    ∷ forms none (0x08 ∷ 0x07 ∷ 0x01 ∷ 0x01 ∷ 0x01 ∷ 0x02 ∷ []) 9 (passed 2)
    ∷ forms none (0x0A ∷ 0x0A ∷ 0x01 ∷ 0x01 ∷ 0x01 ∷ 0x02 ∷ 0x0B ∷ 0x01 ∷ 0x02 ∷ []) 9 (passed 2)
    ∷ forms none (0x0C ∷ 0x01 ∷ 0x01 ∷ 0x0B ∷ 0x01 ∷ 0x01 ∷ []) 9 (passed 1)
    ∷ forms none (0x0C ∷ 0x0B ∷ 0x01 ∷ 0x01 ∷ 0x0B ∷ 0x01 ∷ 0x02 ∷ []) 9 (passed 6)
    ∷ []

-- ── by computation ──
computed : Each (At work_need) rows
unfolding protocol rule layout facts fact own rule_term term term_in symbol_at arity tag_arities
    property formula_at scoped_at head_at action_at timed_at fact_at times_at equal_at sort_at term_at
    graph_ruling graph edge_list edge place steps_under steps node_list nodes_from node rule_of numbered fixed
    truth same_fact same_terms same_term apply term_file
    many counted below read_number read_in groups groups_in number_limit all_below
    check_outcome draw_outcome canonical_outcome
computed =
    refl and refl and refl and refl and refl and refl and refl and refl and refl and refl and refl and refl and refl and refl and refl and refl
    and refl and refl and refl and refl and refl and refl and refl and refl and refl and refl and refl and refl and refl and refl and refl and refl
    and refl and refl and refl and refl and refl and refl and refl and refl and refl and refl and refl and refl and refl and refl and refl and refl
    and refl and refl and refl and refl and refl and refl and refl and done

pub rows_hold : All Holds rows
rows_hold = all_hold rows computed
