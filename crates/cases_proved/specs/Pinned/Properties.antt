-- The forms of a property, each by traces that make it true and traces that make it false: what checking answers of small files, by computation.
use Rattle.std.specs.Prelude.{ℕ, List, [], ◌∷◌, ◌++◌, map, ◌≡◌, refl, length}
use Rattle.lists.specs.All.{All}
use Rattle.lists.specs.All.Laws.{map_all}
use Rattle.lists.specs.Below.{all_below}
use Rattle.number.specs.Groups.{groups, groups_in, number_limit}
use Rattle.number.specs.Layout.{flat}
use Rattle.number.specs.Reading.{read_in, read_number, below, many, counted}
use Rattle.term.specs.Arity.{arity, tag_arities}
use Rattle.term.specs.Reader.{symbol_at, term, term_in}
use Rattle.message.specs.Canon.{apply}
use Rattle.rewriting.specs.Table.{Ruling}
use Rattle.protocol.specs.Protocol.{rule_term, fact, facts, layout, rule, own, protocol}
use Rattle.rules.specs.Numbered.{rule_of, numbered, fixed}
use Rattle.steps.specs.Nodes.{node, nodes_from, node_list}
use Rattle.steps.specs.Facts.{same_fact, same_term, same_terms}
use Rattle.graph.specs.Graph.{place, edge, edge_list, graph}
use Rattle.graph.specs.Causes.{graph_ruling}
use Rattle.property.specs.Layout.{term_at, sort_at, equal_at, times_at, fact_at, timed_at, head_at, action_at, scoped_at, formula_at, property}
use Rattle.trace.specs.Truth.{truth}
use Rattle.checker.specs.Answer.{work_need}
use Rattle.checker.specs.Check.{Checked, check_outcome}
use Rattle.cases_proved.specs.Lines.{attack, run}
use Rattle.cases_proved.specs.Pinned.Row.{Row, checks, Holds, grown}

-- ── the protocol: what a node records ──
-- A and B are facts of one message, C of two, by the symbols 04, 05 and 06
abbrev recording : List ℕ
recording =
    0x00 ∷ 0x03 ∷ 0x01 ∷ 0x00 ∷ 0x01 ∷ 0x00 ∷ 0x02 ∷ 0x00 ∷ 0x06
    -- 1F, x public: A(x)
    ∷ 0x01 ∷ 0x02 ∷ 0x00 ∷ 0x01 ∷ 0x04 ∷ 0x00 ∷ 0x00 ∷ 0x00
    -- 20, x public: B(x)
    ∷ 0x01 ∷ 0x02 ∷ 0x00 ∷ 0x01 ∷ 0x05 ∷ 0x00 ∷ 0x00 ∷ 0x00
    -- 21, x public: A(x), B(x)
    ∷ 0x01 ∷ 0x02 ∷ 0x00 ∷ 0x02 ∷ 0x04 ∷ 0x00 ∷ 0x00 ∷ 0x05 ∷ 0x00 ∷ 0x00 ∷ 0x00
    -- 22, x and y public: C(x, y)
    ∷ 0x02 ∷ 0x02 ∷ 0x02 ∷ 0x00 ∷ 0x01 ∷ 0x06 ∷ 0x00 ∷ 0x00 ∷ 0x00 ∷ 0x01 ∷ 0x00
    -- 23, x, y and z public: A(dec(enc(x, y), z))
    ∷ 0x03 ∷ 0x02 ∷ 0x02 ∷ 0x02 ∷ 0x00 ∷ 0x01 ∷ 0x04 ∷ 0x05 ∷ 0x04 ∷ 0x00 ∷ 0x00 ∷ 0x00 ∷ 0x01 ∷ 0x00 ∷ 0x02 ∷ 0x00
    -- 24, x fresh: A(x), from Fr(x)
    ∷ 0x01 ∷ 0x01 ∷ 0x01 ∷ 0x00 ∷ 0x00 ∷ 0x00 ∷ 0x01 ∷ 0x04 ∷ 0x00 ∷ 0x00 ∷ 0x00
    ∷ []

-- ── the traces: nodes without an edge ──
-- the node that records A, B or both of the public name n
abbrev a : ℕ → List ℕ
a n = 0x1F ∷ 0x01 ∷ n ∷ []

abbrev b : ℕ → List ℕ
b n = 0x20 ∷ 0x01 ∷ n ∷ []

abbrev a_b : ℕ → List ℕ
a_b n = 0x21 ∷ 0x01 ∷ n ∷ []

-- C of the public names m and n
abbrev c : ℕ → ℕ → List ℕ
c m n = 0x22 ∷ 0x01 ∷ m ∷ 0x01 ∷ n ∷ []

-- A of what opens, with the public name n for a key, the public name 0 locked with the public name 1
abbrev opened : ℕ → List ℕ
opened n = 0x23 ∷ 0x01 ∷ 0x00 ∷ 0x01 ∷ 0x01 ∷ 0x01 ∷ n ∷ []

-- rule 3 records nothing
abbrev silent : List ℕ
silent = 0x03 ∷ 0x01 ∷ 0x00 ∷ []

abbrev nodes : List (List ℕ) → List ℕ
nodes xs = length xs ∷ (flat (λ x. x) xs ++ (0x00 ∷ []))

-- A of the fresh name 7, which node 1 makes, and B of the public name 7
abbrev fresh_public : List ℕ
fresh_public = 0x03 ∷ 0x00 ∷ 0x02 ∷ 0x07 ∷ 0x24 ∷ 0x02 ∷ 0x07 ∷ 0x20 ∷ 0x01 ∷ 0x07 ∷ 0x01 ∷ 0x01 ∷ 0x01 ∷ 0x02 ∷ 0x01 ∷ []

-- ── the properties ──
-- exists x, i with A(x) at i, or for all such, then the body: x and i are the variables 0 and 1
abbrev some_a : List ℕ → List ℕ
some_a body = 0x0B ∷ 0x02 ∷ 0x00 ∷ 0x03 ∷ 0x04 ∷ 0x00 ∷ 0x00 ∷ 0x01 ∷ body

abbrev every_a : List ℕ → List ℕ
every_a body = 0x0C ∷ 0x02 ∷ 0x00 ∷ 0x03 ∷ 0x04 ∷ 0x00 ∷ 0x00 ∷ 0x01 ∷ body

-- in it exists y, j with B(y) at j: y and j are 2 and 3
abbrev some_a_b : List ℕ → List ℕ
some_a_b body = some_a (0x0B ∷ 0x02 ∷ 0x00 ∷ 0x03 ∷ 0x05 ∷ 0x00 ∷ 0x02 ∷ 0x03 ∷ body)

-- a tag with x and y, with i and j
abbrev of_x_y : ℕ → List ℕ
of_x_y tag = tag ∷ 0x00 ∷ 0x00 ∷ 0x00 ∷ 0x02 ∷ []

abbrev of_i_j : ℕ → List ℕ
of_i_j tag = tag ∷ 0x01 ∷ 0x03 ∷ []

-- a tag with B(x) at a time variable
abbrev b_of_x_at : ℕ → ℕ → List ℕ
b_of_x_at tag time = tag ∷ 0x05 ∷ 0x00 ∷ 0x00 ∷ time ∷ []

-- x is the public name n
abbrev x_is : ℕ → List ℕ
x_is n = 0x01 ∷ 0x00 ∷ 0x00 ∷ 0x01 ∷ n ∷ []

-- true: a time is the same as itself
abbrev always : ℕ → List ℕ
always time = 0x05 ∷ time ∷ time ∷ []

-- for all x, i with A(x) at i exists j with B(x) at j: j before i
abbrev b_before_a : List ℕ
b_before_a = every_a (0x0B ∷ 0x01 ∷ 0x03 ∷ 0x05 ∷ 0x00 ∷ 0x00 ∷ 0x02 ∷ 0x03 ∷ 0x02 ∷ 0x01 ∷ [])

-- for all x, i with A(x) at i exists, with no variable of its own, B(x) at i
abbrev b_where_a : List ℕ
b_where_a = every_a (0x0B ∷ 0x00 ∷ 0x05 ∷ 0x00 ∷ 0x00 ∷ 0x01 ∷ always 1)

-- exists i with A of the public name n at i
abbrev some_a_of : ℕ → List ℕ
some_a_of n = 0x0B ∷ 0x01 ∷ 0x03 ∷ 0x04 ∷ 0x01 ∷ n ∷ 0x00 ∷ always 0

-- exists x, y, i with C(x, y) at i, then the body; with C(y, x) at i; exists x, i with C(x, x) at i
abbrev some_c : List ℕ → List ℕ
some_c body = 0x0B ∷ 0x03 ∷ 0x00 ∷ 0x00 ∷ 0x03 ∷ 0x06 ∷ 0x00 ∷ 0x00 ∷ 0x00 ∷ 0x01 ∷ 0x02 ∷ body

abbrev some_c_turned : List ℕ
some_c_turned = some_c (0x07 ∷ 0x06 ∷ 0x00 ∷ 0x01 ∷ 0x00 ∷ 0x00 ∷ 0x02 ∷ [])

abbrev some_c_twice : List ℕ
some_c_twice = 0x0B ∷ 0x02 ∷ 0x00 ∷ 0x03 ∷ 0x06 ∷ 0x00 ∷ 0x00 ∷ 0x00 ∷ 0x00 ∷ 0x01 ∷ always 1

-- ── the rows ──
-- a property, a graph, and what checking answers of them
record Case : Type 0 where
  pub file : List ℕ
  pub over : List ℕ
  pub ruling : Ruling Checked

abbrev case : List ℕ → List ℕ → Ruling Checked → Case
case file over r = record { file = file; over = over; ruling = r }

abbrev says : List ℕ → List (List ℕ) → Ruling Checked → Case
says file xs r = case file (nodes xs) r

abbrev atoms : List Case
atoms =
    -- "0 false"
    says (0x00 ∷ []) (a 0 ∷ b 0 ∷ []) (attack 2 2 0)
    -- "1 equal": x, y
    ∷ says (some_a_b (of_x_y 0x01)) (a 0 ∷ b 0 ∷ []) (run 2 2 0)
    ∷ says (some_a_b (of_x_y 0x01)) (a 0 ∷ b 1 ∷ []) (attack 2 2 0)
    -- by the equations: dec(enc(m, k), k), as it is filled in, and m
    ∷ says (some_a_b (of_x_y 0x01)) (opened 1 ∷ b 0 ∷ []) (run 2 2 0)
    ∷ says (some_a_b (of_x_y 0x01)) (opened 2 ∷ b 0 ∷ []) (attack 2 2 0)
    -- the fresh and the public name of one number
    ∷ case (some_a_b (of_x_y 0x01)) fresh_public (attack 3 2 1)
    -- "2 unequal": x, y
    ∷ says (some_a_b (of_x_y 0x02)) (a 0 ∷ b 1 ∷ []) (run 2 2 0)
    ∷ says (some_a_b (of_x_y 0x02)) (a 0 ∷ b 0 ∷ []) (attack 2 2 0)
    ∷ says (some_a_b (of_x_y 0x02)) (opened 1 ∷ b 0 ∷ []) (attack 2 2 0)
    ∷ case (some_a_b (of_x_y 0x02)) fresh_public (run 3 2 1)
    -- "3 before": i, j; at one time they are not
    ∷ says (some_a_b (of_i_j 0x03)) (a 0 ∷ b 0 ∷ []) (run 2 2 0)
    ∷ says (some_a_b (of_i_j 0x03)) (b 0 ∷ a 0 ∷ []) (attack 2 2 0)
    ∷ says (some_a_b (of_i_j 0x03)) (a_b 0 ∷ []) (attack 1 1 0)
    -- "Times are node numbers, silent nodes counted."
    ∷ says (some_a_b (of_i_j 0x03)) (silent ∷ a 0 ∷ silent ∷ b 0 ∷ []) (run 4 2 0)
    ∷ says (some_a_b (of_i_j 0x03)) (silent ∷ b 0 ∷ silent ∷ a 0 ∷ []) (attack 4 2 0)
    -- "4 not before": i, j
    ∷ says (some_a_b (of_i_j 0x04)) (b 0 ∷ a 0 ∷ []) (run 2 2 0)
    ∷ says (some_a_b (of_i_j 0x04)) (a_b 0 ∷ []) (run 1 1 0)
    ∷ says (some_a_b (of_i_j 0x04)) (a 0 ∷ b 0 ∷ []) (attack 2 2 0)
    -- "5 same time": i, j
    ∷ says (some_a_b (of_i_j 0x05)) (a_b 0 ∷ []) (run 1 1 0)
    ∷ says (some_a_b (of_i_j 0x05)) (a 0 ∷ b 0 ∷ []) (attack 2 2 0)
    ∷ says (some_a_b (of_i_j 0x05)) (b 0 ∷ a 0 ∷ []) (attack 2 2 0)
    -- "6 not same time": i, j
    ∷ says (some_a_b (of_i_j 0x06)) (a 0 ∷ b 0 ∷ []) (run 2 2 0)
    ∷ says (some_a_b (of_i_j 0x06)) (b 0 ∷ a 0 ∷ []) (run 2 2 0)
    ∷ says (some_a_b (of_i_j 0x06)) (a_b 0 ∷ []) (attack 1 1 0)
    -- "7 action": B(x) at i; at another node; of another message
    ∷ says (some_a (b_of_x_at 0x07 0x01)) (a_b 0 ∷ []) (run 1 1 0)
    ∷ says (some_a (b_of_x_at 0x07 0x01)) (a 0 ∷ b 0 ∷ []) (attack 2 2 0)
    ∷ says (some_a_b (b_of_x_at 0x07 0x03)) (a 0 ∷ b 1 ∷ []) (attack 2 2 0)
    -- by the equations
    ∷ says (some_a_b (b_of_x_at 0x07 0x03)) (opened 1 ∷ b 0 ∷ []) (run 2 2 0)
    -- each message at its place: C(y, x) where C(x, y)
    ∷ says some_c_turned (c 0 0 ∷ []) (run 1 1 0)
    ∷ says some_c_turned (c 0 1 ∷ []) (attack 1 1 0)
    -- behind a silent node: A(x) at i
    ∷ says (some_a (0x07 ∷ 0x04 ∷ 0x00 ∷ 0x00 ∷ 0x01 ∷ [])) (silent ∷ a 0 ∷ []) (run 2 1 0)
    -- "8 no action": B(x) at i
    ∷ says (some_a (b_of_x_at 0x08 0x01)) (a 0 ∷ b 0 ∷ []) (run 2 2 0)
    ∷ says (some_a (b_of_x_at 0x08 0x01)) (a_b 0 ∷ []) (attack 1 1 0)
    ∷ []

abbrev connectives : List Case
connectives =
    -- "9 and": x is the public name 0, B(x) at i
    says (some_a (0x09 ∷ (x_is 0 ++ b_of_x_at 0x07 0x01))) (a_b 0 ∷ []) (run 1 1 0)
    ∷ says (some_a (0x09 ∷ (x_is 0 ++ b_of_x_at 0x07 0x01))) (a 0 ∷ []) (attack 1 1 0)
    ∷ says (some_a (0x09 ∷ (x_is 0 ++ b_of_x_at 0x07 0x01))) (a_b 1 ∷ []) (attack 1 1 0)
    -- one of one node, the other of another
    ∷ says (some_a (0x09 ∷ (x_is 0 ++ b_of_x_at 0x07 0x01))) (a 0 ∷ a_b 1 ∷ []) (attack 2 2 0)
    -- "10 or": the same two
    ∷ says (some_a (0x0A ∷ (x_is 0 ++ b_of_x_at 0x07 0x01))) (a 0 ∷ []) (run 1 1 0)
    ∷ says (some_a (0x0A ∷ (x_is 0 ++ b_of_x_at 0x07 0x01))) (a_b 1 ∷ []) (run 1 1 0)
    ∷ says (some_a (0x0A ∷ (x_is 0 ++ b_of_x_at 0x07 0x01))) (a 1 ∷ []) (attack 1 1 0)
    -- for all: one of one node, the other of another
    ∷ says (every_a (0x0A ∷ (x_is 0 ++ x_is 1))) (a 0 ∷ a 1 ∷ []) (run 2 2 0)
    ∷ []

abbrev quantifiers : List Case
quantifiers =
    -- "11 exists", guard and body: x is the public name 0
    says (some_a (x_is 0)) (a 1 ∷ a 0 ∷ []) (run 2 2 0)
    ∷ says (some_a (x_is 0)) (a 1 ∷ []) (attack 1 1 0)
    ∷ says (some_a (x_is 0)) [] (attack 0 0 0)
    ∷ says (some_a (x_is 0)) (b 0 ∷ []) (attack 1 1 0)
    -- "12 for all", no guard, or body
    ∷ says (every_a (x_is 0)) (a 0 ∷ a 0 ∷ []) (run 2 2 0)
    ∷ says (every_a (x_is 0)) (a 1 ∷ a 0 ∷ []) (attack 2 2 0)
    ∷ says (every_a (x_is 0)) [] (run 0 0 0)
    ∷ says (every_a (x_is 0)) (b 1 ∷ []) (run 1 1 0)
    -- one in the other
    ∷ says b_before_a (b 0 ∷ silent ∷ a 0 ∷ []) (run 3 2 0)
    ∷ says b_before_a (a 0 ∷ silent ∷ b 0 ∷ []) (attack 3 2 0)
    ∷ says b_before_a (b 1 ∷ a 0 ∷ []) (attack 2 2 0)
    ∷ says b_before_a (b 0 ∷ a 0 ∷ a 1 ∷ []) (attack 3 3 0)
    -- a guard is compared by the equations
    ∷ says b_before_a (b 0 ∷ opened 1 ∷ []) (run 2 2 0)
    ∷ says (some_a_of 0) (opened 1 ∷ []) (run 1 1 0)
    ∷ says (some_a_of 0) (opened 2 ∷ []) (attack 1 1 0)
    -- by its message: a public name
    ∷ says (some_a_of 0) (a 0 ∷ []) (run 1 1 0)
    ∷ says (some_a_of 0) (a 1 ∷ []) (attack 1 1 0)
    ∷ case (some_a_of 7) fresh_public (attack 3 2 1)
    -- a variable twice in its guard
    ∷ says some_c_twice (c 0 0 ∷ []) (run 1 1 0)
    ∷ says some_c_twice (c 0 1 ∷ []) (attack 1 1 0)
    -- the new variables in their order: x is the public name 0
    ∷ says (some_c (x_is 0)) (c 0 1 ∷ []) (run 1 1 0)
    ∷ says (some_c (x_is 0)) (c 1 0 ∷ []) (attack 1 1 0)
    -- no new variable, and an outer time
    ∷ says b_where_a (a_b 0 ∷ []) (run 1 1 0)
    ∷ says b_where_a (a 0 ∷ b 0 ∷ []) (attack 2 2 0)
    -- "Variables are numbered from the outermost, 0 up": x, and not y, is the public name 0
    ∷ says (some_a_b (x_is 0)) (a 0 ∷ b 1 ∷ []) (run 2 2 0)
    ∷ says (some_a_b (x_is 0)) (a 1 ∷ b 0 ∷ []) (attack 2 2 0)
    -- on both sides of an and from the same number
    ∷ says (0x09 ∷ (some_a (x_is 0) ++ some_a (x_is 1))) (a 0 ∷ a 1 ∷ []) (run 2 2 0)
    ∷ says (0x09 ∷ (some_a (x_is 0) ++ some_a (x_is 1))) (a 0 ∷ []) (attack 1 1 0)
    ∷ []

abbrev cases : List Case
cases = atoms ++ (connectives ++ quantifiers)

abbrev row_of : Case → Row
row_of c = checks recording c.file c.over c.ruling

abbrev pub rows : List Row
rows = map row_of cases

-- ── each row holds ──
-- by computation, with the shortest work area that is long enough
abbrev answer : Case → Ruling Checked
answer c = check_outcome recording c.file c.over work_need

abbrev ruling_of : Case → Ruling Checked
ruling_of c = c.ruling

answered : map answer cases ≡ map ruling_of cases
unfolding protocol rule layout facts fact own rule_term term term_in symbol_at arity tag_arities
    property formula_at scoped_at head_at timed_at action_at fact_at times_at equal_at sort_at term_at
    graph_ruling graph edge_list edge place node_list nodes_from node rule_of numbered fixed
    truth same_fact same_terms same_term apply check_outcome
    many counted below read_number read_in groups groups_in number_limit all_below
answered = refl

one_by_one : {A B : Type 0} (f g : A → B) (xs : List A) → map f xs ≡ map g xs → All (λ x. f x ≡ g x) xs
one_by_one f g [] e = tt
one_by_one f g (x ∷ xs) e =
    let h : f x ≡ g x = cc in
    let t : map f xs ≡ map g xs = cc in
    (h, one_by_one f g xs t)

-- and so with any other
pub rows_hold : All Holds rows
rows_hold = map_all (λ c. answer c ≡ ruling_of c) Holds row_of (λ c e. grown (row_of c) e) cases (one_by_one answer ruling_of cases answered)
