-- Small cases, computed: facts are numbers, those below 100 linear. A checked graph hands on how many edges it has.
use Rattle.std.specs.Prelude.{◌≡◌, refl, Bool, List, [], ◌∷◌, ◌++◌, ℕ, ◌<◌, eqb, ltb, length}
use Rattle.std.proofs.Common.{ap, sym, ◌∙◌, arith}
use Rattle.std.proofs.Common.{Some, None}
use Rattle.lists.specs.Tests.{eqb_eq, eqb_self}
use Rattle.rewriting.specs.Facts.{Facts, Tested}
use Rattle.rewriting.specs.Graph.{Node, Edge, Accepted}
use Rattle.rewriting.specs.Machine.{failed, run, IsRun}
use Rattle.rewriting.specs.Table.{Ruling, passed, refused, fixed_row, Ruled, ruling_then, ruling_of, and_then, rows_after}
use Rattle.rewriting.specs.Table.Laws.{ruled, ruled_then, ruled_and_then}
use Rattle.rewriting.specs.Table.Passes.{less_pass, need_pass}
use Rattle.rewriting.specs.Causes.{graph_rows}
use Rattle.rewriting.specs.Writer.{draw}
use Rattle.rewriting.specs.Checker.{check_graph}
use Rattle.rewriting.proofs.Acceptance.{check_table, check_accepted}
use Rattle.rewriting.specs.Earliest.{Earliest}
use Rattle.rewriting.proofs.Earliest.Laws.{earliest_unique}
use Rattle.rewriting.proofs.Draws.{draws_earliest}
use Rattle.rewriting.proofs.Whole.{machine_rows, draw_table}

abbrev Numbers : Facts
Numbers = record {
  Fact = ℕ;
  same = λ f g. eqb f g;
  linear = λ f. ltb f 100;
  same_refl = λ f. eqb_self f;
  same_sym = λ f g h. ap (λ n. eqb g n) (eqb_eq f g h) ∙ eqb_self g;
  same_trans = λ f g h a b. ap (λ n. eqb f n) (sym (eqb_eq g h b)) ∙ a;
  same_linear = λ f g h. ap (λ n. ltb n 100) (eqb_eq f g h);
}

abbrev is_linear : ℕ → Bool
is_linear f = ltb f 100

abbrev node : List ℕ → List ℕ → Node ℕ
node ps cs = record { premises = ps; conclusions = cs; makes = None }

abbrev name : ℕ → Node ℕ
name m = record { premises = []; conclusions = []; makes = Some m }

abbrev edge : ℕ → ℕ → ℕ → ℕ → Edge
edge a b c d = record { source = record { node = a; index = b }; target = record { node = c; index = d } }

abbrev check : List (Node ℕ) → List Edge → Ruling ℕ
check nodes edges = check_graph Numbers nodes edges (length edges)

-- A persistent fact used twice, in one node and in a later one.
abbrev persistent : List (Node ℕ)
persistent = node [] (200 ∷ []) ∷ node (200 ∷ 200 ∷ []) [] ∷ node (200 ∷ []) [] ∷ []

persistent_run : IsRun Numbers persistent
persistent_run = (_, refl)

persistent_draw : draw Numbers persistent ≡ passed (edge 1 1 2 1 ∷ edge 1 1 2 2 ∷ edge 1 1 3 1 ∷ [])
persistent_draw = refl

persistent_check : check persistent (edge 1 1 3 1 ∷ edge 1 1 2 2 ∷ edge 1 1 2 1 ∷ []) ≡ passed 3
persistent_check = refl

-- A linear one used twice.
abbrev linear : List (Node ℕ)
linear = node [] (5 ∷ []) ∷ node (5 ∷ []) [] ∷ node (5 ∷ []) [] ∷ []

linear_run : run Numbers linear ≡ failed 3
linear_run = refl

linear_draw : draw Numbers linear ≡ refused 14 3
linear_draw = refl

linear_check : check linear (edge 1 1 2 1 ∷ edge 1 1 3 1 ∷ []) ≡ refused 13 1
linear_check = refl

-- Two equal linear premises take two conclusions ...
abbrev twins : List (Node ℕ)
twins = node [] (5 ∷ []) ∷ node [] (5 ∷ 200 ∷ []) ∷ node (5 ∷ 200 ∷ 5 ∷ 200 ∷ []) [] ∷ []

twins_run : IsRun Numbers twins
twins_run = (_, refl)

twins_draw : draw Numbers twins ≡ passed (edge 1 1 3 1 ∷ edge 2 2 3 2 ∷ edge 2 1 3 3 ∷ edge 2 2 3 4 ∷ [])
twins_draw = refl

twins_check : check twins (edge 2 2 3 4 ∷ edge 1 1 3 1 ∷ edge 2 2 3 2 ∷ edge 2 1 3 3 ∷ []) ≡ passed 4
twins_check = refl

-- ... and one is not enough.
abbrev lone : List (Node ℕ)
lone = node [] (5 ∷ []) ∷ node (5 ∷ 5 ∷ []) [] ∷ []

lone_run : run Numbers lone ≡ failed 2
lone_run = refl

lone_draw : draw Numbers lone ≡ refused 14 2
lone_draw = refl

lone_check : check lone (edge 1 1 2 1 ∷ edge 1 1 2 2 ∷ []) ≡ refused 13 1
lone_check = refl

-- An edge listed twice, an edge left out, and facts that differ.
listed_twice : check twins (edge 1 1 3 1 ∷ edge 2 2 3 2 ∷ edge 2 1 3 3 ∷ edge 2 2 3 4 ∷ edge 2 2 3 4 ∷ []) ≡ refused 12 3
listed_twice = refl

left_out : check twins (edge 1 1 3 1 ∷ edge 2 2 3 2 ∷ edge 2 1 3 3 ∷ []) ≡ refused 12 3
left_out = refl

facts_differ : check twins (edge 1 1 3 1 ∷ edge 2 1 3 2 ∷ []) ≡ refused 11 2
facts_differ = refl

-- A node that wants its own conclusion.
abbrev own : List (Node ℕ)
own = node (5 ∷ []) (5 ∷ []) ∷ []

own_run : run Numbers own ≡ failed 1
own_run = refl

own_draw : draw Numbers own ≡ refused 14 1
own_draw = refl

own_check : check own (edge 1 1 1 1 ∷ []) ≡ refused 10 1
own_check = refl

-- A name made twice.
names_run : run Numbers (name 1 ∷ name 2 ∷ name 1 ∷ []) ≡ failed 3
names_run = refl

names_draw : draw Numbers (name 1 ∷ name 2 ∷ name 1 ∷ []) ≡ refused 9 3
names_draw = refl

-- A name made twice behind a node that fails: the machine ends there, and 9 passes over the whole list before 14.
abbrev behind : List (Node ℕ)
behind = name 1 ∷ node (5 ∷ []) [] ∷ name 1 ∷ []

behind_run : run Numbers behind ≡ failed 2
behind_run = refl

behind_draw : draw Numbers behind ≡ refused 9 3
behind_draw = refl

behind_check : check behind [] ≡ refused 9 3
behind_check = refl

-- No nodes, and an edge without any.
no_nodes_run : IsRun Numbers []
no_nodes_run = (_, refl)

no_nodes_draw : draw Numbers [] ≡ passed []
no_nodes_draw = refl

no_nodes_check : check [] [] ≡ passed 0
no_nodes_check = refl

no_nodes_edge : check [] (edge 1 1 2 1 ∷ []) ≡ refused 10 1
no_nodes_edge = refl

-- Other rows in front of a graph's: the answer is ruled by all of them, and a graph that passes is accepted.
in_front : (F : Facts) (nodes : List (Node F.Fact)) (edges : List Edge) (work n : ℕ) →
    Ruled (fixed_row 1 0 (work < 65536) ∷ graph_rows (Tested F) F.linear nodes edges) (λ (m : ℕ). (m ≡ n) × Accepted (Tested F) F.linear nodes edges)
    (ruling_then (less_pass 1 0 work 65536 ∷ []) (check_graph F nodes edges n))
in_front F nodes edges work n =
    ruled_then (λ (m : ℕ). (m ≡ n) × Accepted (Tested F) F.linear nodes edges) (less_pass 1 0 work 65536 ∷ [])
    (graph_rows (Tested F) F.linear nodes edges) (check_graph F nodes edges n)
    (λ h. check_table F nodes edges n (λ (m : ℕ). (m ≡ n) × Accepted (Tested F) F.linear nodes edges) (λ acc. (refl, acc)))

-- "Drawing: .. 9, 14, 15" and the length written, for any length of a list of edges.
module _ (F : Facts) (nodes : List (Node F.Fact)) (size : List Edge → ℕ) (room : ℕ) where
  abbrev written : Ruling ℕ
  written = and_then (draw F nodes) (λ es. ruling_of (need_pass 15 room (size es) ∷ []) (size es))

  written_ruled : Ruled (machine_rows F nodes ++ rows_after (draw F nodes) (λ es. fixed_row 15 (size es) (room < size es) ∷ []))
      (λ n. (es : List Edge) × Earliest (Tested F) F.linear nodes es × (n ≡ size es)) written
  written_ruled =
      ruled_and_then (Earliest (Tested F) F.linear nodes) (λ n. (es : List Edge) × Earliest (Tested F) F.linear nodes es × (n ≡ size es))
      (machine_rows F nodes) (draw F nodes) (λ es. fixed_row 15 (size es) (room < size es) ∷ [])
      (λ es. ruling_of (need_pass 15 room (size es) ∷ []) (size es)) (draw_table F nodes)
      (λ es g e. ruled (λ n. (fs : List Edge) × Earliest (Tested F) F.linear nodes fs × (n ≡ size fs)) (need_pass 15 room (size es) ∷ []) (size es)
      (λ h. (es, g, refl)))

short : written Numbers twins (λ es. length es) 3 ≡ refused 15 4
short = refl

long_enough : written Numbers twins (λ es. length es) 4 ≡ passed 4
long_enough = refl

no_run_first : written Numbers lone (λ es. length es) 0 ≡ refused 14 2
no_run_first = refl

-- ── the earliest source ──
-- Two equal linear premises take the two lowest conclusions, which stand at one node.
abbrev pair : List (Node ℕ)
pair = node [] (5 ∷ 5 ∷ []) ∷ node (5 ∷ 5 ∷ []) [] ∷ []

pair_earliest : Earliest (Tested Numbers) is_linear pair (edge 1 1 2 1 ∷ edge 1 2 2 2 ∷ [])
pair_earliest = ((draws_earliest Numbers pair (edge 1 1 2 1 ∷ edge 1 2 2 2 ∷ [])).0 refl).1

-- Crossed, they are accepted too, and they are not what the writer draws; nor are they in another order.
pair_crossed : Accepted (Tested Numbers) is_linear pair (edge 1 2 2 1 ∷ edge 1 1 2 2 ∷ [])
pair_crossed = (check_accepted Numbers pair (edge 1 2 2 1 ∷ edge 1 1 2 2 ∷ []) (tt {0})).0 refl

pair_turned : Accepted (Tested Numbers) is_linear pair (edge 1 2 2 2 ∷ edge 1 1 2 1 ∷ [])
pair_turned = (check_accepted Numbers pair (edge 1 2 2 2 ∷ edge 1 1 2 1 ∷ []) (tt {0})).0 refl

not_earliest : (nodes : List (Node ℕ)) (d e : Edge) (ds es : List Edge) → draw Numbers nodes ≡ passed (d ∷ ds) → (d.source.index ≡ e.source.index → ⊥)
    → Earliest (Tested Numbers) is_linear nodes (e ∷ es) → ⊥
not_earliest nodes d e ds es h n g =
    let i = earliest_unique (Tested Numbers) is_linear nodes (d ∷ ds) (e ∷ es) ((draws_earliest Numbers nodes (d ∷ ds)).0 h).1 g in
    let j : d ≡ e = cc in
    n (ap (λ (c : Edge). c.source.index) j)

pair_crossed_not : Earliest (Tested Numbers) is_linear pair (edge 1 2 2 1 ∷ edge 1 1 2 2 ∷ []) → ⊥
pair_crossed_not = not_earliest pair (edge 1 1 2 1) (edge 1 2 2 1) (edge 1 2 2 2 ∷ []) (edge 1 1 2 2 ∷ []) refl (λ e. omega arith)

pair_turned_not : Earliest (Tested Numbers) is_linear pair (edge 1 2 2 2 ∷ edge 1 1 2 1 ∷ []) → ⊥
pair_turned_not = not_earliest pair (edge 1 1 2 1) (edge 1 2 2 2) (edge 1 2 2 2 ∷ []) (edge 1 1 2 1 ∷ []) refl (λ e. omega arith)

-- The lowest node, and then the lowest conclusion: conclusion 2 of node 1 before conclusion 1 of node 2.
lower_node : draw Numbers (node [] (4 ∷ 5 ∷ []) ∷ node [] (5 ∷ []) ∷ node (5 ∷ []) [] ∷ []) ≡ passed (edge 1 2 3 1 ∷ [])
lower_node = refl

-- A linear conclusion that an earlier premise uses is passed over; a persistent one serves again.
passed_over : draw Numbers (node [] (5 ∷ []) ∷ node (5 ∷ []) (5 ∷ []) ∷ node (5 ∷ []) [] ∷ []) ≡ passed (edge 1 1 2 1 ∷ edge 2 1 3 1 ∷ [])
passed_over = refl
