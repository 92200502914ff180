-- The tables that crate trace makes are a trace in numbers of crate judge: node by node, fact by fact and argument by argument the messages of
-- the nodes' actions. So the answer over numbers is the truth.
use Rattle.std.specs.Prelude.{ℕ, suc, ◌+◌, ◌*◌, ◌-◌, ◌≤◌, ◌<◌, List, [], map, Bool, ◌≡◌, length, get_or, take}
use Rattle.std.proofs.Common.{ap, sym, ◌∙◌, subst, arith, get_or-take, length-take-le}
use Rattle.lists.specs.Lists.{row}
use Rattle.lists.specs.Lists.Laws.{row_same, row_map}
use Rattle.lists.specs.Pairs.{pairs_map}
use Rattle.lists.specs.Joined.{before_more}
use Rattle.message.specs.Promise.{Message}
use Rattle.message.proofs.Promise.{messages}
use Rattle.protocol.specs.Protocol.{Protocol, fact_arities}
use Rattle.protocol.specs.Protocol.Limits.{Within}
use Rattle.prepared.specs.Prepared.{arities_of}
use Rattle.steps.specs.Nodes.{Node, no_node}
use Rattle.steps.specs.Causes.Good.{RightNodes}
use Rattle.property.specs.Formula.{Formula}
use Rattle.property.specs.Meaning.{Trace, Fact}
use Rattle.property.specs.Meaning.Alike.{LikeTrace}
use Rattle.property.specs.Judge.{judge}
use Rattle.property.specs.Judge.Numbers.{numbers, Numbering, judge_numbers}
use Rattle.property.specs.Truth.{real_messages, plain_fact, plain_trace, actions_of_nodes}
use Rattle.trace.specs.Tables.{base, ar, actions_of, stride, actions, actions_before, Tables}
use Rattle.trace.specs.Tables.Made.{starts_few}
use Rattle.trace.specs.Tables.Trace.{NumberFact, number_fact, number_node, number_trace, Numbered, numbered_name, numbered_exact, trace_numbered}
use Rattle.judge.specs.Tables.{facts_at, trace_of, Shape}
use Rattle.judge.specs.Judging.{Property}
use Rattle.judge.specs.Owed.{passing_property}
use Rattle.verdict.specs.Judged.{Posed, Tabled}
use Rattle.trace.specs.Truth.{truth}
use Rattle.trace.specs.Truth.Laws.{truth_judged}

-- ── the tables are read in one way ──
abbrev plain : NumberFact → Fact ℕ
plain g = record { symbol = g.symbol; messages = g.numbers }

module _ (ars starts symbols classes : List ℕ) where
  trace_same : (n : ℕ) → length starts ≡ n + 1 → map (map plain) (number_trace ars starts symbols classes n) ≡ trace_of ars symbols classes starts
  trace_same n long =
      let z : n ≡ length starts - 1 = omega (arith, long) in
      row_map (map plain) (number_node ars starts symbols classes) n
      ∙ row_same (λ k. map plain (number_node ars starts symbols classes k)) (facts_at ars symbols classes starts) n
      (λ k l. row_map plain (λ i. number_fact ars starts symbols classes (get_or starts k 0 + i)) (get_or starts (k + 1) 0 - get_or starts k 0))
      ∙ ap (row (facts_at ars symbols classes starts)) z

-- ── of tables with one start more than there are nodes ──
module _ {p s nodes starts symbols classes : List ℕ} {n : ℕ} {P : Protocol} {xs : List Node} (r : RightNodes p s nodes n P xs)
    (t : Tables starts symbols classes P xs) (long : length starts ≡ n + 1) where
  abbrev ars : List ℕ
  ars = fact_arities P.symbols

  abbrev fit : Within P
  fit = r.stand.prepared.body.within

  abbrev count : length xs ≡ n
  count = r.stand.count

  begins : (k : ℕ) → k ≤ length xs → get_or starts k 0 ≡ actions_before P xs k
  begins = t.begun.begins

  -- ── the shape ──
  last_few : get_or starts (length starts - 1) 0 ≤ actions_of n
  last_few =
      let z : length starts - 1 ≡ n = omega arith in
      omega (arith, ap (λ (k : ℕ). get_or starts k 0) z, starts_few r t.begun n (omega arith))

  tables_shape : actions_of n ≤ length symbols → stride * actions_of n ≤ length classes → Shape starts symbols classes
  tables_shape a b = record {
    some = omega (arith, long);
    few = omega (arith, long, r.stand.few);
    first = begins 0 (omega arith);
    ascends = λ i l.
        let m : i < length xs = omega (arith, long, count) in
        let z : i + 1 ≡ suc i = omega arith in
        omega (
          arith,
          begins i (omega arith),
          begins (i + 1) (omega arith),
          ap (actions_before P xs) z,
          before_more (actions P) no_node xs i m,
        );
    known = omega (arith, last_few, a);
    wide = omega (arith, last_few, b);
  }

  -- ── the trace ──
  abbrev Number : Message (ar P) → ℕ → Type 0
  Number = Numbered classes P xs

  abbrev message_nodes : Trace (Message (ar P))
  message_nodes = plain_trace P.functions (actions_of_nodes P fit xs r.stand.within r.right)

  trace_joined : LikeTrace Number message_nodes (trace_of ars symbols classes starts)
  trace_joined =
      subst (LikeTrace Number message_nodes) (trace_same ars starts symbols classes n long)
      (pairs_map (map (plain_fact P.functions)) (map plain)
      (λ fs gs q. pairs_map (plain_fact P.functions) plain (λ f g w. record { symbol = w.symbols; messages = w.messages_like }) q)
      (trace_numbered t r))

  -- the answer over numbers is the truth
  numbering : Numbering (real_messages P.functions) base Number
  numbering = record {
    same = λ p q. let w = numbered_exact t p q in (w.1, w.0);
    named = λ p n. let w = numbered_name t p n in (w.1, w.0);
  }

  truth_numbers : (φ : Formula) → judge (numbers base) (trace_of ars symbols classes starts) [] φ ≡ truth P xs φ
  truth_numbers φ =
      sym (judge_numbers (real_messages P.functions) (messages P.functions).public_apart base Number numbering message_nodes
      (trace_of ars symbols classes starts) trace_joined φ)
      ∙ truth_judged P fit xs r.stand.within r.right φ

-- ── for the code ──
-- the property as the judge asks for it
pub posed_property :
    {p file s nodes : List ℕ} {n : ℕ} {P : Protocol} {xs : List Node} {φ : Formula} → Posed p file s nodes n P xs φ
    → Property file (arities_of p) (fact_arities P.symbols) φ
posed_property {file = file} {φ = φ} q = passing_property q.right.stand.prepared.body file φ q.passing

pub posed_tabled :
    {p file s nodes starts symbols classes : List ℕ} {n : ℕ} {P : Protocol} {xs : List Node} {φ : Formula} → Posed p file s nodes n P xs φ
    → Tables starts symbols classes P xs → n < length starts → actions_of n ≤ length symbols → stride * actions_of n ≤ length classes
    → Tabled p file n starts symbols classes P xs φ
posed_tabled {s = s} {nodes} q t a b c = record { s = s; nodes = nodes; posed = q; tables = t; many = a; known = b; wide = c }

-- the part of the starts that is lent
module _ {p file starts symbols classes : List ℕ} {n : ℕ} {P : Protocol} {xs : List Node} {φ : Formula}
    (d : Tabled p file n starts symbols classes P xs φ) where
  abbrev lent : List ℕ
  lent = take (n + 1) starts

  abbrev right : RightNodes p d.s d.nodes n P xs
  right = d.posed.right

  lent_long : length lent ≡ n + 1
  lent_long = length-take-le (n + 1) starts (omega (arith, d.many))

  lent_tables : Tables lent symbols classes P xs
  lent_tables = record {
    begun = record { begins = λ k l. get_or-take (n + 1) starts k 0 (omega (arith, right.stand.count)) ∙ d.tables.begun.begins k l };
    symbol = d.tables.symbol;
    same = d.tables.same;
    named = d.tables.named;
  }

  pub lent_shape : Shape lent symbols classes
  lent_shape = tables_shape right lent_tables lent_long d.known d.wide

  pub lent_truth : {b : Bool} → b ≡ judge (numbers base) (trace_of (fact_arities P.symbols) symbols classes lent) [] φ → b ≡ truth P xs φ
  lent_truth h = h ∙ truth_numbers right lent_tables lent_long φ
