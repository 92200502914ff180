-- What the verdict's code asks and promises.
use Rattle.std.specs.Prelude.{ℕ, ◌+◌, ◌*◌, ◌≤◌, ◌<◌, List, ◌≡◌, length}
use Rattle.std.proofs.Common.{sym, subst}
use Rattle.lists.specs.Lists.{count_by}
use Rattle.lists.specs.Reflects.{Reflects}
use Rattle.protocol.specs.Protocol.{Protocol, fact_arities}
use Rattle.steps.specs.Nodes.{Node, most_nodes}
use Rattle.steps.specs.Causes.Good.{RightNodes}
use Rattle.property.specs.Formula.{Formula}
use Rattle.property.specs.Layout.{property}
use Rattle.property.specs.Causes.{property_ruling}
use Rattle.rewriting.specs.Answers.{answered}
use Rattle.rewriting.specs.declared.Refusal.{Refusal}
use Rattle.property.specs.Causes.Code.{plainly, good_passing}
use Rattle.property.specs.Causes.Laws.{Passing}
use Rattle.std.specs.Prelude.{Result, Ok}
use Rattle.property.specs.Truth.{Truth, actions_of_nodes}
use Rattle.trace.specs.Tables.{actions_of, most_actions, stride, place_count, Tables}
use Rattle.trace.specs.Active.{is_active}
use Rattle.verdict.specs.declared.Verdict.{Verdict}
use Rattle.trace.specs.Truth.{truth}
use Rattle.trace.specs.Truth.Laws.{truth_holds}
-- the tables of crate trace are those of crate judge
pub mod Joined

-- a property of right nodes: the nodes, and a file that is read as a formula, and that one is fit
pub record Posed (p file s nodes : List ℕ) (n : ℕ) (P : Protocol) (xs : List Node) (φ : Formula) : Type 0 where
  pub right : RightNodes p s nodes n P xs
  pub passing : Passing (property file (fact_arities P.symbols)) φ

-- and tables of their trace, each long enough for n nodes; nodes of any file
pub record Tabled (p file : List ℕ) (n : ℕ) (starts symbols classes : List ℕ) (P : Protocol) (xs : List Node) (φ : Formula) : Type 0 where
  pub s : List ℕ
  pub nodes : List ℕ
  pub posed : Posed p file s nodes n P xs φ
  pub tables : Tables starts symbols classes P xs
  pub many : n < length starts
  pub known : actions_of n ≤ length symbols
  pub wide : stride * actions_of n ≤ length classes

-- lengths of tables that are enough for n nodes, and no more than what is enough for all
pub record Long (starts symbols classes n : ℕ) : Type 0 where
  pub many : n < starts
  pub known : actions_of n ≤ symbols
  pub wide : stride * actions_of n ≤ classes
  pub starts_few : starts ≤ most_nodes + 1
  pub symbols_few : symbols ≤ most_actions
  pub classes_few : classes ≤ place_count

-- the truth of the property over their trace, and the number of nodes with an action
pub record Judged (r : Verdict) (P : Protocol) (xs : List Node) (φ : Formula) : Type 0 where
  pub truth_is : r.truth ≡ truth P xs φ
  pub active_is : r.active ≡ count_by (is_active P) xs

-- so it says whether the property holds of the trace, over all messages and whole numbers
pub judged_holds :
    {p file s nodes : List ℕ} {n : ℕ} {r : Verdict} {P : Protocol} {xs : List Node} {φ : Formula} (q : Posed p file s nodes n P xs φ) → Judged r P xs φ
    → Reflects
    (Truth P.functions (actions_of_nodes P q.right.stand.prepared.body.within xs q.right.stand.within q.right.right) φ) r.truth
judged_holds {P = P} {xs} {φ} q j =
    subst (Reflects _) (sym j.truth_is)
    (truth_holds P q.right.stand.prepared.body.within xs q.right.stand.within q.right.right φ q.passing.fits)

-- ── for callers ──
-- a property that is ruled good
pub good_posed :
    {p file s nodes : List ℕ} {n : ℕ} {P : Protocol} {xs : List Node} → RightNodes p s nodes n P xs → (o : Result (Unit {0}) Refusal)
    → answered o ≡ plainly (property_ruling (property file (fact_arities P.symbols))) → o ≡ Ok tt
    → (φ : Formula) × Posed p file s nodes n P xs φ
good_posed {file = file} {P = P} r o h g =
    let (φ, q) = good_passing (property file (fact_arities P.symbols)) o h g in (φ, record { right = r; passing = q })
