-- The symbols of the actions, which take the places of their entries one by one.
use Rattle.std.specs.Prelude.{ℕ, ◌+◌, ◌≤◌, ◌<◌, List, ◌++◌, ◌≡◌, refl, length, get_or, set}
use Rattle.std.proofs.Common.{ap, sym, ◌∙◌, arith, get_or-set_same, get_or-set_other}
use Rattle.std.proofs.lemmas.List.{get_or_append_left}
use Rattle.lists.specs.Asks.{Promises₃}
use Rattle.lists.specs.Choice.{by_order}
use Rattle.protocol.specs.Protocol.{Fact, Protocol, no_fact}
use Rattle.steps.specs.Nodes.{Node, no_node}
use Rattle.facts.specs.declared.nodes.FactId.{FactId}
use Rattle.facts.specs.Calls.{fact_at, ListedFact}
use Rattle.facts.specs.Calls.Laws.{fact_listed}
use Rattle.trace.specs.Tables.{actions_in}
use Rattle.trace.specs.Entries.{action_id, ListedAll, SymbolsTo}
use Rattle.trace.specs.Numbers.{ActionOf}
use Rattle.trace.specs.Numbers.Places.{listed_action}

-- from e on the entries are as they were
pub record KeptFrom (entries symbols : List ℕ) (e : ℕ) : Type 0 where
  pub each : (i : ℕ) → e ≤ i → get_or symbols i 0 ≡ get_or entries i 0

module _ {symbols : List ℕ} where
  pub kept_all : KeptFrom symbols symbols 0
  kept_all = record { each = λ i l. refl }

  pub kept_more : {entries : List ℕ} (e y : ℕ) → KeptFrom entries symbols e → KeptFrom entries (set symbols e y) (e + 1)
  kept_more e y k = record { each = λ i l. get_or-set_other symbols e i y 0 (λ z. omega arith) ∙ k.each i (omega arith) }

  module _ {P : Protocol} {xs : List Node} where
    pub symbols_none : SymbolsTo symbols 0 P xs
    symbols_none = record { each = λ e l. absurd (omega arith) }

    pub symbols_more :
        (m y : ℕ) → SymbolsTo symbols m P xs → m < length symbols → y ≡ (get_or (actions_in P xs) m no_fact).symbol → SymbolsTo (set symbols m y) (m + 1) P xs
    symbols_more m y t room h = record {
      each = λ e l.
          by_order e m
          (λ c. get_or-set_other symbols m e y 0 (λ z. omega arith) ∙ t.each e c)
          (λ c. ap (λ (i : ℕ). get_or (set symbols m y) i 0) c ∙ get_or-set_same symbols m y 0 room ∙ h
          ∙ sym (ap (λ (i : ℕ). (get_or (actions_in P xs) i no_fact).symbol) c))
          (λ c. absurd (omega arith));
    }

-- before others that follow
pub symbols_before :
    {symbols : List ℕ} (others : List ℕ) {m : ℕ} {P : Protocol} {xs : List Node} → SymbolsTo symbols m P xs → m ≤ length symbols
    → SymbolsTo (symbols ++ others) m P xs
symbols_before {symbols} others t room =
    record { each = λ e l. get_or_append_left symbols others 0 e (omega (arith, l, room)) ∙ t.each e l }

-- ── the action of an entry that is still there ──
module _ {p s nodes entries symbols : List ℕ} {total e : ℕ} {P : Protocol} {xs : List Node} (l : ListedAll p s nodes entries total P xs) (less : e < total)
    (kept : KeptFrom entries symbols e) (a : FactId) (is : a ≡ action_id (get_or symbols e 0)) where
  action : ActionOf p s nodes a e P xs
  action = listed_action l.listed e (omega (arith, l.count)) a (is ∙ ap action_id (kept.each e (omega arith)))

  pub kept_listed : ListedFact p nodes a s P (get_or xs a.node no_node)
  kept_listed = fact_listed action.whole

  pub kept_symbol :
      (y : ℕ) → Promises₃ (ListedFact p nodes a) (λ (t : List ℕ) (Q : Protocol) (x : Node). y ≡ (fact_at Q a.list a.number x).symbol)
      → y ≡ (get_or (actions_in P xs) e no_fact).symbol
  kept_symbol y h = h s P (get_or xs a.node no_node) kept_listed ∙ ap (λ (f : Fact). f.symbol) action.is
