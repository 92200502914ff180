-- A node's fact is well formed, its symbol has its entries in the prepared protocol, and it can be written with the node's values.
use Rattle.std.specs.Prelude.{ℕ, ◌+◌, ◌<◌, List, Bool, true, false, ◌≡◌, refl, length, get_or, take, drop, eqb}
use Rattle.std.proofs.Common.{ap, sym, ◌∙◌, subst, arith}
use Rattle.std.proofs.lemmas.List.{length-map}
use Rattle.lists.specs.Asks.{Asks₂, Promises₂}
use Rattle.lists.specs.All.Laws.{all_inside, map_at}
use Rattle.lists.specs.Choice.{pick}
use Rattle.octets.specs.Head.{Bytes}
use Rattle.term.specs.Term.{Term}
use Rattle.message.specs.Substitution.{sub}
use Rattle.protocol.specs.Figures.{symbol_count}
use Rattle.protocol.specs.Protocol.{Fact, Own, Protocol, list_of, no_fact, fact_arities, fact_flags, fact}
use Rattle.protocol.specs.Places.{Here}
use Rattle.prepared.specs.Sections.{arities_at, linears_at}
use Rattle.prepared.specs.Prepared.{linear, slots_of, arities_of}
use Rattle.prepared.specs.Prepared.Laws.{part_at, arity_at, linear_at}
use Rattle.steps.specs.Nodes.{Node}
use Rattle.steps.specs.Facts.{value_at, filled_fact, facts_of, is_linear}
use Rattle.steps.specs.Facts.Formed.{FactFormed, facts_formed}
use Rattle.steps.specs.Table.{place_count, places_at}
use Rattle.facts.specs.declared.writing.Wanted.{Wanted}
use Rattle.facts.specs.declared.writing.Wanted.TheVariants as want
use Rattle.facts.specs.declared.nodes.FactId.{FactId}
use Rattle.facts.specs.Rules.{fact_start, fact_filled, fact_here}
use Rattle.facts.specs.Writing.{Has, FactJob, Put, WantedJob, wanted_bytes}
use Rattle.facts.specs.Writing.Nodes.{places_of, node_job}
use Rattle.facts.specs.Calls.{fact_at, Room, ListedFact, FactIn, FactsIn}

pub fact_listed : {p s nodes : List ℕ} {a : FactId} {q : Wanted} {P : Protocol} {x : Node} → FactIn p s nodes a q P x → ListedFact p nodes a s P x
fact_listed f = record { node = f.node; listed = f.listed }

-- facts that can be asked about can be written as they stand
pub plains_in :
    {p s nodes : List ℕ} {a b : FactId} {P : Protocol} {x y : Node} → FactsIn p s nodes a want.All b want.All P x y
    → FactsIn p s nodes a want.Plain b want.Plain P x y
plains_in {p} {s} {nodes} f = record { first = plain f.first; second = plain f.second }
  where
    plain : {a : FactId} {P : Protocol} {x : Node} → FactIn p s nodes a want.All P x → FactIn p s nodes a want.Plain P x
    plain g = record { node = g.node; right = g.right; listed = g.listed; has = tt }

-- ── a fact of a node in the table ──
module _ {p nodes : List ℕ} {a : FactId} {s : List ℕ} {P : Protocol} {x : Node} (f : ListedFact p nodes a s P x) where
  pub listed_formed : FactFormed P (fact_at P a.list a.number x)
  listed_formed =
      all_inside (FactFormed P) no_fact (facts_of P a.list x)
      (facts_formed P f.node.prepared.body.within x f.node.within a.list) a.number f.listed

  -- the entries of its symbol
  module _ (y : ℕ) (is : y ≡ (fact_at P a.list a.number x).symbol) where
    known : y < length (fact_arities P.symbols)
    known = omega (arith, is, listed_formed.known)

    pub symbol_known : y < symbol_count
    symbol_known = omega (arith, known, length-map P.symbols (λ (o : Own). o.arity), f.node.prepared.body.within.few_symbols)

    pub arity_is : get_or (arities_of p) y 0 ≡ length (fact_at P a.list a.number x).terms
    arity_is =
        part_at p arities_at symbol_count y symbol_known ∙ arity_at p P f.node.prepared.body y known
        ∙ ap (λ (k : ℕ). get_or (fact_arities P.symbols) k 0) is ∙ sym listed_formed.takes

    -- 1 for a linear one
    one_linear : (flag : ℕ) → eqb (linear flag) 1 ≡ eqb flag 0
    one_linear flag = go (eqb flag 0)
      where
        go : (b : Bool) → eqb (pick b 1 0) 1 ≡ b
        go true = refl
        go false = refl

    pub linear_is : eqb (get_or p (linears_at + y) 0) 1 ≡ is_linear P (fact_at P a.list a.number x)
    linear_is =
        let flags : List ℕ = fact_flags P.symbols in
        let l : y < length flags =
        omega (arith, known, length-map P.symbols (λ (o : Own). o.arity), length-map P.symbols (λ (o : Own). o.flag)) in
        ap (λ (v : ℕ). eqb v 1) (linear_at p P f.node.prepared.body y known ∙ map_at linear flags y 0 0 l)
        ∙ one_linear (get_or flags y 0) ∙ ap (λ (k : ℕ). eqb (get_or flags k 0) 0) is

-- ── a fact that can be written ──
has_filled : (q : Wanted) (vs : List Term) (f : Fact) → Has q (filled_fact vs f) → Has q f
has_filled want.All vs f h = tt
has_filled (want.One x) vs f h = omega (arith, length-map f.terms (sub (value_at vs)))
has_filled want.Plain vs f h = tt

module _ {p s nodes : List ℕ} {a : FactId} {q : Wanted} {P : Protocol} {x : Node} (f : FactIn p s nodes a q P x) where
  abbrev plain : Fact
  plain = get_or (list_of a.list f.node.within.is) a.number no_fact

  filled : fact_at P a.list a.number x ≡ filled_fact x.values plain
  filled = fact_filled P x f.node.within.is f.node.within.known a.list a.number f.listed

  module _ (bp : Bytes p) (bs : Bytes s) (n : ℕ) (many : n ≡ place_count) (place : ℕ) (is : place ≡ fact_start p nodes a.node a.list a.number) where
    abbrev starts : List ℕ
    starts = take n (drop (places_at a.node) nodes)

    lent : starts ≡ places_of nodes a.node
    lent = ap (λ (k : ℕ). take k (drop (places_at a.node) nodes)) many

    wanted_job : (out : List ℕ) (o : ℕ) → Room out o → WantedJob p s starts place (length out) o q x.values plain
    wanted_job out o room = record {
      job =
          subst (λ (l : List ℕ). FactJob p s l place (length out) o x.values plain) (sym lent)
          (node_job f.node bp bs f.right place a.list a.number (length out) o
          (subst (Here (fact p (slots_of p) (arities_of p)) plain) (sym is) (fact_here f.node a.list a.number f.listed))
          room.enough room.short);
      has = has_filled q x.values plain (subst (Has q) filled f.has);
    }

    pub wanted_ready : (out : List ℕ) (o : ℕ) → Room out o → Asks₂ (WantedJob p s starts place (length out) o q)
    wanted_ready out o room = (x.values, plain, wanted_job out o room)

    pub wanted_done :
        (out out' : List ℕ) (o e : ℕ) → Room out o → Promises₂ (WantedJob p s starts place (length out) o q)
        (λ (vs : List Term) (g : Fact). Put out o out' e (wanted_bytes q (filled_fact vs g)))
        → Put out o out' e (wanted_bytes q (fact_at P a.list a.number x))
    wanted_done out out' o e room done =
        subst (λ (g : Fact). Put out o out' e (wanted_bytes q g)) (sym filled) (done x.values plain (wanted_job out o room))
