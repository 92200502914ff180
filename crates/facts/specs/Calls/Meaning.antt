-- What the answers mean: the arguments of a node's facts are messages, and two are the same just where the equations make them equal.
use Rattle.std.specs.Prelude.{ℕ, List, Bool, ◌≡◌}
use Rattle.std.proofs.Common.{sym, subst}
use Rattle.lists.specs.All.{All}
use Rattle.lists.specs.Reflects.{reflects_exactly}
use Rattle.term.specs.Term.{public, leaf, Formed}
use Rattle.term.specs.Arity.{arity, tag_arities}
use Rattle.message.specs.Promise.{Message, public_name}
use Rattle.message.specs.Substitution.{Ground}
use Rattle.message.proofs.Theorems.{declared}
use Rattle.protocol.specs.Protocol.{Fact, Protocol, no_fact}
use Rattle.protocol.specs.Protocol.Limits.{Within}
use Rattle.steps.specs.Nodes.{Node}
use Rattle.lists.specs.All.Laws.{all_inside}
use Rattle.steps.specs.Facts.{facts_of, same_fact, same_term}
use Rattle.steps.specs.Facts.Formed.{FactFormed, formed_decides, node_ground, facts_ground}
use Rattle.steps.specs.Facts.Laws.{term_decides}
use Rattle.steps.specs.Values.Parts.{no_term}
use Rattle.facts.specs.declared.writing.Wanted.{Wanted}
use Rattle.facts.specs.declared.nodes.FactId.{FactId}
use Rattle.facts.specs.Calls.{fact_at, argument_at, FactIn, WholeFact, OneOf, TellsFacts, TellsTerms}
use Rattle.facts.specs.Calls.Laws.{fact_listed, listed_formed}

-- what the tests of facts and of messages answer, by the equations
pub facts_told :
    (P : Protocol) → Within P → (f g : Fact) → FactFormed P f → FactFormed P g → (r : Bool) → r ≡ same_fact f g → TellsFacts P f g r
facts_told P fit f g a b r h = subst (TellsFacts P f g) (sym h) (reflects_exactly (same_fact f g) (formed_decides P fit f g a b))

terms_told :
    (P : Protocol) (m n : Message (arity (tag_arities P.functions))) (r : Bool) → r ≡ same_term m.term n.term → TellsTerms P m.term n.term r
terms_told P m n r h =
    subst (TellsTerms P m.term n.term) (sym h)
    (reflects_exactly (same_term m.term n.term)
    (term_decides (arity (tag_arities P.functions)) (declared P.functions) m.term n.term m.formed n.formed))

module _ {p s nodes : List ℕ} {P : Protocol} where
  module _ {a : FactId} {q : Wanted} {x : Node} (f : FactIn p s nodes a q P x) where
    pub fact_formed : FactFormed P (fact_at P a.list a.number x)
    fact_formed = listed_formed (fact_listed f)

    pub fact_ground : All Ground (fact_at P a.list a.number x).terms
    fact_ground =
        all_inside (λ (g : Fact). All Ground g.terms) no_fact (facts_of P a.list x)
        (facts_ground P f.node.prepared.body.within x f.node.within (node_ground P x f.node.within f.right) a.list) a.number
        f.listed

  -- an argument is a message
  abbrev pub argument : (a : FactId) (j : ℕ) (x : Node) → OneOf p s nodes a j P x → Message (arity (tag_arities P.functions))
  argument a j x f = record {
    term = argument_at P a.list a.number j x;
    formed = all_inside (Formed (arity (tag_arities P.functions))) no_term (fact_at P a.list a.number x).terms (fact_formed f).each j f.has;
    is_ground = all_inside Ground no_term (fact_at P a.list a.number x).terms (fact_ground f) j f.has;
  }

  -- ── "equal facts count as the same fact" ──
  pub same_fact_means :
      (a b : FactId) (x y : Node) → WholeFact p s nodes a P x → WholeFact p s nodes b P y → (r : Bool)
      → r ≡ same_fact (fact_at P a.list a.number x) (fact_at P b.list b.number y)
      → TellsFacts P (fact_at P a.list a.number x) (fact_at P b.list b.number y) r
  same_fact_means a b x y f g = facts_told P f.node.prepared.body.within _ _ (fact_formed f) (fact_formed g)

  -- ── "Two messages count as equal exactly when the paper's ten equations make them equal", from Change 4 on all twelve ──
  pub same_argument_means :
      (a : FactId) (i : ℕ) (x : Node) → OneOf p s nodes a i P x → (b : FactId) (j : ℕ) (y : Node) → OneOf p s nodes b j P y → (r : Bool)
      → r ≡ same_term (argument_at P a.list a.number i x) (argument_at P b.list b.number j y)
      → TellsTerms P (argument_at P a.list a.number i x) (argument_at P b.list b.number j y) r
  same_argument_means a i x f b j y g = terms_told P (argument a i x f) (argument b j y g)

  pub is_public_means :
      (a : FactId) (i : ℕ) (x : Node) → OneOf p s nodes a i P x → (n : ℕ) (r : Bool)
      → r ≡ same_term (argument_at P a.list a.number i x) (leaf public n)
      → TellsTerms P (argument_at P a.list a.number i x) (leaf public n) r
  is_public_means a i x f n = terms_told P (argument a i x f) (public_name (arity (tag_arities P.functions)) n)
