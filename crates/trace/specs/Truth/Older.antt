-- Change 4 leaves document 01's truths as they were: where the actions of the nodes are without the six functions, the answer says whether the
-- property holds over document 01's messages alone, equal by the ten equations.
use Rattle.std.specs.Prelude.{ℕ, true, ◌↔◌, ◌≡◌, refl}
use mathlib.Core.List.{List, [], map}
use Rattle.std.specs.Prelude.{Option}
use Rattle.std.proofs.Math.Path.{sym}
use Rattle.std.proofs.Common.{◌∙◌, ap₂}
use Rattle.lists.specs.All.{All}
use Rattle.lists.specs.All.Laws.{all_map, all_both}
use Rattle.lists.specs.Reflects.{reflects_true, reflects_back, reflects_exactly}
use Rattle.lists.specs.Pairs.{Pairs, nothing, more}
use Rattle.term.specs.Term.{Term, Formed}
use Rattle.term.specs.Arity.{arity, tag_arities}
use Rattle.message.specs.Equations.{reflexive, symmetric, transitive}
use Rattle.message.specs.Equations.Older.{older_arities, OlderSame, now_formed, older_same}
use Rattle.message.specs.Substitution.{Ground}
use Rattle.message.specs.Promise.{Message, public_name}
use Rattle.message.proofs.Theorems.{declared}
use Rattle.protocol.specs.Figures.{action_list}
use Rattle.protocol.specs.Protocol as protocol
use Rattle.protocol.specs.Protocol.{Protocol}
use Rattle.protocol.specs.Protocol.Limits.{Within}
use Rattle.steps.specs.Nodes.{Node, NodeWithin}
use Rattle.steps.specs.Values.{NodeRight}
use Rattle.steps.specs.Facts.{facts_of, same_term}
use Rattle.steps.specs.Facts.Laws.{term_decides}
use Rattle.steps.specs.Facts.Formed.{node_ground, facts_ground}
use Rattle.steps.specs.Facts.Messages.{each, IsMessage, message}
use Rattle.steps.specs.Runs.Older.{OlderRule, OlderNode, OlderTerms, facts_older}
use Rattle.property.specs.Formula.{Formula}
use Rattle.property.specs.Fit.{IsFit}
use Rattle.property.specs.Fit.Laws.{fit_decides}
use Rattle.property.specs.Meaning.{Messages, Fact, Trace, Holds}
use Rattle.property.specs.Meaning.Alike.{LikeFact, LikeTrace}
use Rattle.property.specs.Times.{integers}
use Rattle.property.specs.Judge.Decides.{judge_decides}
use Rattle.property.specs.Judge.Natural.{Natural, judge_like}
use Rattle.trace.specs.Terms.{terms}
use Rattle.trace.specs.Truth.{term_fact, term_trace, truth}
use Rattle.trace.specs.Truth.Laws.{pairs_each}

module _ (free : List ℕ) where
  abbrev older : ℕ → Option ℕ
  older = arity (older_arities free)

  -- of two of document 01's messages the test decides whether the ten equations make them equal
  pub test_older : (m n : Message older) → (same_term m.term n.term ≡ true) ↔ OlderSame free m.term n.term
  test_older m n =
      let now = term_decides (arity (tag_arities free)) (declared free) m.term n.term (now_formed free m.term m.formed)
      (now_formed free n.term n.formed) in
      let then = older_same free m.term n.term m.formed n.formed in
      ((λ h. then.0 (now.0 h)), (λ h. now.1 (then.1 h)))

  -- "all messages", as document 01 has them
  abbrev pub older_messages : Messages
  older_messages = record {
    Msg = Message older;
    Same = λ m n. OlderSame free m.term n.term;
    name = public_name older;
    same = λ m n. same_term m.term n.term;
    decides = λ m n. reflects_exactly (same_term m.term n.term) (test_older m n);
    itself = λ m. reflexive m.formed;
    turned = λ d. symmetric d;
    joined = λ d e. transitive d e;
  }

  -- the message's term is this one
  abbrev pub IsTerm : Message older → Term → Type 0
  IsTerm m t = m.term ≡ t

  tests_agree : Natural older_messages terms IsTerm
  tests_agree = record {
    tests = λ {a} {b} {c} {d} p q. ap₂ same_term p q;
    names = λ n. refl;
  }

-- ── the truth over them ──
module _ (p : Protocol) (xs : List Node) where
  -- their actions as document 01's messages
  abbrev pub OlderTrace : Trace (Message (arity (older_arities p.functions))) → Type 0
  OlderTrace tr = LikeTrace (IsTerm p.functions) tr (term_trace p xs)

  pub truth_older :
      (tr : Trace (Message (arity (older_arities p.functions)))) → OlderTrace tr → (φ : Formula) → IsFit [] φ
      → (truth p xs φ ≡ true) ↔ Holds (older_messages p.functions) integers tr [] φ
  unfolding truth
  truth_older tr like φ fits =
      let decided = judge_decides (older_messages p.functions) tr φ (reflects_back (fit_decides [] φ) fits) integers in
      let same = judge_like (tests_agree p.functions) like φ nothing in
      ((λ h. reflects_true decided (same ∙ h)), (λ h. sym same ∙ reflects_back decided h))

-- ── nodes without the six functions have such a trace ──
module _ (p : Protocol) (fit : Within p) (rules-older : All (OlderRule p) p.rules) where
  abbrev ar : ℕ → Option ℕ
  ar = arity (older_arities p.functions)

  abbrev IsFact : protocol.Fact → Type 0
  IsFact f = All (IsMessage ar) f.terms

  abbrev older_fact : (f : protocol.Fact) → IsFact f → Fact (Message ar)
  older_fact f h = record { symbol = f.symbol; messages = each (IsMessage ar) (message ar) f.terms h }

  abbrev IsOlder : Node → Type 0
  IsOlder x = NodeWithin p x × NodeRight p x × OlderNode p x

  pub actions_older : (x : Node) → IsOlder x → All IsFact (facts_of p action_list x)
  actions_older x (within, right, o) =
      all_map (λ f. OlderTerms p f × All Ground f.terms) IsFact (λ f h. all_both (Formed ar) Ground f.terms h.0 h.1) (facts_of p action_list x)
      (all_both (OlderTerms p) (λ f. All Ground f.terms) (facts_of p action_list x) (facts_older p rules-older x within o action_list)
      (facts_ground p fit x within (node_ground p x within right) action_list))

  abbrev pub older_trace : (xs : List Node) → All IsOlder xs → Trace (Message ar)
  older_trace xs h = each IsOlder (λ x o. each IsFact older_fact (facts_of p action_list x) (actions_older x o)) xs h

  pub trace_older : (xs : List Node) (h : All IsOlder xs) → OlderTrace p xs (older_trace xs h)
  trace_older xs h =
      mapped (λ x. map term_fact (facts_of p action_list x))
      (pairs_each IsOlder (λ x o. each IsFact older_fact (facts_of p action_list x) (actions_older x o))
      (λ fs x. Pairs (LikeFact (IsTerm p.functions)) fs (map term_fact (facts_of p action_list x))) (λ x o. mapped term_fact
      (pairs_each IsFact older_fact (λ f g. LikeFact (IsTerm p.functions) f (term_fact g))
      (λ f q. record { symbol = refl; messages = pairs_each (IsMessage ar) (message ar) (IsTerm p.functions) (λ t d. refl) f.terms q })
      (facts_of p action_list x) (actions_older x o))) xs h)
    where
      mapped : {A B C : Type 0} {R : A → B → Type 0} (g : C → B) {l : List A} {m : List C} → Pairs (λ a c. R a (g c)) l m → Pairs R l (map g m)
      mapped g nothing = nothing
      mapped g (more r q) = more r (mapped g q)
