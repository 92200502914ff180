-- The machine's counts and set by any test that decides whether two well-formed facts are the same by the equations, so that who
-- counts facts may use a test of its own.
use Rattle.std.specs.Prelude.{ℕ, ◌+◌, ◌-◌, List, [], ◌∷◌, Bool, true, false, cond, not, ◌||◌, ◌↔◌, ◌≡◌, refl, ltb, leb}
use Rattle.std.proofs.Common.{ap, ap₂, sym, ◌∙◌}
use Rattle.lists.specs.Lists.{bit, count_by}
use Rattle.lists.specs.All.{All}
use Rattle.lists.specs.Tests.{by_bool, not_true, true_false}
use Rattle.rewriting.specs.Facts.{count}
use Rattle.rewriting.specs.Machine.{State, after, missing}
use Rattle.rewriting.specs.Machine.Laws.{bag_after, set_after}
use Rattle.term.specs.Arity.{arity, tag_arities}
use Rattle.protocol.specs.Figures.{premise_list, conclusion_list}
use Rattle.protocol.specs.Protocol.{Fact, Protocol}
use Rattle.protocol.specs.Protocol.Limits.{Within}
use Rattle.steps.specs.Nodes.{Node, NodeWithin}
use Rattle.steps.specs.Facts.{facts_of, same_fact, SameFact, is_linear}
use Rattle.steps.specs.Facts.Formed.{FactFormed, facts_formed, formed_decides}
use Rattle.steps.specs.Runs.{protocol_facts, rewritten}

abbrev pub Decides : Protocol → (Fact → Fact → Bool) → Type 0
Decides p test =
    (f g : Fact) → FactFormed p f → FactFormed p g → (test f g ≡ true) ↔ SameFact (arity (tag_arities p.functions)) f g

module _ (p : Protocol) (fit : Within p) (test : Fact → Fact → Bool) (decides : Decides p test) where
  test_is : (f g : Fact) → FactFormed p f → FactFormed p g → same_fact f g ≡ test f g
  test_is f g a b =
      by_bool (same_fact f g)
      (λ t. t ∙ sym ((decides f g a b).1 ((formed_decides p fit f g a b).0 t)))
      (λ n. n ∙ sym (not_true (test f g) (λ t. true_false (same_fact f g) ((formed_decides p fit f g a b).1 ((decides f g a b).0 t)) n)))

  -- "equal facts count as the same fact"
  pub count_by_lem : (f : Fact) → FactFormed p f → (fs : List Fact) → All (FactFormed p) fs → count (protocol_facts p) f fs ≡ count_by (test f) fs
  count_by_lem f a [] h = refl
  count_by_lem f a (g ∷ fs) h = ap₂ (λ (b : Bool) (n : ℕ). bit b + n) (test_is f g a h.0) (count_by_lem f a fs h.1)

  -- what a node asks of a state, and what it does to it
  module _ (s : State Fact) (x : Node) (within : NodeWithin p x) (f : Fact) (formed : FactFormed p f) where
    counted : (list : ℕ) → count (protocol_facts p) f (facts_of p list x) ≡ count_by (test f) (facts_of p list x)
    counted list = count_by_lem f formed (facts_of p list x) (facts_formed p fit x within list)

    pub missing_by :
        missing (protocol_facts p) s (facts_of p premise_list x) f
        ≡ cond (is_linear p f) (ltb (s.bag f) (count_by (test f) (facts_of p premise_list x))) (not (s.set f))
    missing_by = ap (λ (n : ℕ). cond (is_linear p f) (ltb (s.bag f) n) (not (s.set f))) (counted premise_list)

    pub bag_by :
        is_linear p f ≡ true
        → (after (protocol_facts p) s (rewritten p x)).bag f
        ≡ s.bag f - count_by (test f) (facts_of p premise_list x) + count_by (test f) (facts_of p conclusion_list x)
    bag_by lin =
        bag_after (protocol_facts p) s (rewritten p x) f lin
        ∙ ap₂ (λ (m n : ℕ). s.bag f - m + n) (counted premise_list) (counted conclusion_list)

    pub set_by :
        is_linear p f ≡ false
        → (after (protocol_facts p) s (rewritten p x)).set f ≡ (s.set f || leb 1 (count_by (test f) (facts_of p conclusion_list x)))
    set_by lin = set_after (protocol_facts p) s (rewritten p x) f lin ∙ ap (λ (n : ℕ). s.set f || leb 1 n) (counted conclusion_list)
