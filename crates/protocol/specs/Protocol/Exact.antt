-- A protocol file is read exactly: what is within the limits reads back from its bytes, and what reads is within them and stands there.
use Prim.Native.Nat.{ℕ, ◌+◌, ◌≤◌, ◌<◌}
use mathlib.Core.List.{List, [], ◌++◌, append-nil}
use Rattle.std.specs.Prelude.{Bool, true, ◌↔◌, ◌≡◌, refl}
use Rattle.std.proofs.Math.Path.{ap, sym, subst}
use Rattle.std.proofs.Common.{◌∙◌, arith}
use Rattle.std.proofs.Math.ListN.{length, get_or, drop, length-append, drop_of_length-le}
use Rattle.std.proofs.lemmas.List.{length-map}
use Rattle.std.proofs.Math.Dec.{ltb}
use borrow.Author.Tests.{ltb-true, lt-ltb, eq-eqb}
use Rattle.term.specs.Tags.{most_functions}
use Rattle.protocol.specs.Figures.{most_own, flag_count, most_rules, most_variables, sort_count, list_count, arity_limit, fact_limit}
use Rattle.lists.specs.Choice.{pick, cut_eq, clash}
use Rattle.octets.specs.Head.{Bytes, stands_join, stands_within, behind}
use Rattle.number.specs.Groups.{groups, number_limit}
use Rattle.number.specs.Groups.Laws.{groups_some}
use Rattle.number.specs.Reading.{Read, got, below, many, counted}
use Rattle.number.specs.Reading.Laws.{cut_got, then_got}
use Rattle.number.specs.Layout.{flat, listed, Exact}
use Rattle.lists.specs.All.{All}
use Rattle.number.specs.Layout.Laws.{exact_as, below_exact, test_exact, many_exact, counted_exact, then_exact}
use Rattle.term.specs.Term.{encode, symbols}
use Rattle.term.specs.Arity.{tag_arities}
use Rattle.term.specs.Reader.{term}
use Rattle.term.specs.Reader.Exact.{Good, term_exact}
use Rattle.protocol.specs.Protocol.{Rule, Own, Protocol, fact_of, rule_of_lem, own_of, protocol_of, fact_arities, declared, encode_fact}
use Rattle.protocol.specs.Protocol.{encode_rule, encode_own, encode_protocol, rule_term, fact, facts, layout, rule, own, protocol}
use Rattle.protocol.specs.Protocol.Limits.{RuleWithin, OwnWithin, Within}
use Rattle.protocol.specs.Protocol.Limits.Parts.{TermWithin, FactWithin, FactsWithin, LayoutWithin}

pick_true : {A : Type 0} {b : Bool} (x y : A) → b ≡ true → pick b x y ≡ x
pick_true x y h = ap (λ (t : Bool). pick t x y) h

small_limit : 256 < number_limit
unfolding number_limit
small_limit = omega arith

module _ (file : List ℕ) (bytes : Bytes file) where
  -- a number below a small bound
  small_exact : (n : ℕ) → n ≤ 256 → Exact file (below file n) (λ v. v < n) groups
  small_exact n h =
      exact_as file (below file n) _ (λ v. v < n) groups (below_exact file bytes n)
      (λ v l. (l, omega (arith, small_limit))) (λ v g. g.0)

  -- a count and that many
  list_exact :
      {A : Type 0} (p : ℕ → Read A) (Fine : A → Type 0) (code : A → List ℕ) → Exact file p Fine code → (limit : ℕ) → limit ≤ 256
      → Exact file (counted file limit p) (λ xs. (length xs ≤ limit) × All Fine xs) (listed code)
  list_exact p Fine code exact limit h = counted_exact file p Fine code exact bytes limit (omega (arith, small_limit))

  module _ (arities : List ℕ) where
    pub rule_term_exact : Exact file (rule_term file arities) (TermWithin arities) encode
    unfolding rule_term
    rule_term_exact =
        exact_as file (rule_term file arities) _ (TermWithin arities) encode
        (test_exact file (term file arities) (Good arities) encode (term_exact file arities bytes) (λ t. ltb (symbols t) 65))
        (λ t w. ((w.formed, w.range), lt-ltb (symbols t) 65 (omega (arith, w.short))))
        (λ t g. record { formed = g.0.0; range = g.0.1; short = omega (arith, ltb-true (symbols t) 65 g.1) })

    module _ (ars : List ℕ) (few : length ars ≤ 256) where
      pub fact_exact : Exact file (fact file arities ars) (FactWithin arities ars) encode_fact
      unfolding fact
      fact_exact =
          exact_as file (fact file arities ars) _ (FactWithin arities ars) encode_fact
          (then_exact file (below file (length ars)) (λ y. y < length ars) groups (small_exact (length ars) few)
          (λ y. many (rule_term file arities) (get_or ars y 0)) (λ y ts. (length ts ≡ get_or ars y 0) × All (TermWithin arities) ts) (flat encode)
          (λ y g. many_exact file (rule_term file arities) (TermWithin arities) encode rule_term_exact (get_or ars y 0))
          fact_of (λ f. f.symbol) (λ f. f.terms) (λ f. refl) (λ y ts. refl) (λ y ts. refl))
          (λ f w. (w.known, (w.takes, w.each)))
          (λ f g. record { known = g.0; takes = g.1.0; each = g.1.1 })

      pub facts_exact : Exact file (facts file arities ars) (FactsWithin arities ars) (listed encode_fact)
      unfolding facts
      facts_exact =
          exact_as file (facts file arities ars) _ (FactsWithin arities ars) (listed encode_fact)
          (list_exact (fact file arities ars) (FactWithin arities ars) encode_fact fact_exact 8 (omega arith))
          (λ fs w. (w.few, w.each))
          (λ fs g. record { few = g.0; each = g.1 })

      pub layout_exact : Exact file (layout file arities ars) (LayoutWithin arities ars) encode_rule
      unfolding layout
      layout_exact =
          exact_as file (layout file arities ars) _ (LayoutWithin arities ars) encode_rule
          (then_exact file (counted file most_variables (below file sort_count)) (λ vs. (length vs ≤ 16) × All (λ v. v < 3) vs) (listed groups)
          (list_exact (below file sort_count) (λ v. v < 3) groups (small_exact 3 (omega arith)) 16 (omega arith))
          (λ vs. many (facts file arities ars) list_count) (λ vs ps. (length ps ≡ 3) × All (FactsWithin arities ars) ps) (flat (listed encode_fact))
          (λ vs g. many_exact file (facts file arities ars) (FactsWithin arities ars) (listed encode_fact) facts_exact 3)
          rule_of_lem (λ r. r.sorts) (λ r. r.lists) (λ r. refl) (λ vs ps. refl) (λ vs ps. refl))
          (λ r w. ((w.few, w.sorted), (w.three, w.each)))
          (λ r g. record { few = g.0.0; sorted = g.0.1; three = g.1.0; each = g.1.1 })

      pub rule_exact : Exact file (rule file arities ars) (RuleWithin arities ars) encode_rule
      unfolding rule
      rule_exact =
          exact_as file (rule file arities ars) _ (RuleWithin arities ars) encode_rule
          (test_exact file (layout file arities ars) (LayoutWithin arities ars) encode_rule layout_exact declared)
          (λ r w. (w.laid, w.bound))
          (λ r g. record { laid = g.0; bound = g.1 })

      -- a rule that reads is in the file
      pub rule_inside : (r : Rule) (at e : ℕ) → rule file arities ars at ≡ got r e → (at < e) × (e ≤ length file)
      rule_inside r at e h =
          let f = rule_exact.form r at e h in
          let S : List ℕ = listed groups r.sorts in
          let P : List ℕ = flat (listed encode_fact) r.lists in
          let some : 0 < length (S ++ P) =
          omega (arith, groups_some (length r.sorts), length-append S P, length-append (groups (length r.sorts)) (flat groups r.sorts)) in
          (omega (arith, f.1.ends), stands_within f.1 some)

  pub own_exact : Exact file (own file) OwnWithin encode_own
  unfolding own
  own_exact =
      exact_as file (own file) _ OwnWithin encode_own
      (then_exact file (below file fact_limit) (λ a. a < 9) groups (small_exact 9 (omega arith))
      (λ a. below file flag_count) (λ a l. l < 2) groups (λ a g. small_exact 2 (omega arith))
      own_of (λ o. o.arity) (λ o. o.flag) (λ o. refl) (λ a l. refl) (λ a l. refl))
      (λ o w. (w.small, w.either))
      (λ o g. record { small = g.0; either = g.1 })

-- ── the whole file ──
pub few_arities : (os : List Own) → length os ≤ 32 → length (fact_arities os) ≤ 36
few_arities os h = omega (arith, length-map os (λ (o : Own). o.arity))

module _ (file : List ℕ) (bytes : Bytes file) where
  functions_exact : Exact file (counted file most_functions (below file arity_limit)) (λ fs. (length fs ≤ 16) × All (λ a. a < 5) fs) (listed groups)
  functions_exact = list_exact file bytes (below file arity_limit) (λ a. a < 5) groups (small_exact file bytes 5 (omega arith)) 16 (omega arith)

  symbols_exact : Exact file (counted file most_own (own file)) (λ os. (length os ≤ 32) × All OwnWithin os) (listed encode_own)
  symbols_exact = list_exact file bytes (own file) OwnWithin encode_own (own_exact file bytes) 32 (omega arith)

  module _ (fs : List ℕ) (os : List Own) (few : length os ≤ 32) where
    rules_exact :
        Exact file (counted file most_rules (rule file (tag_arities fs) (fact_arities os)))
        (λ rs. (length rs ≤ 64) × All (RuleWithin (tag_arities fs) (fact_arities os)) rs) (listed encode_rule)
    rules_exact =
        list_exact file bytes (rule file (tag_arities fs) (fact_arities os)) (RuleWithin (tag_arities fs) (fact_arities os)) encode_rule
        (rule_exact file bytes (tag_arities fs) (fact_arities os) (omega (arith, few_arities os few))) 64 (omega arith)

  -- what is within the limits reads back from its bytes
  pub protocol_back : (p : Protocol) → Within p → file ≡ encode_protocol p → protocol file ≡ got p (length file)
  unfolding protocol
  protocol_back p w h =
      let F : List ℕ = listed groups p.functions in
      let O : List ℕ = listed encode_own p.symbols in
      let R : List ℕ = listed encode_rule p.rules in
      let a : drop 0 file ≡ F ++ (O ++ R) = h in
      let b : drop (0 + length F) file ≡ O ++ R = behind file 0 F (O ++ R) a in
      let c : drop (0 + length F + length O) file ≡ R ++ [] = behind file (0 + length F) O R b ∙ sym (append-nil R) in
      let e : 0 + length F + length O + length R ≡ length file = omega (arith, ap length h, length-append F (O ++ R), length-append O R) in
      then_got (counted file most_functions (below file arity_limit) 0) _ (functions_exact.back p.functions 0 (O ++ R) (w.few_functions, w.arities) a)
      ∙ then_got (counted file most_own (own file) (0 + length F)) _
      (symbols_exact.back p.symbols (0 + length F) R (w.few_symbols, w.symbols) b)
      ∙ then_got (counted file most_rules (rule file (tag_arities p.functions) (fact_arities p.symbols)) (0 + length F + length O)) _
      ((rules_exact p.functions p.symbols w.few_symbols).back p.rules (0 + length F + length O) [] (w.few_rules, w.rules) c)
      ∙ pick_true _ _ (eq-eqb (0 + length F + length O + length R) (length file) e)
      ∙ ap (got p) e

  -- what reads is within the limits, the file is its bytes, and nothing is left over
  pub record Form (p : Protocol) (e : ℕ) : Type 0 where
    pub within : Within p
    pub bytes_are : file ≡ encode_protocol p
    pub whole : e ≡ length file

  pub protocol_form : (p : Protocol) (e : ℕ) → protocol file ≡ got p e → Form p e
  unfolding protocol
  protocol_form p e h =
      cut_got (counted file most_functions (below file arity_limit) 0) _ h (λ fs c hf h.
      cut_got (counted file most_own (own file) c) _ h (λ os d ho h.
      cut_got (counted file most_rules (rule file (tag_arities fs) (fact_arities os)) d) _ h (λ rs f hr h.
      cut_eq _ _ _ f (length file) h
      (λ z h.
      let a = functions_exact.form fs 0 c hf in
      let b = symbols_exact.form os c d ho in
      let k = (rules_exact fs os b.0.0).form rs d f hr in
      let all = stands_join a.1 (stands_join b.1 k.1) in
      let none : drop f file ≡ [] = drop_of_length-le file {i = f} (omega arith) in
      let q : protocol_of fs os rs ≡ p = cc in
      let r : f ≡ e = cc in
      subst (λ (x : Protocol). Form x e) q
      record {
        within = record { few_functions = a.0.0; arities = a.0.1; few_symbols = b.0.0; symbols = b.0.1; few_rules = k.0.0; rules = k.0.1 };
        bytes_are = all.there ∙ ap (λ (l : List ℕ). encode_protocol (protocol_of fs os rs) ++ l) none ∙ append-nil (encode_protocol (protocol_of fs os rs));
        whole = omega arith;
      })
      (λ z h. clash (cc)))))

  -- exact in both directions
  pub protocol_exact : (p : Protocol) → (protocol file ≡ got p (length file)) ↔ (Within p × (file ≡ encode_protocol p))
  protocol_exact p =
      ((λ h. let f = protocol_form p (length file) h in (f.within, f.bytes_are)), (λ h. protocol_back p h.0 h.1))
