-- The whole pass: what the three tables and the end of the file say of the protocol.
use Rattle.std.specs.Prelude.{ℕ, ◌+◌, ◌≤◌, ◌≡◌, refl, length, take, eqb}
use mathlib.Core.List.{List}
use Rattle.std.proofs.Common.{ap, sym, ◌∙◌, arith, eq-eqb, ne_eqb}
use Rattle.std.proofs.Math.Path.{ap₂}
use Rattle.term.specs.Tags.{most_functions}
use Rattle.protocol.specs.Figures.{most_own, most_rules, arity_limit}
use Rattle.lists.specs.Choice.{pick}
use Rattle.octets.specs.Head.{Bytes}
use Rattle.number.specs.Reading.{Read, got, fault, and_then, below, counted}
use Rattle.number.specs.Reading.Laws.{then_got, then_fault}
use Rattle.protocol.specs.Protocol.{Rule, Protocol, protocol_of, empty_rule, own, rule, protocol}
use Rattle.protocol.specs.Protocol.Exact.{protocol_form}
use Rattle.protocol.specs.Index.{ToldOf, Slotted, Tabled, Placed, Entries}

pub no_functions : (file : List ℕ) → counted file most_functions (below file arity_limit) 0 ≡ fault → protocol file ≡ fault
unfolding protocol
no_functions file h = then_fault (counted file most_functions (below file arity_limit) 0) _ h

module _ (file arities : List ℕ) (nf e : ℕ) (F : ToldOf (counted file most_functions (below file arity_limit) 0) (Slotted arities) nf e) where
  pub no_symbols : counted file most_own (own file) e ≡ fault → protocol file ≡ fault
  unfolding protocol
  no_symbols h = then_got (counted file most_functions (below file arity_limit) 0) _ F.there ∙ then_fault (counted file most_own (own file) e) _ h

  module _ (ars flags : List ℕ) (m f : ℕ) (S : ToldOf (counted file most_own (own file) e) (Tabled ars flags) m f) where
    abbrev its_rule : ℕ → Read Rule
    its_rule = rule file arities (take (m + 4) ars)

    abbrev its_end : List Rule → ℕ → Read Protocol
    its_end rs g = pick (eqb g (length file)) (got (protocol_of F.item S.item rs) g) fault

    behind_tables : protocol file ≡ and_then (counted file most_rules its_rule f) its_end
    unfolding protocol
    behind_tables =
        then_got (counted file most_functions (below file arity_limit) 0) _ F.there
        ∙ then_got (counted file most_own (own file) e) _ S.there
        ∙ ap₂ (λ (a b : List ℕ). and_then (counted file most_rules (rule file a b) f) its_end) (sym F.says) (sym S.says.arities)

    pub no_rules : counted file most_rules its_rule f ≡ fault → protocol file ≡ fault
    no_rules h = behind_tables ∙ then_fault (counted file most_rules its_rule f) _ h

    module _ (places : List ℕ) (n g : ℕ) (R : ToldOf (counted file most_rules its_rule f) (Placed its_rule empty_rule places) n g) where
      pub leftover : (g ≡ length file → ⊥) → protocol file ≡ fault
      leftover h = behind_tables ∙ then_got (counted file most_rules its_rule f) _ R.there ∙ simp (ne_eqb g (length file) h)

      abbrev its_protocol : Protocol
      its_protocol = protocol_of F.item S.item R.item

      its_reading : g ≡ length file → protocol file ≡ got its_protocol (length file)
      its_reading z =
          behind_tables
          ∙ then_got (counted file most_rules its_rule f) _ R.there
          ∙ ap (λ (k : ℕ). its_end R.item k) z
          ∙ simp (eq-eqb (length file) (length file) refl)

      pub entries : Bytes file → g ≡ length file → Entries file (m + 4) n arities ars flags places
      entries bytes z =
          let w = protocol_form file bytes its_protocol (length file) (its_reading z) in
          let few : length R.item ≤ 64 = w.within.few_rules in
          let l : m ≤ 32 = S.says.few in
          record {
            is = its_protocol;
            reads = its_reading z;
            within = w.within;
            slotted = F.says;
            tabled = S.says.arities;
            flagged = S.says.flagged;
            count = ap (λ (i : ℕ). i + 4) S.says.count;
            few_symbols = omega arith;
            few_rules = omega (arith, R.says.count);
            placed = R.says;
          }
