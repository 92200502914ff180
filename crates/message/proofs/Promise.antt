-- The promise of this crate is kept.
use Rattle.std.specs.Prelude.{ℕ, ◌≡◌, refl, ◌↔◌, true, List, [], ◌∷◌}
use Rattle.std.proofs.Common.{sym, ◌∙◌, ap}
use Rattle.std.proofs.Common.{Option}
use Rattle.lists.specs.Choice.{clash}
use Rattle.octets.specs.Compare.{compare_bytes, is_equal}
use Rattle.octets.specs.Compare.Laws.{compare_refl, compare_same}
use Rattle.std.specs.declared.cmp.Ordering.{Ordering}
use Rattle.std.specs.declared.cmp.Ordering.TheVariants.{Less, Equal, Greater}
use Rattle.term.specs.Term.{public, fresh, leaf, encode}
use Rattle.term.specs.Arity.{arity, tag_arities}
use Rattle.message.specs.Equations.{Twelve, Congruences, reflexive, symmetric, transitive, congruent, same_none, same_more}
use Rattle.message.specs.Rules.{FitArities}
use Rattle.message.specs.Canon.{canon}
use Rattle.message.proofs.Theorems.{same_canon, same_bytes, declared}
use Rattle.message.specs.Promise.{Message, SameMessage, SameMessages, public_name, fresh_name, terms, apply, Promise}

-- ── it is kept ──
same_order : (o : Ordering) → is_equal o ≡ true → o ≡ Equal
same_order Less e = clash (cc)
same_order Equal e = refl
same_order Greater e = clash (cc)

module _ (ar : ℕ → Option ℕ) (g : FitArities ar) where
  abbrev canon_bytes : Message ar → List ℕ
  canon_bytes m = encode (canon m.term)

  test_decides : (m n : Message ar) → (is_equal (compare_bytes (canon_bytes m) (canon_bytes n)) ≡ true) ↔ SameMessage ar m n
  test_decides m n =
      let b = same_bytes ar g m.term n.term m.formed n.formed in (
        λ e. b.1 (compare_same (canon_bytes m) (canon_bytes n) (same_order _ e)),
        λ d. ap (λ (l : List ℕ). is_equal (compare_bytes (canon_bytes m) l)) (sym (b.0 d)) ∙ ap is_equal (compare_refl (canon_bytes m)),
      )

  all_same : (ms ns : List (Message ar)) → SameMessages ar ms ns → Congruences ar Twelve (terms ar ms) (terms ar ns)
  all_same [] [] s = same_none
  all_same [] (n ∷ ns) s = absurd s
  all_same (m ∷ ms) [] s = absurd s
  all_same (m ∷ ms) (n ∷ ns) s = same_more s.0 (all_same ms ns s.1)

  -- names are their own canonical form
  leaves_same : (i j : Message ar) → SameMessage ar i j → canon i.term ≡ canon j.term
  leaves_same i j d = (same_canon ar g i.term j.term i.formed j.formed).0 d

  pub promised : Promise ar
  promised = record {
    same = λ m n. is_equal (compare_bytes (canon_bytes m) (canon_bytes n));
    decides = test_decides;
    is_reflexive = λ m. reflexive m.formed;
    is_symmetric = λ m n d. symmetric d;
    is_transitive = λ m n k d e. transitive d e;
    is_congruent = λ f ms ns d e s. congruent (apply ar f ms d).formed (all_same ms ns s);
    public_apart = λ i j d. let e : leaf public i ≡ leaf public j = leaves_same (public_name ar i) (public_name ar j) d in cc;
    fresh_apart = λ i j d. let e : leaf fresh i ≡ leaf fresh j = leaves_same (fresh_name ar i) (fresh_name ar j) d in cc;
    names_apart = λ i j d. let e : leaf public i ≡ leaf fresh j = leaves_same (public_name ar i) (fresh_name ar j) d in clash (cc);
  }

-- document 01's messages, for the declared arities of the free functions
pub messages : (free : List ℕ) → Promise (arity (tag_arities free))
messages free = promised (arity (tag_arities free)) (declared free)
