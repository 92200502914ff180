-- What the canonical form is: the theorems of this crate, for every arity of the tags that gives one, exp, inv, mul and true theirs.
use Rattle.std.specs.Prelude.{ℕ, ◌≤◌, ◌≡◌, refl, ◌↔◌, List, length}
use Rattle.std.proofs.Common.{ap, subst, arith}
use Rattle.std.proofs.Common.{Option}
use Rattle.term.specs.Term.{Term, Formed, InRange, encode, symbols}
use Rattle.term.specs.Arity.{arity, tag_arities}
use Rattle.term.specs.Arity.Laws.{no_leaf, signing_arity}
use Rattle.message.specs.Encoding.{encode_same}
use Rattle.message.specs.Equations.{Same}
use Rattle.message.specs.Equations.Laws.{widen}
use Rattle.message.specs.Canonical.{Canonical}
use Rattle.message.proofs.Canonical.Laws.{canonical_map}
use Rattle.message.specs.Substitution.{Ground}
use Rattle.message.specs.Rules.{FitArities, Theory}
use Rattle.message.proofs.Table.Laws.{theory, twelve_tabled, tabled_twelve, settled_irreducible, irreducible_settled}
use Rattle.message.specs.Canon.{canon}
use Rattle.message.proofs.Canon.Keeps.{canon_formed, canon_ground, canon_range}
use Rattle.message.proofs.Canon.Canonical.{canon_canonical}
use Rattle.message.proofs.Canon.Complete.{complete}
use Rattle.message.proofs.Canon.Sound.{sound}
use Rattle.message.proofs.Canon.Decides.{decides, decides_bytes, canonical_fixed, canonical_unique}
use Rattle.message.proofs.Canon.Size.{canon_symbols, canon_bytes}

module _ (ar : ℕ → Option ℕ) (g : FitArities ar) where
  abbrev σ : Theory
  σ = theory ar g

  -- ── equality ──
  pub same_canon : (t u : Term) → Formed ar t → Formed ar u → Same ar t u ↔ (canon t ≡ canon u)
  same_canon t u w v = (λ d. complete σ (widen twelve_tabled d), λ e. widen tabled_twelve ((decides σ t u w v).1 e))

  -- by the encoded bytes
  pub same_bytes : (t u : Term) → Formed ar t → Formed ar u → Same ar t u ↔ (encode (canon t) ≡ encode (canon u))
  same_bytes t u w v =
      (λ d. (decides_bytes σ t u w v).0 (widen twelve_tabled d), λ e. widen tabled_twelve ((decides_bytes σ t u w v).1 e))

  pub canon_same : (t : Term) → Formed ar t → Same ar t (canon t)
  canon_same t w = widen tabled_twelve (sound σ t w)

  -- ── canonical form ──
  pub canon_is_canonical : (t : Term) → Formed ar t → Canonical (canon t)
  canon_is_canonical t w = canonical_map irreducible_settled (canon_canonical σ t w)

  pub canonical_stays : (t : Term) → Formed ar t → Canonical t → canon t ≡ t
  canonical_stays t w c = canonical_fixed σ (canonical_map settled_irreducible c) w

  -- as a test, of terms and of bytes
  pub canonical_canon : (t : Term) → Formed ar t → Canonical t ↔ (canon t ≡ t)
  canonical_canon t w = (canonical_stays t w, λ e. subst Canonical e (canon_is_canonical t w))

  pub canonical_bytes : (t : Term) → Formed ar t → Canonical t ↔ (encode (canon t) ≡ encode t)
  canonical_bytes t w = (
    λ c. ap encode (canonical_stays t w c),
    λ e. (canonical_canon t w).1
        (encode_same ar g.no_leaf (canon t) t (canon_formed σ t w) w e),
  )

  -- one to a class
  pub canonical_same : (t u : Term) → Formed ar t → Formed ar u → Canonical t → Canonical u → Same ar t u → t ≡ u
  canonical_same t u w v c d e =
      canonical_unique σ t u w v (canonical_map settled_irreducible c) (canonical_map settled_irreducible d) (widen twelve_tabled e)

  -- ── what it keeps, and its size ──
  pub canon_is_formed : (t : Term) → Formed ar t → Formed ar (canon t)
  canon_is_formed t w = canon_formed σ t w

  pub canon_is_ground : (t : Term) → Ground t → Ground (canon t)
  canon_is_ground t w = canon_ground σ t w

  pub canon_is_in_range : (t : Term) → InRange t → InRange (canon t)
  canon_is_in_range t w = canon_range σ t w

  pub fewer_symbols : (t : Term) → Formed ar t → symbols (canon t) ≤ symbols t
  fewer_symbols t w = canon_symbols σ t w

  pub fewer_bytes : (t : Term) → Formed ar t → length (encode (canon t)) ≤ length (encode t)
  fewer_bytes t w = canon_bytes σ t w

-- document 01's table, whatever free functions are declared
pub declared : (free : List ℕ) → FitArities (arity (tag_arities free))
unfolding arity tag_arities
declared free = record {
  no_leaf = λ f n e. no_leaf (tag_arities free) f n e;
  one_arity = refl;
  exp_arity = refl;
  inv_arity = refl;
  mul_arity = refl;
  true_arity = signing_arity free 5 (omega arith);
}
