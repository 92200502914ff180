-- What is written are the canonical forms of the terms filled in; what is its own canonical form is canonical.
use Rattle.std.specs.Prelude.{ℕ, ◌≡◌, List, ◌↔◌}
use Rattle.std.proofs.Common.{ap, subst}
use Rattle.term.specs.Term.{Term, Terms, encodes, Formed}
use Rattle.term.specs.Arity.{arity}
use Rattle.message.specs.Canonical.{Canonical}
use Rattle.message.specs.Substitution.{subs}
use Rattle.message.specs.Canon.{canon, canons}
use Rattle.message.proofs.Theorems.{canon_is_canonical, canonical_stays}
use Rattle.message.specs.Filled.{filleds}
use Rattle.message.specs.Filled.Laws.{filleds_canon}
use Rattle.canonical.specs.Builtins.{Builtins, group}
use Rattle.canonical.specs.Contract.{Job}

pub written_canons :
    (arities vals starts src : List ℕ) (at k n o : ℕ) (θ : ℕ → Term) (ts : Terms) → Job arities vals starts src at k n o θ ts
    → encodes (filleds θ ts) ≡ encodes (canons (subs θ ts))
written_canons arities vals starts src at k n o θ ts J = ap encodes (filleds_canon θ ts (λ v i. (J.values v i).own))

-- a term is its own canonical form exactly when it is canonical, in document 01's words
pub own_canonical :
    (arities : List ℕ) (b : Builtins arities) (t : Term) → Formed (arity arities) t → (canon t ≡ t) ↔ Canonical t
own_canonical arities b t w =
    let g = group arities b in
    (λ e. subst Canonical e (canon_is_canonical (arity arities) g t w), λ c. canonical_stays (arity arities) g t w c)
