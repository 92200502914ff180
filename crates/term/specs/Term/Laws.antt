-- The laws of the encoding: it is read in one way only, and a symbol takes a byte at least; a wider range of numbers.
use Rattle.std.specs.Prelude.{ℕ, ◌≤◌, ◌<◌, List, ◌++◌, ◌≡◌, refl, length}
use Rattle.std.proofs.Common.{append_assoc, ap, ap₂, sym, ◌∙◌, arith, length-append}
use Rattle.std.specs.Prelude.{Option, Some}
use Rattle.number.specs.Groups.{groups}
use Rattle.number.specs.Groups.Laws.{groups_prefix, groups_some}
use Rattle.term.specs.Term.{Kind, variable, public, fresh, Term, leaf, app, Terms, nil}
use Rattle.term.specs.Term.{◌&◌, tag_of, count, encode, encodes, symbols, symbolss, Formed, Formeds, Below, Belows}

-- ── leaves ──
pub tag_small : (k : Kind) → tag_of k < 3
tag_small variable = omega arith
tag_small public = omega arith
tag_small fresh = omega arith

pub tag_same : (j k : Kind) → tag_of j ≡ tag_of k → j ≡ k
tag_same variable variable e = refl
tag_same variable public e = absurd (omega arith)
tag_same variable fresh e = absurd (omega arith)
tag_same public variable e = absurd (omega arith)
tag_same public public e = refl
tag_same public fresh e = absurd (omega arith)
tag_same fresh variable e = absurd (omega arith)
tag_same fresh public e = absurd (omega arith)
tag_same fresh fresh e = refl

-- ── the same bytes in front are of the same term ──
module _ (ar : ℕ → Option ℕ) (no_leaf : (f n : ℕ) → ar f ≡ Some n → 3 ≤ f) where
  mutual
    pub encode_prefix :
        (t u : Term) (x y : List ℕ) → Formed ar t → Formed ar u → encode t ++ x ≡ encode u ++ y → (t ≡ u) × (x ≡ y)
    encode_prefix (leaf j m) (leaf k n) x y v w e =
        let e' = sym (append_assoc (groups (tag_of j)) (groups m) x) ∙ e ∙ append_assoc (groups (tag_of k)) (groups n) y in
        let a = groups_prefix (tag_of j) (tag_of k) _ _ e' in
        let b = groups_prefix m n x y a.1 in
        (ap₂ leaf (tag_same j k a.0) b.0, b.1)
    encode_prefix (leaf j m) (app f ts) x y v w e =
        let e' = sym (append_assoc (groups (tag_of j)) (groups m) x) ∙ e ∙ append_assoc (groups f) (encodes ts) y in
        let a = groups_prefix (tag_of j) f _ _ e' in
        absurd (omega (arith, a.0, tag_small j, no_leaf f (count ts) w.0))
    encode_prefix (app f ts) (leaf k n) x y v w e =
        let e' = sym (append_assoc (groups f) (encodes ts) x) ∙ e ∙ append_assoc (groups (tag_of k)) (groups n) y in
        let a = groups_prefix f (tag_of k) _ _ e' in
        absurd (omega (arith, a.0, tag_small k, no_leaf f (count ts) v.0))
    encode_prefix (app f ts) (app g us) x y v w e =
        let e' = sym (append_assoc (groups f) (encodes ts) x) ∙ e ∙ append_assoc (groups g) (encodes us) y in
        let a = groups_prefix f g _ _ e' in
        let s : Some (count ts) ≡ Some (count us) = sym v.0 ∙ ap ar a.0 ∙ w.0 in
        let r = encodes_prefix ts us x y v.1 w.1 (cc) a.1 in
        (ap₂ app a.0 r.0, r.1)

    pub encodes_prefix :
        (ts us : Terms) (x y : List ℕ) → Formeds ar ts → Formeds ar us → count ts ≡ count us → encodes ts ++ x ≡ encodes us ++ y
        → (ts ≡ us) × (x ≡ y)
    encodes_prefix nil nil x y v w h e = (refl, e)
    encodes_prefix nil (u & us) x y v w h e = absurd (omega arith)
    encodes_prefix (t & ts) nil x y v w h e = absurd (omega arith)
    encodes_prefix (t & ts) (u & us) x y v w h e =
        let e' = sym (append_assoc (encode t) (encodes ts) x) ∙ e ∙ append_assoc (encode u) (encodes us) y in
        let r = encode_prefix t u (encodes ts ++ x) (encodes us ++ y) v.0 w.0 e' in
        let q = encodes_prefix ts us x y v.1 w.1 (omega arith) r.1 in
        (ap₂ ◌&◌ r.0 q.0, q.1)

-- ── a symbol takes a byte at least ──
mutual
  pub symbols_bytes : (t : Term) → symbols t ≤ length (encode t)
  symbols_bytes (leaf k n) = omega (arith, length-append (groups (tag_of k)) (groups n), groups_some n)
  symbols_bytes (app f ts) = omega (arith, symbolss_bytes ts, length-append (groups f) (encodes ts), groups_some f)

  pub symbolss_bytes : (ts : Terms) → symbolss ts ≤ length (encodes ts)
  symbolss_bytes nil = omega arith
  symbolss_bytes (t & ts) = omega (arith, symbols_bytes t, symbolss_bytes ts, length-append (encode t) (encodes ts))

pub encode_some : (t : Term) → 0 < length (encode t)
encode_some (leaf k n) = omega (arith, length-append (groups (tag_of k)) (groups n), groups_some n)
encode_some (app f ts) = omega (arith, length-append (groups f) (encodes ts), groups_some f)

-- ── numbers below a limit are below a larger one ──
module _ (limit more : ℕ) (wider : limit ≤ more) where
  mutual
    pub below_wider : (t : Term) → Below limit t → Below more t
    below_wider (leaf k n) h = omega arith
    below_wider (app f ts) h = (omega (arith, h.0), belows_wider ts h.1)

    belows_wider : (ts : Terms) → Belows limit ts → Belows more ts
    belows_wider nil h = tt
    belows_wider (t & ts) h = (below_wider t h.0, belows_wider ts h.1)
