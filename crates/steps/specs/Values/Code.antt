-- What code answers of a value.
use Rattle.std.specs.Prelude.{ℕ, zero, suc, ◌≤◌, ◌<◌, List, [], Bool, true, false, not, ◌&&◌, ◌||◌, ◌≡◌, refl, length, ltb, eqb, ◌↔◌}
use Rattle.std.proofs.Common.{append-nil, ap, ap₂, sym, ◌∙◌, subst, arith, lt-ltb, ne_eqb}
use Rattle.std.proofs.Math.Bool.{and-false, and-true}
use Rattle.std.specs.Prelude.{Option, Some, None}
use Rattle.steps.specs.Values.{most_in_value}
use Rattle.octets.specs.Limits.{longest}
use Rattle.message.specs.Canon.{canon}
use Rattle.lists.specs.Asks.{Promises}
use Rattle.lists.specs.Choice.{clash}
use Rattle.octets.specs.Compare.{is_equal}
use Rattle.octets.specs.Compare.Laws.{compare_refl}
use Rattle.octets.specs.Head.{Bytes, stands_within}
use Rattle.number.specs.Groups.{number_limit}
use Rattle.number.specs.Reading.{got, many}
use Rattle.number.specs.Reading.Laws.{cut_got}
use Rattle.term.specs.Term.{Kind, public, fresh, Term, leaf, app, encode, symbols}
use Rattle.term.specs.Term.Laws.{encode_some}
use Rattle.term.specs.Reader.{terms, kind_of, symbol_at, build, term}
use Rattle.term.specs.Reader.Laws.{leaf_at, term_build}
use Rattle.term.specs.Reader.Exact.{term_form}
use Rattle.term.specs.Walk.{holds, bytes_of}
use Rattle.term.specs.declared.Fresh.{Fresh}
use Rattle.term.specs.declared.Public.{Public}
use Rattle.term.specs.declared.Symbol.{Symbol}
use Rattle.term.specs.declared.Symbol.TheVariants as sy
use Rattle.lists.specs.Tests.{by_bool, true_false, not_true}
use Rattle.canonical.specs.Builtins.{Builtins, group}
use Rattle.canonical.specs.Contract.{MessageIs, form_room}
use Rattle.steps.specs.declared.values.Name.{Name}
use Rattle.steps.specs.declared.values.Name.TheVariants as nm
use Rattle.steps.specs.Facts.{fresh_number}
use Rattle.steps.specs.Values.Tests.{is_fresh, is_public, of_sort, is_canonical, value_ok}
use Rattle.message.specs.Substitution.Laws.{none_ground}
use Rattle.steps.specs.Values.Laws.{canon_decides}

-- a name by its symbol: tag 2 fresh, tag 1 public
abbrev pub NameIs : Option Symbol → Option Name → Type 0
NameIs y (Some (nm.FreshName f)) = (e : ℕ) × (y ≡ Some (sy.Leaf 2 f.0 e))
NameIs y (Some (nm.PublicName f)) = (e : ℕ) × (y ≡ Some (sy.Leaf 1 f.0 e))
NameIs y None = (n e : ℕ) → (y ≡ Some (sy.Leaf 2 n e) → ⊥) × (y ≡ Some (sy.Leaf 1 n e) → ⊥)

-- what a name fits: a fresh one, a public one, a value that is none
abbrev pub of_fresh : ℕ → Fresh → Bool
of_fresh sort f = eqb sort 0 || eqb sort 1

abbrev pub of_public : ℕ → Public → Bool
of_public sort f = eqb sort 0 || eqb sort 2

abbrev pub of_name : ℕ → Option Name → Bool
of_name sort (Some (nm.FreshName f)) = of_fresh sort f
of_name sort (Some (nm.PublicName f)) = of_public sort f
of_name sort None = eqb sort 0

-- there is room to make a form in
pub record FormRoom (out : List ℕ) : Type 0 where
  pub enough : form_room ≤ length out
  pub short : length out ≤ longest

-- the term t stands at a place, under a table of the built-in functions
pub record ValueThere (arities file : List ℕ) (at : ℕ) (t : Term) (e : ℕ) : Type 0 where
  pub table : Builtins arities
  pub there : term file arities at ≡ got t e
  pub short : length file ≤ longest

-- it holds no variable, and has so many symbols
pub record GroundThere (arities file : List ℕ) (at size : ℕ) (t : Term) : Type 0 where
  pub end : ℕ
  pub is : ValueThere arities file at t end
  pub is_ground : holds t 0 0 number_limit ≡ false
  pub sized : size ≡ symbols t

pub room_kept : {out out' : List ℕ} → FormRoom out → length out' ≡ length out → FormRoom out'
room_kept r e = record { enough = omega (arith, r.enough); short = omega (arith, r.short) }

-- ── what a name fits ──
neither : (k n : ℕ) → n < 3 → (eqb (suc (suc (suc k))) 0 || eqb (suc (suc (suc k))) n) ≡ false
neither k n l =
    ap₂ ◌||◌ (ne_eqb (suc (suc (suc k))) 0 (λ h. omega arith)) (ne_eqb (suc (suc (suc k))) n (λ h. omega arith))

-- ── the term of a symbol ──
module _ (file arities : List ℕ) (at : ℕ) (bytes : Bytes file) (t : Term) (e : ℕ) (there : term file arities at ≡ got t e) where
  built : build (term file arities) (symbol_at file arities at) ≡ got t e
  built = sym (term_build file arities bytes at) ∙ there

  pub leaf_is : (k n d : ℕ) → symbol_at file arities at ≡ Some (sy.Leaf k n d) → t ≡ leaf (kind_of k) n
  leaf_is k n d h =
      let g : got (leaf (kind_of k) n) d ≡ got t e = sym (ap (build (term file arities)) h) ∙ built in
      cc

  no_name : ((n d : ℕ) → (symbol_at file arities at ≡ Some (sy.Leaf 2 n d) → ⊥) × (symbol_at file arities at ≡ Some (sy.Leaf 1 n d) → ⊥)) → (is_fresh t ≡ false) ×
      (is_public t ≡ false)
  no_name h = go (symbol_at file arities at) refl built
    where
      leaves : (k n d : ℕ) → symbol_at file arities at ≡ Some (sy.Leaf k n d) → k < 3 → (is_fresh (leaf (kind_of k) n) ≡ false) × (is_public (leaf (kind_of k) n) ≡ false)
      leaves zero n d g l = (refl, refl)
      leaves (suc zero) n d g l = absurd ((h n d).1 g)
      leaves (suc (suc zero)) n d g l = absurd ((h n d).0 g)
      leaves (suc (suc (suc k))) n d g l = absurd (omega arith)

      go : (y : Option Symbol) → symbol_at file arities at ≡ y → build (term file arities) y ≡ got t e → (is_fresh t ≡ false) × (is_public t ≡ false)
      go (Some (sy.Leaf k n d)) g b =
          let r = leaves k n d g (leaf_at file arities at k n d g).small in
          let i = leaf_is k n d g in
          (ap is_fresh i ∙ r.0, ap is_public i ∙ r.1)
      go (Some (sy.Op k n d)) g b =
          cut_got (many (term file arities) n d) _ b (λ ts f hm q.
          let i : app k (terms ts) ≡ t = cc in
          (sym (ap is_fresh i), sym (ap is_public i)))
      go None g b = clash (cc)

  -- a term that no fresh name begins is none
  pub no_fresh : ((n d : ℕ) → symbol_at file arities at ≡ Some (sy.Leaf 2 n d) → ⊥) → fresh_number t ≡ None
  no_fresh h = go (symbol_at file arities at) refl built
    where
      leaves : (k n d : ℕ) → symbol_at file arities at ≡ Some (sy.Leaf k n d) → k < 3 → fresh_number (leaf (kind_of k) n) ≡ None
      leaves zero n d g l = refl
      leaves (suc zero) n d g l = refl
      leaves (suc (suc zero)) n d g l = absurd (h n d g)
      leaves (suc (suc (suc k))) n d g l = absurd (omega arith)

      go : (y : Option Symbol) → symbol_at file arities at ≡ y → build (term file arities) y ≡ got t e → fresh_number t ≡ None
      go (Some (sy.Leaf k n d)) g b = ap fresh_number (leaf_is k n d g) ∙ leaves k n d g (leaf_at file arities at k n d g).small
      go (Some (sy.Op k n d)) g b =
          cut_got (many (term file arities) n d) _ b (λ ts f hm q.
          let i : app k (terms ts) ≡ t = cc in
          sym (ap fresh_number i))
      go None g b = clash (cc)

  sorts_fresh : (sort n : ℕ) → (eqb sort 0 || eqb sort 1) ≡ of_sort sort (leaf fresh n)
  sorts_fresh zero n = refl
  sorts_fresh (suc zero) n = refl
  sorts_fresh (suc (suc zero)) n = refl
  sorts_fresh (suc (suc (suc k))) n = neither k 1 (omega arith)

  sorts_public : (sort n : ℕ) → (eqb sort 0 || eqb sort 2) ≡ of_sort sort (leaf public n)
  sorts_public zero n = refl
  sorts_public (suc zero) n = refl
  sorts_public (suc (suc zero)) n = refl
  sorts_public (suc (suc (suc k))) n = neither k 2 (omega arith)

  sorts_other : (sort : ℕ) → is_fresh t ≡ false → is_public t ≡ false → eqb sort 0 ≡ of_sort sort t
  sorts_other zero a b = refl
  sorts_other (suc zero) a b = sym a
  sorts_other (suc (suc zero)) a b = sym b
  sorts_other (suc (suc (suc k))) a b = ne_eqb (suc (suc (suc k))) 0 (λ h. omega arith)

  pub name_sort : (sort : ℕ) (x : Option Name) → NameIs (symbol_at file arities at) x → of_name sort x ≡ of_sort sort t
  name_sort sort (Some (nm.FreshName f)) (d, h) = sorts_fresh sort f.0 ∙ ap (of_sort sort) (sym (leaf_is 2 f.0 d h))
  name_sort sort (Some (nm.PublicName f)) (d, h) = sorts_public sort f.0 ∙ ap (of_sort sort) (sym (leaf_is 1 f.0 d h))
  name_sort sort None h = let (a, b) = no_name h in sorts_other sort a b

  -- a name fits just where its sort does
  names_ok : (k : Kind) (n : ℕ) → holds (leaf k n) 0 0 number_limit ≡ false → (sort : ℕ) → t ≡ leaf k n → of_sort sort t ≡ value_ok sort t
  names_ok k n h sort e =
      let c : is_canonical (leaf k n) ≡ true = ap is_equal (compare_refl (encode (leaf k n))) in
      let one : value_ok sort (leaf k n) ≡ of_sort sort (leaf k n) =
      ap₂ (λ (a b : Bool). not a && (of_sort sort (leaf k n) && b)) h c ∙ and-true (of_sort sort (leaf k n)) in
      ap (of_sort sort) e ∙ sym one ∙ sym (ap (value_ok sort) e)

  module _ (sort : ℕ) (x : Option Name) (is : NameIs (symbol_at file arities at) x) (b : Bool) where
    pub fresh_ok : {f : Fresh} → x ≡ Some (nm.FreshName f) → b ≡ of_fresh sort f → b ≡ value_ok sort t
    fresh_ok {f} h e =
        let (d, q) = subst (NameIs (symbol_at file arities at)) h is in
        e ∙ sym (ap (of_name sort) h) ∙ name_sort sort x is ∙ names_ok fresh f.0 refl sort (leaf_is 2 f.0 d q)

    pub public_ok : {f : Public} → x ≡ Some (nm.PublicName f) → b ≡ of_public sort f → b ≡ value_ok sort t
    public_ok {f} h e =
        let (d, q) = subst (NameIs (symbol_at file arities at)) h is in
        e ∙ sym (ap (of_name sort) h) ∙ name_sort sort x is ∙ names_ok public f.0 refl sort (leaf_is 1 f.0 d q)

  -- what is no name fits no sort of names
  pub other_sort : (sort : ℕ) (x : Option Name) → NameIs (symbol_at file arities at) x → x ≡ None → (sort ≡ 0 → ⊥) → of_sort sort t ≡ false
  other_sort sort x is h n = sym (name_sort sort x is) ∙ ap (of_name sort) h ∙ ne_eqb sort 0 n

-- ── the whole test ──
module _ (file arities : List ℕ) (at : ℕ) (t : Term) (e : ℕ) (v : ValueThere arities file at t e) (sort : ℕ) where
  pub not_sorted : of_sort sort t ≡ false → false ≡ value_ok sort t
  not_sorted h =
      sym (ap (λ (b : Bool). not (holds t 0 0 number_limit) && (b && (ltb (symbols t) (suc most_in_value) && is_canonical t))) h ∙ and-false
      (not (holds t 0 0 number_limit)))

  pub by_canonical : (b : Bool) → holds t 0 0 number_limit ≡ false → symbols t ≤ most_in_value → of_sort sort t ≡ true → b ≡ is_canonical t → b ≡ value_ok sort t
  by_canonical b h l k e =
      e ∙ sym (ap (λ (a : Bool). not a && (of_sort sort t && (ltb (symbols t) (suc most_in_value) && is_canonical t))) h
      ∙ ap (λ (a : Bool). a && (ltb (symbols t) (suc most_in_value) && is_canonical t)) k ∙ ap (λ (a : Bool). a && is_canonical t)
      (lt-ltb (symbols t) (suc most_in_value) (omega arith)))

  -- its bytes, a part of the file
  module _ (bytes : Bytes file) (part : List ℕ) (read : part ≡ bytes_of (term file arities at)) where
    whole : part ≡ encode t
    whole = read ∙ ap bytes_of v.there

    -- are a message
    pub message : holds t 0 0 number_limit ≡ false → symbols t ≤ most_in_value → MessageIs arities part t
    message h l =
        let f = term_form file arities bytes t at e v.there in
        record {
          is = record {
            table = v.table;
            formed = f.0.0;
            is_ground = none_ground t f.0.1 h;
            range = f.0.1;
            rest = [];
            there = whole ∙ sym (append-nil (encode t));
            small = omega arith;
            short = omega (arith, ap length whole, f.1.ends, stands_within f.1 (encode_some t), v.short);
          };
          whole = whole;
        }

    pub canonical_is : (b : Bool) → Promises (MessageIs arities part) (λ (t : Term). (b ≡ true) ↔ (canon t ≡ t)) → MessageIs arities part t → b ≡ is_canonical t
    canonical_is b h m =
        let c = h t m in
        let d = canon_decides arities (group arities v.table) t m.is.formed in
        by_bool (is_canonical t)
        (λ q. c.1 (d.0 q) ∙ sym q)
        (λ q. not_true b (λ r. true_false (is_canonical t) (d.1 (c.0 r)) q) ∙ sym q)
