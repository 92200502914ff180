-- What stands at a place of the output.
use Prim.Native.Nat.{ℕ, ◌+◌, ◌<◌, ◌≤◌}
use mathlib.Core.List.{List, [], ◌++◌}
use mathlib.Core.Path.{◌≡◌, refl, ap, sym, ◌∙◌}
use mathlib.Core.Logic.{◌≢◌}
use mathlib.Core.Bool.{true, false}
use native.Mathlib.Omega.{arith}
use lib.ListN.{length, drop, get_or}
use Rattle.lists.specs.Asks.{Asks₂, Promises₂}
use Rattle.lists.specs.Choice.{clash}
use Rattle.octets.specs.Compare.{compare_bytes, is_equal}
use Rattle.octets.specs.Compare.Laws.{compare_refl, compare_same}
use Rattle.std.specs.declared.cmp.Ordering.{Ordering}
use Rattle.std.specs.declared.cmp.Ordering.TheVariants.{Less, Equal, Greater}
use Rattle.octets.specs.Head.{Bytes, stands_within}
use Rattle.number.specs.Reading.{got}
use Rattle.std.proofs.Common.{Some, None}
use Rattle.std.proofs.lemmas.Option.{some_pair_parts}
use Rattle.lists.specs.Tests.{some_none}
use Rattle.number.specs.Groups.{groups}
use Rattle.term.specs.declared.Symbol.TheVariants as sy
use Rattle.term.specs.Term.{Term, leaf, app, Terms, nil, ◌&◌, tag_of, count, encode, symbols, Formed}
use Rattle.term.specs.Term.Laws.{encode_prefix, encode_some}
use Rattle.term.specs.Arity.{arity}
use Rattle.term.specs.Arity.Laws.{no_leaf}
use Rattle.term.specs.Reader.{term, symbol_at}
use Rattle.term.specs.Reader.Exact.{term_back, symbol_of_leaf, symbol_of_app}
use Rattle.term.specs.Walk.{ended, bytes_of}
use Rattle.factors.specs.Laid.{OneAt}
use Rattle.factors.specs.Way.Laws.{there_inside, name_inside, name_there}
use Rattle.canonical.specs.Inner.{Here}

-- ── the readers' answers where a term stands ──
module _ (arities src : List ℕ) (bytes : Bytes src) (at : ℕ) where
  pub reads : (t : Term) (e : ℕ) → Here arities src at e t → term src arities at ≡ got t e
  reads t e h =
      term_back src arities bytes t at _ h.formed h.range h.stands.there ∙ ap (got t) (sym h.stands.ends)

  pub end_is : (r n : ℕ) → ended (term src arities at) ≡ Some (r, n) → Promises₂ (Here arities src at) (λ (e : ℕ) (t : Term). r ≡ e)
  end_is r n g e t h = (some_pair_parts r e n (symbols t) (sym g ∙ ap ended (reads t e h))).0

  pub end_none : ended (term src arities at) ≡ None → (r : ℕ) → Promises₂ (Here arities src at) (λ (e : ℕ) (t : Term). r ≡ e)
  end_none g r e t h = absurd (some_none (e, symbols t) (sym (ap ended (reads t e h)) ∙ g))

  pub bytes_are : (t : Term) (e : ℕ) → Here arities src at e t → bytes_of (term src arities at) ≡ encode t
  bytes_are t e h = ap bytes_of (reads t e h)

-- ── a leaf whose number is one byte ──
module _ (arities src : List ℕ) (at : ℕ) where
  as_one : Asks₂ (Here arities src at) → Asks₂ (OneAt arities src at)
  as_one (e, t, h) = (e, t, record { formed = h.formed; range = h.range; there = h.stands })

  pub here_inside : Asks₂ (Here arities src at) → at < length src
  here_inside J = there_inside arities src at (as_one J)

  module _ (l : get_or src at 0 < 3) where
    pub leaf_inside : Asks₂ (Here arities src at) → at + 1 < length src
    leaf_inside J = name_inside arities src at (as_one J) l

    pub leaf_ends : get_or src (at + 1) 0 < 128 → Promises₂ (Here arities src at) (λ (e : ℕ) (t : Term). at + 2 ≡ e)
    leaf_ends s e (leaf k n) h =
        let b : symbol_at src arities at ≡ Some (sy.Leaf _ _ (at + 1 + 1)) = name_there arities src at (as_one (e, leaf k n, h)) l s in
        let q : Some (sy.Leaf (tag_of k) n (at + length (encode (leaf k n)))) ≡ Some (sy.Leaf _ _ (at + 1 + 1)) =
        sym (symbol_of_leaf src arities k n at (drop e src) h.range h.stands.there) ∙ b in
        let z : at + length (encode (leaf k n)) ≡ at + 1 + 1 = cc in
        omega (arith, z, h.stands.ends)
    leaf_ends s e (app f ts) h =
        let b : symbol_at src arities at ≡ Some (sy.Leaf _ _ (at + 1 + 1)) = name_there arities src at (as_one (e, app f ts, h)) l s in
        let q : Some (sy.Op f (count ts) (at + length (groups f))) ≡ Some (sy.Leaf _ _ (at + 1 + 1)) =
        sym (symbol_of_app src arities f ts at (drop e src) h.formed.0 h.range.0 h.stands.there) ∙ b in
        clash (cc)

-- ── the arguments of a function of two ──
pub two_args : (us : Terms) → count us ≡ 2 → (x : Term) × (y : Term) × (us ≡ x & (y & nil))
two_args nil e = absurd (omega arith)
two_args (x & nil) e = absurd (omega arith)
two_args (x & (y & nil)) e = (x, y, refl)
two_args (x & (y & (z & us))) e = absurd (omega arith)

-- ── the same bytes ──
is_equal_lem : (o : Ordering) → is_equal o ≡ true → o ≡ Equal
is_equal_lem Less e = clash (cc)
is_equal_lem Equal e = refl
is_equal_lem Greater e = clash (cc)

module _ (arities : List ℕ) (x y : Term) where
  pub same_term : Formed (arity arities) x → Formed (arity arities) y → is_equal (compare_bytes (encode x) (encode y)) ≡ true → x ≡ y
  same_term v w e =
      (encode_prefix (arity arities) (no_leaf arities) x y [] [] v w
      (ap (λ (l : List ℕ). l ++ []) (compare_same (encode x) (encode y) (is_equal_lem _ e)))).0

  pub other_term : is_equal (compare_bytes (encode x) (encode y)) ≡ false → x ≢ y
  other_term e q =
      let p : is_equal (compare_bytes (encode x) (encode y)) ≡ true =
      ap (λ (z : Term). is_equal (compare_bytes (encode x) (encode z))) (sym q) ∙ ap is_equal (compare_refl (encode x)) in
      clash (cc)

-- a term lies within the slice
pub here_within : {arities src : List ℕ} {at e : ℕ} (t : Term) → Here arities src at e t → (at < e) × (e ≤ length src)
here_within t h = (omega (arith, h.stands.ends, encode_some t), stands_within h.stands (encode_some t))
