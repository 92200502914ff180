-- The walk gathers the factors of a term.
use Rattle.std.specs.Prelude.{ℕ, ◌+◌, ◌≤◌, ◌<◌, ◌≡◌, Bool, not, List, length, drop, get_or}
use Rattle.std.proofs.Math.Path.{refl}
use Rattle.std.proofs.Common.{ap, sym, ◌∙◌, subst, arith, length-append, eq-eqb, ne_eqb}
use Rattle.std.specs.Prelude.{Option, Some, None}
use Rattle.std.proofs.Math.Decide.{dec_lt}
use Rattle.term.specs.Tags.{one_tag, inv_tag, mul_tag}
use Rattle.lists.specs.Asks.{Asks₂}
use Rattle.lists.specs.Choice.{cut_eq, clash}
use Rattle.number.specs.Groups.{groups, most_groups}
use Rattle.number.specs.Groups.Laws.{groups_some}
use Rattle.number.specs.Reading.{got, fault, read_number}
use Rattle.number.specs.Reading.Numbers.{number_in, now_one, now_end}
use Rattle.term.specs.declared.Symbol.TheVariants as sy
use Rattle.term.specs.Arity.{undeclared, arity}
use Rattle.term.specs.Arity.Laws.{arity_none, arity_some, slot_inside, slot_outside}
use Rattle.term.specs.Term.{Term, leaf, app, Terms, nil, ◌&◌, tag_of, count, encode, encodes, symbols, symbolss}
use Rattle.term.specs.Reader.{symbol_at, name_at, op_at}
use Rattle.term.specs.Reader.Laws.{symbol_leaf, symbol_op}
use Rattle.term.specs.Reader.Exact.{symbol_of_leaf, symbol_of_app}
use Rattle.message.specs.Product.{Exps}
use Rattle.message.specs.Gather.{enter, sign, pour, pours}
use Rattle.message.specs.Gather.Laws.{pour_one, pour_mul, pour_inv, pour_factor}
use Rattle.factors.specs.declared.Way.TheVariants as way
use Rattle.factors.specs.Laid.{Laid, OneAt, also}
use Rattle.factors.specs.Laid.Laws.{args_of, one_after, one_within}
use Rattle.factors.specs.Way.{way_at, way_of}

-- ── at each function ──
module _ (f k e : ℕ) where
  pub way_one : f ≡ one_tag → way.On k e ≡ way_at f k e
  way_one h = simp (eq-eqb f 3 h)

  pub way_mul : (f ≡ one_tag → ⊥) → f ≡ mul_tag → way.On k e ≡ way_at f k e
  way_mul a h = simp (ne_eqb f 3 a, eq-eqb f 12 h)

  pub way_inv : (f ≡ one_tag → ⊥) → (f ≡ mul_tag → ⊥) → f ≡ inv_tag → way.Turn k e ≡ way_at f k e
  way_inv a b h = simp (ne_eqb f 3 a, ne_eqb f 12 b, eq-eqb f 11 h)

  pub way_other : (f ≡ one_tag → ⊥) → (f ≡ mul_tag → ⊥) → (f ≡ inv_tag → ⊥) → way.Factor ≡ way_at f k e
  way_other a b c = simp (ne_eqb f 3 a, ne_eqb f 12 b, ne_eqb f 11 c)

-- ── at a term that stands there ──
-- a term that is gone into: its arguments, and that they have its factors
pub record GoneInto (arities src : List ℕ) (at : ℕ) (minus m : Bool) (c next : ℕ) (t : Term) : Type 0 where
  pub args : Terms
  pub laid : Laid arities src next args
  pub many : count args ≡ c
  pub ends : next + length (encodes args) ≡ at + length (encode t)
  pub after : at < next
  pub fewer : symbolss args ≤ symbols t
  pub same : (l : Exps) → pour minus t l ≡ pours m args l

module _ {arities src : List ℕ} {at e : ℕ} where
  -- what the walk does at a term
  way_leaf : (k : _) (n : ℕ) → OneAt arities src at e (leaf k n) → way_of (symbol_at src arities at) ≡ way.Leaf (at + length (encode (leaf k n)))
  way_leaf k n O = ap way_of (symbol_of_leaf src arities k n at (drop e src) O.range O.there.there)

  way_app :
      (f : ℕ) (ts : Terms) → OneAt arities src at e (app f ts)
      → way_of (symbol_at src arities at) ≡ way_at f (count ts) (at + length (groups f))
  way_app f ts O =
      ap way_of (symbol_of_app src arities f ts at (drop e src) O.formed.0 O.range.0 O.there.there)

  -- ── it is gone into ──
  module _ (minus : Bool) (c next : ℕ) where
    entered_at :
        (f : ℕ) (ts : Terms) (w : Bool) → OneAt arities src at e (app f ts) → ((l : Exps) → pour minus (app f ts) l ≡ pours w ts l)
        → at + length (groups f) ≡ next → count ts ≡ c → GoneInto arities src at minus w c next (app f ts)
    entered_at f ts w O same a b =
        record {
          args = ts;
          laid = subst (λ (n : ℕ). Laid arities src n ts) a (args_of O);
          many = b;
          ends = omega (arith, length-append (groups f) (encodes ts));
          after = omega (arith, groups_some f);
          fewer = omega arith;
          same = same;
        }

    pub way_on : (t : Term) → OneAt arities src at e t → way_of (symbol_at src arities at) ≡ way.On c next → GoneInto arities src at minus minus c next t
    way_on (leaf k n) O h = let z : way.Leaf (at + length (encode (leaf k n))) ≡ way.On c next = sym (way_leaf k n O) ∙ h in clash (cc)
    way_on (app f ts) O h =
        cut_eq _ _ _ f 3 (sym (way_app f ts O) ∙ h)
        (λ q h. entered_at f ts minus O (λ l. ap (λ (g : ℕ). pour minus (app g ts) l) q ∙ pour_one minus ts l) (cc) (cc))
        (λ q h. cut_eq _ _ _ f 12 h
        (λ q h. entered_at f ts minus O (λ l. ap (λ (g : ℕ). pour minus (app g ts) l) q ∙ pour_mul minus ts l) (cc) (cc))
        (λ q h. cut_eq _ _ _ f 11 h (λ q h. clash (cc)) (λ q h. clash (cc))))

    pub way_turn :
        (t : Term) → OneAt arities src at e t → way_of (symbol_at src arities at) ≡ way.Turn c next → GoneInto arities src at minus (not minus) c next t
    way_turn (leaf k n) O h = let z : way.Leaf (at + length (encode (leaf k n))) ≡ way.Turn c next = sym (way_leaf k n O) ∙ h in clash (cc)
    way_turn (app f ts) O h =
        cut_eq _ _ _ f 3 (sym (way_app f ts O) ∙ h)
        (λ q h. clash (cc))
        (λ q h. cut_eq _ _ _ f 12 h
        (λ q h. clash (cc))
        (λ q h. cut_eq _ _ _ f 11 h
        (λ q h. entered_at f ts (not minus) O (λ l. ap (λ (g : ℕ). pour minus (app g ts) l) q ∙ pour_inv minus ts l) (cc) (cc))
        (λ q h. clash (cc))))

  -- ── it is a factor ──
  pub way_end :
      (z : ℕ) (t : Term) → OneAt arities src at e t → way_of (symbol_at src arities at) ≡ way.Leaf z → z ≡ at + length (encode t)
  way_end z (leaf k n) O h = let q : way.Leaf (at + length (encode (leaf k n))) ≡ way.Leaf z = sym (way_leaf k n O) ∙ h in cc
  way_end z (app f ts) O h =
      cut_eq _ _ _ f 3 (sym (way_app f ts O) ∙ h)
      (λ q h. clash (cc))
      (λ a h. cut_eq _ _ _ f 12 h (λ q h. clash (cc)) (λ b h. cut_eq _ _ _ f 11 h (λ q h. clash (cc)) (λ c h. clash (cc))))

  module _ (minus : Bool) where
    pub way_name :
        (z : ℕ) (t : Term) → OneAt arities src at e t → way_of (symbol_at src arities at) ≡ way.Leaf z
        → (l : Exps) → pour minus t l ≡ enter t (sign minus) l
    unfolding pour
    way_name z (leaf k n) O h l = refl
    way_name z (app f ts) O h l =
        cut_eq _ _ _ f 3 (sym (way_app f ts O) ∙ h)
        (λ q h. clash (cc))
        (λ a h. cut_eq _ _ _ f 12 h (λ q h. clash (cc)) (λ b h. cut_eq _ _ _ f 11 h (λ q h. clash (cc)) (λ c h. clash (cc))))

    pub way_factor :
        (t : Term) → OneAt arities src at e t → way_of (symbol_at src arities at) ≡ way.Factor
        → (l : Exps) → pour minus t l ≡ enter t (sign minus) l
    unfolding pour
    way_factor (leaf k n) O h l = refl
    way_factor (app f ts) O h l =
        cut_eq _ _ _ f 3 (sym (way_app f ts O) ∙ h)
        (λ q h. clash (cc))
        (λ a h. cut_eq _ _ _ f 12 h
        (λ q h. clash (cc))
        (λ b h. cut_eq _ _ _ f 11 h
        (λ q h. clash (cc))
        (λ c h. pour_factor minus ts l f a c b)))

-- ── the factors of some terms and of others behind them ──
pub also_pours : (m : Bool) (ts us : Terms) (l : Exps) → pours m (also ts us) l ≡ pours m us (pours m ts l)
unfolding pour
also_pours m nil us l = refl
also_pours m (t & ts) us l = also_pours m ts us (pour m t l)

-- ── the symbols that are told by their bytes ──
module _ (arities src : List ℕ) where
  -- a byte that is a whole number
  number_one : (at : ℕ) → at < length src → get_or src at 0 < 128 → read_number src at ≡ got (get_or src at 0) (at + 1)
  number_one at inside h = sym (number_in src at) ∙ now_one src at most_groups (λ z. omega arith) inside h

  number_end : (at : ℕ) → length src ≤ at → read_number src at ≡ fault
  number_end at h = sym (number_in src at) ∙ now_end src at most_groups h

  module _ (at : ℕ) where
    -- where a term stands is a symbol
    no_fault : {e : ℕ} (t : Term) → OneAt arities src at e t → symbol_at src arities at ≡ None → ⊥
    no_fault {e} (leaf k n) O h =
        let z : Some (sy.Leaf (tag_of k) n (at + length (encode (leaf k n)))) ≡ None =
        sym (symbol_of_leaf src arities k n at (drop e src) O.range O.there.there) ∙ h in clash (cc)
    no_fault {e} (app f ts) O h =
        let z : Some (sy.Op f (count ts) (at + length (groups f))) ≡ None =
        sym (symbol_of_app src arities f ts at (drop e src) O.formed.0 O.range.0 O.there.there) ∙ h in clash (cc)

    module _ (J : Asks₂ (OneAt arities src at)) where
      pub there_inside : at < length src
      there_inside = omega (arith, one_after J.2, one_within J.2)

      -- ── mul ──
      module _ (m : get_or src at 0 ≡ 12) where
        mul_symbol : symbol_at src arities at ≡ op_at 12 (arity arities 12) (at + 1)
        mul_symbol = symbol_op src arities at (number_one at there_inside (omega arith) ∙ ap (λ (b : ℕ). got b (at + 1)) m) (omega arith)

        mul_declared : get_or arities 12 undeclared ≡ undeclared → ⊥
        mul_declared u = no_fault J.1 J.2 (mul_symbol ∙ ap (λ (o : Option ℕ). op_at 12 o (at + 1)) (arity_none arities 12 u))

        mul_slot : 12 < length arities
        mul_slot = elim (dec_lt 12 (length arities)) [ yes p ↦ p | no p ↦ absurd (mul_declared (sym (slot_outside arities 12 (omega arith)))) ]

        pub there_mul : way.On (get_or arities 12 0) (at + 1) ≡ way_of (symbol_at src arities at)
        there_mul =
            let k : op_at 12 (arity arities 12) (at + 1) ≡ Some (sy.Op 12 (get_or arities 12 undeclared) (at + 1)) =
            ap (λ (o : Option ℕ). op_at 12 o (at + 1)) (arity_some arities 12 (omega arith) mul_declared) in
            ap (λ (n : ℕ). way.On n (at + 1)) (slot_inside arities 12 mul_slot) ∙ sym (ap way_of (mul_symbol ∙ k))

      -- ── a leaf ──
      module _ (l : get_or src at 0 < 3) where
        name_symbol : symbol_at src arities at ≡ name_at (get_or src at 0) (read_number src (at + 1))
        name_symbol = symbol_leaf src arities at (number_one at there_inside (omega arith)) l

        -- its number stands behind it
        pub name_inside : at + 1 < length src
        name_inside = elim (dec_lt (at + 1) (length src)) [
          | yes p ↦ p
          | no p ↦ absurd (no_fault J.1 J.2 (name_symbol ∙ ap (name_at (get_or src at 0)) (number_end (at + 1) (omega arith))))
        ]

        -- and is one byte, or more
        pub name_there : get_or src (at + 1) 0 < 128 → symbol_at src arities at ≡ Some (sy.Leaf (get_or src at 0) (get_or src (at + 1) 0) (at + 1 + 1))
        name_there h = name_symbol ∙ ap (name_at (get_or src at 0)) (number_one (at + 1) name_inside h)

        pub there_name : get_or src (at + 1) 0 < 128 → way.Leaf (at + 2) ≡ way_of (symbol_at src arities at)
        there_name h = ap way.Leaf (omega arith) ∙ sym (ap way_of (name_there h))
