-- The symbols of a term with the values filled in, added up symbol by symbol: a variable weighs as much as its value, everything else one.
use Prim.Native.Nat.{ℕ, zero, suc, ◌+◌, ◌-◌, ◌≤◌, ◌<◌}
use mathlib.Core.List.{List, [], ◌∷◌, ◌++◌}
use Rattle.std.specs.Prelude.{Bool, true, false, ◌≡◌, length, get_or, ltb, Option, Some, None}
use Rattle.std.proofs.Math.Path.{refl, ap, ap₂, sym}
use Rattle.std.proofs.Common.{◌∙◌, lt-ltb, le-ltb}
use native.Mathlib.Omega.{arith}
use Rattle.steps.specs.Values.{most_filled_in}
use Rattle.lists.specs.Choice.{clash}
use Rattle.octets.specs.Head.{Bytes}
use Rattle.number.specs.Reading.{got, fault, many}
use Rattle.number.specs.Reading.Laws.{cut_got, then_got}
use Rattle.number.specs.Reading.Many.{many_split}
use Rattle.term.specs.Term.{Kind, variable, public, fresh, Term, leaf, app, Terms, nil, ◌&◌, symbols, symbolss}
use Rattle.term.specs.Reader.{terms, kind_of, symbol_at, build, term}
use Rattle.term.specs.Reader.Laws.{term_build, leaf_ahead, op_ahead}
use Rattle.term.specs.declared.Symbol.{Symbol}
use Rattle.term.specs.declared.Symbol.TheVariants as sy
use Rattle.message.specs.Substitution.{sub, subs}

-- ── weights ──
abbrev pub leaf_weight : (ℕ → ℕ) → Kind → ℕ → ℕ
leaf_weight w variable n = w n
leaf_weight w public n = 1
leaf_weight w fresh n = 1

abbrev mutual
  pub weigh : (ℕ → ℕ) → Term → ℕ
  weigh w (leaf k n) = leaf_weight w k n
  weigh w (app f ts) = suc (weighs w ts)

  pub weighs : (ℕ → ℕ) → Terms → ℕ
  weighs w nil = 0
  weighs w (t & ts) = weigh w t + weighs w ts

abbrev pub total : (ℕ → ℕ) → List Term → ℕ
total w [] = 0
total w (t ∷ ts) = weigh w t + total w ts

-- it is the filled-in term's symbols
mutual
  pub weigh_filled : (θ : ℕ → Term) (t : Term) → weigh (λ v. symbols (θ v)) t ≡ symbols (sub θ t)
  weigh_filled θ (leaf variable n) = refl
  weigh_filled θ (leaf public n) = refl
  weigh_filled θ (leaf fresh n) = refl
  weigh_filled θ (app f ts) = ap suc (weighs_filled θ ts)

  weighs_filled : (θ : ℕ → Term) (ts : Terms) → weighs (λ v. symbols (θ v)) ts ≡ symbolss (subs θ ts)
  weighs_filled θ nil = refl
  weighs_filled θ (t & ts) = ap₂ ◌+◌ (weigh_filled θ t) (weighs_filled θ ts)

total_append : (w : ℕ → ℕ) (ts us : List Term) → total w (ts ++ us) ≡ total w ts + total w us
total_append w [] us = omega arith
total_append w (t ∷ ts) us = omega (arith, total_append w ts us)

total_terms : (w : ℕ → ℕ) (ts : List Term) → weighs w (terms ts) ≡ total w ts
total_terms w [] = refl
total_terms w (t ∷ ts) = ap (λ (n : ℕ). weigh w t + n) (total_terms w ts)

-- ── one symbol: its weight, how many terms it takes, the place behind it ──
abbrev pub weight_of : (ℕ → ℕ) → Option Symbol → Option (ℕ × ℕ × ℕ)
weight_of w (Some (sy.Leaf t n e)) = Some (leaf_weight w (kind_of t) n, 0, e)
weight_of w (Some (sy.Op t k e)) = Some (1, k, e)
weight_of w None = None

weight_parts : {a b k l d e : ℕ} → ◌≡◌ {A = Option (ℕ × ℕ × ℕ)} (Some (a, k, d)) (Some (b, l, e)) → (a ≡ b) × (k ≡ l) × (d ≡ e)
weight_parts h = grind arith

-- weights are small if the values' are
pub weight_small : (w : ℕ → ℕ) (b : ℕ) → 1 ≤ b → ((v : ℕ) → w v ≤ b) → (y : Option Symbol) {a k e : ℕ} → weight_of w y ≡ Some (a, k, e) → a ≤ b
weight_small w b l small (Some (sy.Leaf t n d)) {a} {k} {e} h = let q : leaf_weight w (kind_of t) n ≡ a = grind arith in omega (arith, go (kind_of t))
  where
    go : (j : Kind) → leaf_weight w j n ≤ b
    go variable = small n
    go public = l
    go fresh = l
weight_small w b l small (Some (sy.Op t n d)) {a} {k} {e} h = let q : 1 ≡ a = grind arith in omega arith
weight_small w b l small None h = clash (cc)

-- the sizes of the values as a table
abbrev pub size_in : List ℕ → ℕ → ℕ
size_in sizes v = get_or sizes v 1

-- ── the test of cause 8, and what code answers of it ──
abbrev pub term_small : (ℕ → ℕ) → Term → Bool
term_small w t = ltb (weigh w t) (suc most_filled_in)

-- small enough, with the place behind it; or not
abbrev pub small_to : Bool → ℕ → Option ℕ
small_to true e = Some e
small_to false e = None

pub upto : (b : Bool) (e d : ℕ) → Some d ≡ small_to b e → (true ≡ b) × (d ≡ e)
upto true e d h = (refl, cc)
upto false e d h = clash (cc)

pub big : (b : Bool) (e : ℕ) → None ≡ small_to b e → false ≡ b
big true e h = clash (cc)
big false e h = refl

-- ── a walk: what was added up and what is left make the whole, and what is left ends where the whole ends ──
module _ (file arities : List ℕ) (w : ℕ → ℕ) (t : Term) (end : ℕ) where
  pub record Going (sum pending i : ℕ) : Type 0 where
    pub rest : List Term
    pub reads : many (term file arities) pending i ≡ got rest end
    pub adds : sum + total w rest ≡ weigh w t

  pub going_starts : (at : ℕ) → term file arities at ≡ got t end → Going 0 1 at
  unfolding many
  going_starts at h = record { rest = t ∷ []; reads = then_got (term file arities at) _ h; adds = omega arith }

  pub going_ends : (sum pending i : ℕ) → pending ≤ 0 → sum ≤ most_filled_in → Going sum pending i → Some i ≡ small_to (term_small w t) end
  unfolding many
  going_ends sum (suc n) i z l g = absurd (omega arith)
  going_ends sum zero i z l g =
      let r : [] ≡ g.rest = (let q = g.reads in cc) in
      let b : i ≡ end = (let q = g.reads in cc) in
      ap₂ small_to (sym (lt-ltb (weigh w t) (suc most_filled_in) (omega (arith, g.adds, ap (total w) r)))) b

  -- what was added up is no more than the whole
  pub going_long : (sum pending i : ℕ) → Going sum pending i → most_filled_in < sum → None ≡ small_to (term_small w t) end
  going_long sum pending i g l = ap (λ (b : Bool). small_to b end) (sym (le-ltb (weigh w t) (suc most_filled_in) (omega (arith, g.adds))))

  pub record Stepped (sum pending i a k e : ℕ) : Type 0 where
    pub ahead : i < e
    pub inside : e ≤ length file
    pub going : Going (sum + a) (pending - 1 + k) e

module _ (file arities : List ℕ) (bytes : Bytes file) (w : ℕ → ℕ) (t : Term) (end : ℕ) where
  pub going_fault : {C : Type 0} (sum pending i : ℕ) → 0 < pending → Going file arities w t end sum pending i → weight_of w (symbol_at file arities i) ≡ None
      → C
  unfolding many
  going_fault sum zero i l g h = absurd (omega arith)
  going_fault sum (suc n) i l g h =
      cut_got (term file arities i) _ g.reads (λ u d hu q. go (symbol_at file arities i) refl (sym (term_build file arities bytes i) ∙ hu) h)
    where
      go : {C : Type 0} {u : Term} {d : ℕ} (y : Option Symbol) → symbol_at file arities i ≡ y → build (term file arities) (symbol_at file arities i) ≡ got u d →
          weight_of w
          (symbol_at file arities i) ≡ None → C
      go (Some (sy.Leaf f m b)) y hu h = let q : Some (leaf_weight w (kind_of f) m, 0, b) ≡ None = sym (ap (weight_of w) y) ∙ h in clash (cc)
      go (Some (sy.Op f m b)) y hu h = let q : Some (1, m, b) ≡ None = sym (ap (weight_of w) y) ∙ h in clash (cc)
      go {C} {u} {d} None y hu h = let q : fault ≡ got u d = sym (ap (build (term file arities)) y) ∙ hu in clash (cc)

  pub going_more : (sum pending i a k e : ℕ) → 0 < pending → Going file arities w t end sum pending i → weight_of w (symbol_at file arities i) ≡ Some (a, k, e) →
      Stepped file
      arities w t end sum pending i a k e
  unfolding many
  going_more sum zero i a k e l g h = absurd (omega arith)
  going_more sum (suc n) i a k e l g h =
      cut_got (term file arities i) _ g.reads (λ u d hu q. cut_got (many (term file arities) n d) _ q (λ us c hus q.
      let r : u ∷ us ≡ g.rest = cc in
      let b : c ≡ end = cc in
      let z : sum + (weigh w u + total w us) ≡ weigh w t = ap (λ (l : List Term). sum + total w l) r ∙ g.adds in
      go (symbol_at file arities i) refl u d us (sym (term_build file arities bytes i) ∙ hu) (hus ∙ ap (got us) b) z h))
    where
      go : (y : Option Symbol) → symbol_at file arities i ≡ y → (u : Term) (d : ℕ) (us : List Term) → build (term file arities) (symbol_at file arities i) ≡ got
          u d
          → many (term file arities) n d ≡ got us end → sum + (weigh w u + total w us) ≡ weigh w t → weight_of w (symbol_at file arities i) ≡ Some (a, k, e) →
          Stepped file
          arities w t end sum (suc n) i a k e
      go (Some (sy.Leaf f m b)) y u d us hu hus z h =
          let p : got (leaf (kind_of f) m) b ≡ got u d = sym (ap (build (term file arities)) y) ∙ hu in
          let q : Some (leaf_weight w (kind_of f) m, 0, b) ≡ Some (a, k, e) = sym (ap (weight_of w) y) ∙ h in
          let pu : leaf (kind_of f) m ≡ u = cc in
          let pd : b ≡ d = cc in
          let g = weight_parts q in
          let qa : leaf_weight w (kind_of f) m ≡ a = g.0 in
          let qk : 0 ≡ k = g.1 in
          let qe : b ≡ e = g.2 in
          let x = leaf_ahead file arities bytes i f m b y in
          let j : suc n - 1 + k ≡ n = omega arith in
          let de : e ≡ d = sym qe ∙ pd in
          record {
            ahead = omega (arith, x.after);
            inside = omega (arith, x.within);
            going = record {
              rest = us;
              reads = ap₂ (λ (o b : ℕ). many (term file arities) o b) j de ∙ hus;
              adds = omega (arith, ap (weigh w) pu);
            };
          }
      go (Some (sy.Op f m b)) y u d us hu hus z h =
          cut_got (many (term file arities) m b) _ (sym (ap (build (term file arities)) y) ∙ hu) (λ vs o hvs p.
          let q : Some (1, m, b) ≡ Some (a, k, e) = sym (ap (weight_of w) y) ∙ h in
          let pu : app f (terms vs) ≡ u = cc in
          let pd : o ≡ d = cc in
          let g = weight_parts q in
          let qa : 1 ≡ a = g.0 in
          let qk : m ≡ k = g.1 in
          let qe : b ≡ e = g.2 in
          let x = op_ahead file arities bytes i f m b y in
          let j : suc n - 1 + k ≡ n + m = omega arith in
          record {
            ahead = omega (arith, x.after);
            inside = omega (arith, x.within);
            going = record {
              rest = vs ++ us;
              reads =
                  ap₂ (λ (o b : ℕ). many (term file arities) o b) j (sym qe) ∙ many_split (term file arities) n m (n + m) b refl
                  ∙ then_got (many (term file arities) m b) _ hvs
                  ∙ then_got (many (term file arities) n o) _ (ap (many (term file arities) n) pd ∙ hus);
              adds = omega (arith, ap (weigh w) pu, total_terms w vs, total_append w vs us);
            };
          })
      go None y u d us hu hus z h = let q : None ≡ Some (a, k, e) = sym (ap (weight_of w) y) ∙ h in clash (cc)
