-- The classes of one place more: it has a name, an earlier place has its key, or it is the first that has it.
use Rattle.std.specs.Prelude.{ℕ, zero, suc, ◌+◌, ◌≤◌, ◌<◌, List, ◌↔◌, ◌≡◌, refl, length, get_or, set}
use Rattle.std.proofs.Common.{ap, sym, ◌∙◌, subst, arith, length-set, get_or-set_same, get_or-set_other}
use Rattle.lists.specs.Choice.{by_order}
use Rattle.trace.specs.Tables.{base}
use Rattle.trace.specs.Chains.{chain_of, HeadsBehind, InChain, here, later, Falls, Marked, Classed}
use Rattle.trace.specs.Chains.Laws.{chain_kept}

by_test : {C : Type 0} (i j : ℕ) → (i ≡ j → C) → ((i ≡ j → ⊥) → C) → C
by_test i j f g = by_order i j (λ a. g (λ z. omega arith)) f (λ a. g (λ z. omega arith))

module _ {K : Type 0} (key : ℕ → K) (raw : List ℕ) where
  -- ── at the start ──
  pub classed_none : (chains : List ℕ) → ((i : ℕ) → get_or chains i 0 ≡ 0) → Classed key raw raw chains 0
  classed_none chains none = record {
    kept = λ q l. refl;
    named = λ q l. refl;
    low = λ q l k. absurd (omega arith);
    same = λ q r l. absurd (omega arith);
    sound = λ i r e. absurd (omega (arith, none i, e));
    falls = λ r. omega (arith, none r);
    found = λ q l. absurd (omega arith);
  }

  module _ {classes chains : List ℕ} {m : ℕ} (c : Classed key raw classes chains m) where
    -- ── a place that has a name, or none ──
    pub classed_past : base ≤ get_or raw m 0 → Classed key raw classes chains (m + 1)
    classed_past h = record {
      kept = λ q l. c.kept q (omega arith);
      named = c.named;
      low = λ q l k. c.low q (less q l k) k;
      same = λ q r l n k j. c.same q r (less q l k) (less r n j) k j;
      sound = λ i r e. let s = c.sound i r e in (omega (arith, s.0), s.1);
      falls = c.falls;
      found = λ q l k. c.found q (less q l k) k;
    }
      where
        less : (q : ℕ) → q < m + 1 → Marked raw q → q < m
        less q l k = by_order q m (λ a. a) (λ a. absurd (omega (arith, ap (λ (i : ℕ). get_or raw i 0) a, k, h))) (λ a. absurd (omega arith))

    pub head_low : (i : ℕ) → get_or chains i 0 ≤ m
    head_low i = go (get_or chains i 0) refl
      where
        go : (h : ℕ) → get_or chains i 0 ≡ h → h ≤ m
        go zero e = omega arith
        go (suc r) e = omega (arith, (c.sound i r e).0)

    module _ (room : m < length classes) (marked : Marked raw m)
        (marks : (q r : ℕ) → q < m + 1 → r < m + 1 → Marked raw q → Marked raw r → key q ≡ key r → get_or raw q 0 ≡ get_or raw r 0) where
      -- ── an earlier place has its key ──
      module _ (r : ℕ) (less : r < m) (is : Marked raw r) (eq : key r ≡ key m) where
        abbrev classes₁ : List ℕ
        classes₁ = set classes m (get_or classes r 0)

        -- each place goes by one before it
        record By (q : ℕ) : Type 0 where
          at : ℕ
          at_less : at < m
          at_low : at ≤ q
          at_marked : Marked raw at
          class : get_or classes₁ q 0 ≡ get_or classes at 0
          keys : key q ≡ key at

        by : (q : ℕ) → q < m + 1 → Marked raw q → By q
        by q l k =
            by_order q m
            (λ a. record { at = q; at_less = a; at_low = omega arith; at_marked = k; class = get_or-set_other classes m q _ 0 (λ z. omega arith); keys = refl })
            (λ a. record {
              at = r;
              at_less = less;
              at_low = omega arith;
              at_marked = is;
              class = ap (λ (i : ℕ). get_or classes₁ i 0) a ∙ get_or-set_same classes m _ 0 room;
              keys = ap key a ∙ sym eq;
            })
            (λ a. absurd (omega arith))

        pub classed_same : Classed key raw classes₁ chains (m + 1)
        classed_same = record {
          kept = λ q l. get_or-set_other classes m q _ 0 (λ z. omega arith) ∙ c.kept q (omega arith);
          named = λ q l. get_or-set_other classes m q _ 0 (λ z. absurd (omega (arith, ap (λ (i : ℕ). get_or raw i 0) z, marked, l))) ∙ c.named q l;
          low = λ q l k. let b = by q l k in omega (arith, b.class, c.low b.at b.at_less b.at_marked, b.at_low);
          same = λ q s l n k j.
              let a = by q l k in
              let b = by s n j in
              let w = c.same a.at b.at a.at_less b.at_less a.at_marked b.at_marked in (
                λ e. a.keys ∙ w.0 (sym a.class ∙ e ∙ b.class) ∙ sym b.keys,
                λ e. a.class ∙ w.1 (sym a.keys ∙ e ∙ b.keys) ∙ sym b.class,
              );
          sound = λ i q e. let s = c.sound i q e in (omega (arith, s.0), s.1);
          falls = c.falls;
          found = λ q l k. leader q l k (by q l k);
        }
          where
            leader : (q : ℕ) → q < m + 1 → Marked raw q → By q → (l : ℕ) × (key l ≡ key q) × InChain chains
                (get_or chains (chain_of (length chains) (get_or raw q 0)) 0) l
            leader q b k a =
                let (l, e, i) = c.found a.at a.at_less a.at_marked in (
                  l,
                  e ∙ sym a.keys,
                  subst (λ (h : ℕ). InChain chains (get_or chains (chain_of (length chains) h) 0) l)
                      (marks a.at q (omega (arith, a.at_less)) b a.at_marked k (sym a.keys)) i,
                )

      -- ── none has it ──
      module _ (new : (q : ℕ) → q < m → Marked raw q → key q ≡ key m → ⊥) (behind : HeadsBehind (length chains) (m + 1)) where
        abbrev chain : ℕ
        chain = chain_of (length chains) (get_or raw m 0)

        abbrev head : ℕ
        head = get_or chains chain 0

        abbrev classes₂ : List ℕ
        classes₂ = set classes m m

        abbrev chains₁ : List ℕ
        chains₁ = set chains m head

        abbrev chains₂ : List ℕ
        chains₂ = set chains₁ chain (m + 1)

        chain_behind : m < chain
        chain_behind = omega (arith, (behind (get_or raw m 0)).0)

        long : m < length chains
        long = omega (arith, (behind (get_or raw m 0)).1, chain_behind)

        same_size : length chains ≡ length chains₂
        same_size = sym (length-set chains₁ chain (m + 1) ∙ length-set chains m head)

        class_here : get_or classes₂ m 0 ≡ m
        class_here = get_or-set_same classes m m 0 room

        class_old : (q : ℕ) → (q ≡ m → ⊥) → get_or classes₂ q 0 ≡ get_or classes q 0
        class_old q n = get_or-set_other classes m q m 0 n

        head_new : get_or chains₂ chain 0 ≡ suc m
        head_new = get_or-set_same chains₁ chain (m + 1) 0 (omega (arith, (behind (get_or raw m 0)).1, length-set chains m head)) ∙ omega arith

        other : (i : ℕ) → (i ≡ chain → ⊥) → (i ≡ m → ⊥) → get_or chains₂ i 0 ≡ get_or chains i 0
        other i a b = get_or-set_other chains₁ chain i (m + 1) 0 a ∙ get_or-set_other chains m i head 0 b

        link_new : get_or chains₂ m 0 ≡ head
        link_new = get_or-set_other chains₁ chain m (m + 1) 0 (λ z. omega (arith, z, chain_behind)) ∙ get_or-set_same chains m head 0 long

        link_old : (r : ℕ) → r < m → get_or chains₂ r 0 ≡ get_or chains r 0
        link_old r l = other r (λ z. omega (arith, z, l, chain_behind)) (λ z. omega arith)

        kept_chain : (i l : ℕ) → InChain chains (get_or chains i 0) l → InChain chains₂ (get_or chains i 0) l
        kept_chain i l s = chain_kept chains₂ m c.falls link_old s (head_low i)

        same_new : (q r : ℕ) → q < m + 1 → r < m + 1 → Marked raw q → Marked raw r → (get_or classes₂ q 0 ≡ get_or classes₂ r 0) ↔ (key q ≡ key r)
        same_new q r l n k j =
            by_order q m
            (λ a. by_order r m
            (λ b. let w = c.same q r a b k j in (
              λ e. w.0 (sym (class_old q (λ z. omega arith)) ∙ e ∙ class_old r (λ z. omega arith)),
              λ e. class_old q (λ z. omega arith) ∙ w.1 e ∙ sym (class_old r (λ z. omega arith)),
            ))
            (λ b. (
              λ e. absurd (omega (arith, e, c.low q a k, class_old q (λ z. omega arith), ap (λ (i : ℕ). get_or classes₂ i 0) b, class_here)),
              λ e. absurd (new q a k (e ∙ ap key b)),
            ))
            (λ b. absurd (omega arith)))
            (λ a. by_order r m
            (λ b. (
              λ e. absurd (omega (arith, e, c.low r b j, class_old r (λ z. omega arith), ap (λ (i : ℕ). get_or classes₂ i 0) a, class_here)),
              λ e. absurd (new r b j (sym e ∙ ap key a)),
            ))
            (λ b. let z : q ≡ r = a ∙ sym b in ((λ e. ap key z), (λ e. ap (λ (i : ℕ). get_or classes₂ i 0) z)))
            (λ b. absurd (omega arith)))
            (λ a. absurd (omega arith))

        sound_new : (i r : ℕ) → get_or chains₂ i 0 ≡ suc r → (r < m + 1) × Marked raw r
        sound_new i r e =
            by_test i chain
            (λ a. let z : m ≡ r = omega (arith, e, ap (λ (k : ℕ). get_or chains₂ k 0) a, head_new) in (omega arith, subst (Marked raw) z marked))
            (λ a. by_test i m
            (λ b. wider r (c.sound chain r (sym link_new ∙ sym (ap (λ (k : ℕ). get_or chains₂ k 0) b) ∙ e)))
            (λ b. wider r (c.sound i r (sym (other i a b) ∙ e))))
          where
            wider : (r : ℕ) → (r < m) × Marked raw r → (r < m + 1) × Marked raw r
            wider r s = (omega (arith, s.0), s.1)

        falls_new : Falls chains₂
        falls_new r =
            by_test r chain
            (λ a. omega (arith, ap (λ (k : ℕ). get_or chains₂ k 0) a, head_new, chain_behind, a))
            (λ a. by_test r m
            (λ b. omega (arith, ap (λ (k : ℕ). get_or chains₂ k 0) b, link_new, head_low chain, b))
            (λ b. omega (arith, other r a b, c.falls r)))

        abbrev chain_at : ℕ → ℕ
        chain_at q = chain_of (length chains) (get_or raw q 0)

        found_old : (q l : ℕ) → InChain chains (get_or chains (chain_at q) 0) l → InChain chains₂ (get_or chains₂ (chain_at q) 0) l
        found_old q l i =
            by_test (chain_at q) chain
            (λ a.
            later m (ap (λ (j : ℕ). get_or chains₂ j 0) a ∙ head_new)
            (subst (λ (h : ℕ). InChain chains₂ h l) (ap (λ (j : ℕ). get_or chains j 0) a ∙ sym link_new) (kept_chain (chain_at q) l i)))
            (λ n.
            subst (λ (h : ℕ). InChain chains₂ h l) (sym (other (chain_at q) n (λ z. omega (arith, z, (behind (get_or raw q 0)).0)))) (kept_chain (chain_at q) l i))

        found_new :
            (q : ℕ) → q < m + 1 → Marked raw q → (l : ℕ) × (key l ≡ key q) × InChain chains₂ (get_or chains₂ (chain_of (length chains₂) (get_or raw q 0)) 0) l
        found_new q l k =
            subst (λ (n : ℕ). (l : ℕ) × (key l ≡ key q) × InChain chains₂ (get_or chains₂ (chain_of n (get_or raw q 0)) 0) l) same_size
            (by_order q m
            (λ a. let (x, e, i) = c.found q a k in (x, e, found_old q x i))
            (λ a. (m, sym (ap key a), here (ap (λ (i : ℕ). get_or chains₂ (chain_at i) 0) a ∙ head_new)))
            (λ a. absurd (omega arith)))

        pub classed_new : Classed key raw classes₂ chains₂ (m + 1)
        classed_new = record {
          kept = λ q l. class_old q (λ z. omega arith) ∙ c.kept q (omega arith);
          named = λ q l. class_old q (λ z. omega (arith, ap (λ (i : ℕ). get_or raw i 0) z, marked, l)) ∙ c.named q l;
          low = λ q l k.
              by_order q m
              (λ a. omega (arith, class_old q (λ z. omega arith), c.low q a k))
              (λ a. omega (arith, ap (λ (i : ℕ). get_or classes₂ i 0) a, class_here, a))
              (λ a. absurd (omega arith));
          same = same_new;
          sound = sound_new;
          falls = falls_new;
          found = found_new;
        }
