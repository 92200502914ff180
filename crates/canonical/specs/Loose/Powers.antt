-- What is made of the base of an exp gives the powers that its canonical form does, whatever exponents stand behind it.
use Rattle.std.specs.Prelude.{ℕ, ◌≡◌}
use Rattle.std.proofs.Math.Path.{sym, ap, ap₂}
use Rattle.std.proofs.Common.{◌∙◌}
use Rattle.std.specs.Prelude.{Option}
use Rattle.term.specs.Tags.{exp_tag}
use Rattle.term.specs.Term.{Term, Terms, nil, ◌&◌, Formed, Formeds}
use Rattle.message.specs.Functions.{exp, mul}
use Rattle.message.specs.Equations.{figure, equation, exp_exp}
use Rattle.message.specs.Canonical.{CanonicalBy}
use Rattle.message.specs.Product.{Exps, empty, chain, build}
use Rattle.message.specs.Rules.{FitArities, Theory, Irreducible}
use Rattle.message.specs.Table.{rules}
use Rattle.message.proofs.Table.Laws.{theory}
use Rattle.message.specs.Parts.{add, parts, sums}
use Rattle.message.proofs.Parts.Ascending.{sums_asc}
use Rattle.message.specs.Parts.Entries.{sums_atoms}
use Rattle.message.proofs.Parts.Laws.{formed_sums, parts_build}
use Rattle.message.specs.Canon.{Binary, binary, as_binary, base_of, expo_of, raise, apply_exp, apply, canon}
use Rattle.message.proofs.Canon.Canonical.{base_no_exp}
use Rattle.message.specs.Canon.Views.{AsBinary, is_binary, is_not, binary_view}
use Rattle.message.proofs.Theorems.{same_canon, canon_is_canonical, canonical_stays, canon_is_formed}
use Rattle.message.specs.Gather.{powered, raised}
use Rattle.message.proofs.Made.{made_exp}
use Rattle.product.specs.Powers.{powered_chain, chain_formed}
use Rattle.product.specs.Tower.{bottom, exponents}
use Rattle.product.specs.Tower.Laws.{bottom_exp, exponents_exp, bottom_other, exponents_other, no_exp}

module _ (ar : ℕ → Option ℕ) (g : FitArities ar) where
  abbrev σ : Theory
  σ = theory ar g

  -- u in the place of the canonical c: the tower of u and of exponents with the factors of the canonical m is c to the power m
  abbrev pub SamePowers : Term → Term → Type 0
  SamePowers u c =
      (t : Term) (us : Terms) (m : Term) → Formeds ar (t & us) → Formed ar m → canon m ≡ m → parts m ≡ parts (chain t us)
      → powered (bottom u) (exponents u (t & us)) ≡ apply_exp c m

  -- ── the canonical form in its own place ──
  powers_at :
      (t : Term) (us : Terms) (c : Term) (o : Binary) → AsBinary 10 c o → Formed ar c → CanonicalBy (Irreducible rules) c
      → powered (bottom c) (exponents c (t & us)) ≡ raised o c (chain t us)
  unfolding raised
  powers_at t us c o (is_not n) w k =
      let h = no_exp ar g c w n in
      ap₂ powered (bottom_other c h) (exponents_other c (t & us) h) ∙ powered_chain t us c
  powers_at t us c o (is_binary b e) w k =
      let h = no_exp ar g b w.1.0 (base_no_exp σ (exp b e) (binary b e) (is_binary b e) w k) in
      ap₂ powered (bottom_exp b e ∙ bottom_other b h) (exponents_exp b e (t & us) ∙ exponents_other b (e & (t & us)) h)
      ∙ powered_chain e (t & us) b
      ∙ sym (powered_chain e (chain t us & nil) b)

  pub powers_own : (c : Term) → Formed ar c → CanonicalBy (Irreducible rules) c → SamePowers c c
  unfolding apply
  powers_own c w k t us m ws wm f p =
      let o = as_binary exp_tag c in
      powers_at t us c o (binary_view exp_tag c) w k
      ∙ sym (made_exp ar g c (chain t us) w (chain_formed ar g t us ws))
      ∙ ap (λ (l : Exps). raise (base_of o c) (add (expo_of o) l)) (sym p)

  -- ── an exp: its exponent stands before those behind ──
  module _ (c d m : Term) (wc : Formed ar c) (wd : Formed ar d) (wm : Formed ar m) (fc : canon c ≡ c) (fd : canon d ≡ d) (fm : canon m ≡ m) where
    product_formed : Formed ar (mul d m)
    product_formed = (g.mul_arity, (wd, (wm, tt)))

    product_parts : parts (canon (mul d m)) ≡ sums (d & m & nil)
    unfolding apply
    product_parts =
        ap₂ (λ (x y : Term). parts (build (sums (x & y & nil)))) fd fm
        ∙ parts_build σ (sums (d & m & nil)) (formed_sums σ (d & m & nil) (wd, (wm, tt))) (sums_atoms (d & m & nil)) (sums_asc (d & m & nil))

    -- figure 2's equation of towers
    tower_is : apply_exp c (canon (mul d m)) ≡ apply_exp (apply_exp c d) m
    unfolding apply
    tower_is =
        let v : Formed ar (exp (exp c d) m) = (g.exp_arity, ((g.exp_arity, (wc, (wd, tt))), (wm, tt))) in
        let w : Formed ar (exp c (mul d m)) = (g.exp_arity, (wc, (product_formed, tt))) in
        ap (λ (x : Term). apply_exp x (canon (mul d m))) (sym fc)
        ∙ sym ((same_canon ar g (exp (exp c d) m) (exp c (mul d m)) v w).0 (equation v w (figure (exp_exp c d m))))
        ∙ ap₂ (λ (x y : Term). apply_exp (apply_exp x y) (canon m)) fc fd
        ∙ ap (apply_exp (apply_exp c d)) fm

  pub powers_exp :
      (u v c d : Term) → SamePowers u c → Formed ar v → parts v ≡ parts d → Formed ar c → Formed ar d → canon c ≡ c → canon d ≡ d
      → SamePowers (exp u v) (apply_exp c d)
  powers_exp u v c d k wv e wc wd fc fd t us m ws wm fm p =
      let w = product_formed c d m wc wd wm fc fd fm in
      let n : Term = canon (mul d m) in
      let wn = canon_is_formed ar g (mul d m) w in
      ap₂ powered (bottom_exp u v) (exponents_exp u v (t & us))
      ∙ k v (t & us) n (wv, ws) wn (canonical_stays ar g n wn (canon_is_canonical ar g (mul d m) w))
      (product_parts c d m wc wd wm fc fd fm ∙ ap₂ (λ (x y : Exps). add x (add y empty)) (sym e) p)
      ∙ tower_is c d m wc wd wm fc fd fm
