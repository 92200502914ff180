-- Between terms of document 01's functions equality is what the figure's ten equations alone make it: read aenc and adec as enc and dec, pk(k) as k,
-- and sign, verify and true as one. So read both further equations follow from the ten, and a term without the six functions reads as itself.
use Rattle.std.specs.Prelude.{ℕ, suc, ◌<◌, ◌↔◌, ◌≡◌, refl, length, ltb, eqb}
use mathlib.Core.List.{List, ◌++◌, append_assoc}
use Rattle.std.specs.Prelude.{Option, Some, None}
use Rattle.std.proofs.Math.Path.{sym, ap}
use Rattle.std.proofs.Common.{◌∙◌, ap₂, subst, subst₂, arith, length-append, lt-ltb, le-ltb, ne_eqb}
use Rattle.std.proofs.Math.ListN.{get_or, get_or-append}
use Rattle.lists.specs.Choice.{pick, by_size, by_order}
use Rattle.term.specs.Tags.{enc_tag, dec_tag, aenc_tag, adec_tag, pk_tag, most_functions}
use Rattle.term.specs.Term.{Term, leaf, app, Terms, nil, ◌&◌, count, Formed, Formeds}
use Rattle.term.specs.Arity.{undeclared, arity, builtin, signing, padded, tag_arities}
use Rattle.term.specs.Arity.Laws.{length_padded, slot_outside, arity_slot, signing_arity}
use Rattle.message.specs.Functions.{one}
use Rattle.message.specs.Equations.{Figure2, Twelve, figure, adec_aenc, verify_sign, dec_enc, fst_pair, snd_pair}
use Rattle.message.specs.Equations.{mul_assoc, mul_comm, mul_one, mul_inv, inv_inv, exp_exp, exp_one}
use Rattle.message.specs.Equations.{Congruence, equation, reflexive, symmetric, transitive, congruent, Congruences, same_none, same_more, Same}
use Rattle.message.specs.Equations.Laws.{same_formeds}
use Rattle.message.specs.Equations.Least.{Pairwise, None as no_pairs, more, IsCongruence, all_same, least}

-- document 01's own table of arities, without Change 4's six functions
unfoldable pub older_arities : List ℕ → List ℕ
older_arities free = builtin ++ padded most_functions free

-- and its equality: "the least congruence of document 003, figure 2"
abbrev pub OlderSame : List ℕ → Term → Term → Type 0
OlderSame free = Congruence (arity (older_arities free)) Figure2

-- ── how a term reads without the six ──
abbrev first : Terms → Term
first nil = one
first (t & ts) = t

abbrev plain_at : ℕ → Terms → Term
plain_at f =
    pick (ltb f aenc_tag) (app f) (pick (eqb f aenc_tag) (app enc_tag) (pick (eqb f adec_tag) (app dec_tag) (pick (eqb f pk_tag) first (λ ts. one))))

abbrev mutual
  plain : Term → Term
  plain (leaf k n) = leaf k n
  plain (app f ts) = plain_at f (plains ts)

  plains : Terms → Terms
  plains nil = nil
  plains (t & ts) = plain t & plains ts

plains_count : (ts : Terms) → count (plains ts) ≡ count ts
plains_count nil = refl
plains_count (t & ts) = ap suc (plains_count ts)

data Read : ℕ → (Terms → Term) → Type 0 where
  kept : {f : ℕ} → f < aenc_tag → Read f (app f)
  aencs : Read aenc_tag (app enc_tag)
  adecs : Read adec_tag (app dec_tag)
  pks : Read pk_tag first
  others : {f : ℕ} → Read f (λ ts. one)

kept_app : (f : ℕ) → f < 29 → plain_at f ≡ app f
kept_app f h = simp (lt-ltb f 29 h)

other_one : (f : ℕ) → 31 < f → plain_at f ≡ (λ ts. one)
other_one f h =
    simp (le-ltb f 29 (omega arith), ne_eqb f 29 (λ e. omega arith), ne_eqb f 30 (λ e. omega arith), ne_eqb f 31 (λ e. omega arith))

reads : (f : ℕ) → Read f (plain_at f)
reads f =
    let is : (n : ℕ) → Read n (plain_at n) → f ≡ n → Read f (plain_at f) = λ n r e. subst (λ (i : ℕ). Read i (plain_at i)) (sym e) r in
    by_order f 29 (λ h. subst (Read f) (sym (kept_app f h)) (kept h)) (is 29 aencs) λ a.
    by_order f 30 (λ h. absurd (omega arith)) (is 30 adecs) λ b.
    by_order f 31 (λ h. absurd (omega arith)) (is 31 pks) λ c.
    subst (Read f) (sym (other_one f c)) others

module _ (free : List ℕ) where
  abbrev ar : ℕ → Option ℕ
  ar = arity (tag_arities free)

  abbrev older : ℕ → Option ℕ
  older = arity (older_arities free)

  -- ── the two tables ──
  older_length : length (builtin ++ padded 16 free) ≡ 29
  older_length = length-append builtin (padded 16 free) ∙ omega (arith, length_padded 16 free)

  pub alike : (f : ℕ) → f < 29 → older f ≡ ar f
  unfolding older_arities tag_arities arity
  alike f h =
      let e = sym (get_or-append (builtin ++ padded 16 free) signing undeclared f (omega (arith, older_length)))
      ∙ ap (λ (l : List ℕ). get_or l f undeclared) (append_assoc builtin (padded 16 free) signing) in
      ap (λ (a : ℕ). pick (ltb f 3) None (pick (eqb a undeclared) None (Some a))) e

  pub older_few : (f n : ℕ) → older f ≡ Some n → f < 29
  unfolding older_arities
  older_few f n e =
      by_size f 29 (λ h. h) λ h.
      absurd ((arity_slot (older_arities free) f n e).0 (sym (slot_outside (older_arities free) f (omega (arith, older_length)))))

  -- ── a term so read is one of document 01's ──
  first_formed : (ts : Terms) → Formeds older ts → Formed older (first ts)
  unfolding arity older_arities
  first_formed nil w = (refl, tt)
  first_formed (t & ts) w = w.0

  module _ (ts : Terms) where
    at_formed : (f : ℕ) (g : Terms → Term) → Read f g → ar f ≡ Some (count ts) → Formeds older ts → Formed older (g ts)
    unfolding arity older_arities
    at_formed f g (kept h) e w = (alike f h ∙ e, w)
    at_formed f g aencs e w = (sym (signing_arity free 0 (omega arith)) ∙ e, w)
    at_formed f g adecs e w = (sym (signing_arity free 1 (omega arith)) ∙ e, w)
    at_formed f g pks e w = first_formed ts w
    at_formed f g others e w = (refl, tt)

  mutual
    plain_formed : (t : Term) → Formed ar t → Formed older (plain t)
    plain_formed (leaf k n) w = tt
    plain_formed (app f ts) w =
        at_formed (plains ts) f (plain_at f) (reads f) (w.0 ∙ ap Some (sym (plains_count ts))) (plains_formed ts w.1)

    plains_formed : (ts : Terms) → Formeds ar ts → Formeds older (plains ts)
    plains_formed nil w = tt
    plains_formed (t & ts) w = (plain_formed t w.0, plains_formed ts w.1)

  mutual
    plain_stays : (t : Term) → Formed older t → plain t ≡ t
    plain_stays (leaf k n) w = refl
    plain_stays (app f ts) w = ap (λ (g : Terms → Term). g (plains ts)) (kept_app f (older_few f (count ts) w.0)) ∙ ap (app f) (plains_stay ts w.1)

    plains_stay : (ts : Terms) → Formeds older ts → plains ts ≡ ts
    plains_stay nil w = refl
    plains_stay (t & ts) w = ap₂ ◌&◌ (plain_stays t w.0) (plains_stay ts w.1)

  -- ── both further equations follow from the ten ──
  ten_plain : (t u : Term) → Figure2 t u → Figure2 (plain t) (plain u)
  ten_plain t u (dec_enc m k) = dec_enc (plain m) (plain k)
  ten_plain t u (fst_pair x y) = fst_pair (plain x) (plain y)
  ten_plain t u (snd_pair x y) = snd_pair (plain x) (plain y)
  ten_plain t u (mul_assoc x y z) = mul_assoc (plain x) (plain y) (plain z)
  ten_plain t u (mul_comm x y) = mul_comm (plain x) (plain y)
  ten_plain t u (mul_one x) = mul_one (plain x)
  ten_plain t u (mul_inv x) = mul_inv (plain x)
  ten_plain t u (inv_inv x) = inv_inv (plain x)
  ten_plain t u (exp_exp x y z) = exp_exp (plain x) (plain y) (plain z)
  ten_plain t u (exp_one x) = exp_one (plain x)

  abbrev Plain : Term → Term → Type 0
  Plain t u = OlderSame free (plain t) (plain u)

  twelve_plain : (t u : Term) → Formed ar t → Formed ar u → Twelve t u → Plain t u
  twelve_plain t u w v (figure e) = equation (plain_formed t w) (plain_formed u v) (ten_plain t u e)
  twelve_plain t u w v (adec_aenc m k) = equation (plain_formed t w) (plain_formed u v) (dec_enc (plain m) (plain k))
  twelve_plain t u w v (verify_sign m k) = reflexive (plain_formed t w)

  plain_pairs : {ts us : Terms} → Pairwise Plain ts us → Congruences older Figure2 (plains ts) (plains us)
  plain_pairs no_pairs = same_none
  plain_pairs (more d ds) = same_more d (plain_pairs ds)

  first_same : {ts us : Terms} → Congruences older Figure2 ts us → OlderSame free (first ts) (first us)
  first_same same_none = reflexive (first_formed nil tt)
  first_same (same_more d ds) = d

  module _ (ts us : Terms) (ds : Congruences older Figure2 ts us) where
    at_same : (f : ℕ) (g : Terms → Term) → Read f g → ar f ≡ Some (count ts) → OlderSame free (g ts) (g us)
    at_same f g (kept h) e = congruent (at_formed ts f g (kept h) e (same_formeds ds).0) ds
    at_same f g aencs e = congruent (at_formed ts f g aencs e (same_formeds ds).0) ds
    at_same f g adecs e = congruent (at_formed ts f g adecs e (same_formeds ds).0) ds
    at_same f g pks e = first_same ds
    at_same f g others e = reflexive (first_formed nil tt)

  is_plain : IsCongruence (Formed ar) Twelve Plain
  is_plain = record {
    holds = twelve_plain;
    is_reflexive = λ t w. reflexive (plain_formed t w);
    is_symmetric = λ t u d. symmetric d;
    is_transitive = λ t u v d e. transitive d e;
    is_congruent = λ f ts us w ds.
        at_same (plains ts) (plains us) (plain_pairs ds) f (plain_at f) (reads f) (w.0 ∙ ap Some (sym (plains_count ts)));
  }

  -- ── and what was equal is ──
  mutual
    pub now_formed : (t : Term) → Formed older t → Formed ar t
    now_formed (leaf k n) w = tt
    now_formed (app f ts) w = (sym (alike f (older_few f (count ts) w.0)) ∙ w.0, now_formeds ts w.1)

    pub now_formeds : (ts : Terms) → Formeds older ts → Formeds ar ts
    now_formeds nil w = tt
    now_formeds (t & ts) w = (now_formed t w.0, now_formeds ts w.1)

  is_now : IsCongruence (Formed older) Figure2 (Same ar)
  is_now = record {
    holds = λ t u w v e. equation (now_formed t w) (now_formed u v) (figure e);
    is_reflexive = λ t w. reflexive (now_formed t w);
    is_symmetric = λ t u d. symmetric d;
    is_transitive = λ t u v d e. transitive d e;
    is_congruent = λ f ts us w ds. congruent (now_formed (app f ts) w) (all_same ds);
  }

  pub older_same : (t u : Term) → Formed older t → Formed older u → Same ar t u ↔ OlderSame free t u
  older_same t u w v = (
    λ d. subst₂ (OlderSame free) (plain_stays t w) (plain_stays u v) (least Plain is_plain d),
    λ d. least (Same ar) is_now d,
  )
