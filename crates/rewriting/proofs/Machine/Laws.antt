-- What the machine's test means in counts.
use Rattle.std.specs.Prelude.{◌≡◌, refl, ◌↔◌, true, false, not, List, [], ◌∷◌, suc, ◌≤◌, ltb}
use Rattle.std.proofs.Common.{sym, ◌∙◌, subst, ⊎_elim, arith}
use Rattle.lists.specs.Tests.{by_bool, true_false, not_true, not_split, zero_or_pos, leb_le, leb_gt}
use Rattle.lists.specs.Lists.{◌∈◌, leaves}
use Rattle.lists.specs.Lists.Laws.{any_mem, any_pos, count_pos}
use Rattle.rewriting.specs.Facts.{Facts, count, linears}
use Rattle.rewriting.specs.Facts.Laws.{count_same}
use Rattle.rewriting.specs.Graph.{Node}
use Rattle.rewriting.specs.Machine.{State, start, ran, missing, lacks, after, run}
use Rattle.rewriting.specs.Machine.Laws.{ran_left}

module _ (F : Facts) where
  open F use {Fact, same, linear, same_linear}

  -- The state has each linear fact as often as it stands among the premises, and each persistent premise.
  pub record Enough (s : State Fact) (ps : List Fact) : Type 0 where
    pub linears : (f : Fact) → linear f ≡ true → count F f ps ≤ s.bag f
    pub persistents : (p : Fact) → p ∈ ps → linear p ≡ false → s.set p ≡ true

  -- The bag cannot tell same facts apart.
  abbrev pub Respects : State Fact → Type 0
  Respects s = (f g : Fact) → linear f ≡ true → same f g ≡ true → s.bag f ≡ s.bag g

  pub lacks_enough : (s : State Fact) (ps : List Fact) → Respects s → lacks F s ps ≡ false → Enough s ps
  lacks_enough s ps r h = record {
    linears = λ f lf.
        ⊎_elim
        (λ z. omega arith)
        (λ l.
        let (p, m, e) = count_pos (same f) ps l in
        let lp : linear p ≡ true = sym (same_linear f p e) ∙ lf in
        let n : ltb (s.bag p) (count F p ps) ≡ false = rw lp at (there p m) in
        omega (arith, leb_gt (suc (s.bag p)) (count F p ps) n, r f p lf e, count_same F f p e ps))
        (zero_or_pos (count F f ps));
    persistents = λ p m lp.
        by_bool (s.set p)
        (λ t. t)
        (λ n. let u : not (s.set p) ≡ false = rw lp at (there p m) in true_false true refl (rw n at u));
  }
    where
      there : (p : Fact) → p ∈ ps → missing F s ps p ≡ false
      there p m = not_true _ (λ t. true_false _ (any_mem (missing F s ps) ps p m t) h)

  pub enough_lacks : (s : State Fact) (ps : List Fact) → Enough s ps → lacks F s ps ≡ false
  enough_lacks s ps h =
      not_true _ λ t.
      let (p, m, e) = any_pos (missing F s ps) ps t in
      by_bool (linear p)
      (λ lp. let n : ltb (s.bag p) (count F p ps) ≡ true = rw lp at e in omega (arith, leb_le (suc (s.bag p)) (count F p ps) n, h.linears p lp))
      (λ lp. let n : not (s.set p) ≡ true = rw lp at e in true_false (s.set p) (h.persistents p m lp) (not_split (s.set p) n))

  left_respects : (s : State Fact) (xs : List (Node Fact)) → Respects s → Respects (leaves (after F) s xs)
  left_respects s [] r = r
  left_respects s (x ∷ xs) r =
      left_respects (after F s x) xs (λ f g lf e. rw (
        r f g lf e,
        count_same F f g e (linears F x.premises),
        count_same F f g e
            (linears F x.conclusions),
      ))

  -- In each state that the machine reaches, the premises are lacking just where some linear fact stands more often among them
  -- than in the bag, or some persistent one is not in the set.
  pub lacks_exact : (nodes : List (Node Fact)) (s : State Fact) → run F nodes ≡ ran s → (ps : List Fact) → (lacks F s ps ≡ false) ↔ Enough s ps
  lacks_exact nodes s h ps = (
    lacks_enough s ps (subst (λ e. Respects e) (ran_left F 1 start nodes s h) (left_respects start nodes (λ f g lf e. refl))),
    enough_lacks s ps,
  )
