-- The verdict on a protocol file, as the code gives it, is the ruling of causes 3 and 4.
use Rattle.std.specs.Prelude.{ℕ, zero, suc, ◌<◌, List, Bool, true, not, ◌≡◌, refl, length, get_or}
use Rattle.std.specs.Prelude.{Option, Some, None}
use Rattle.std.proofs.Common.{ap, sym, ◌∙◌, arith}
use Rattle.lists.specs.Choice.{cut_eq, clash}
use Rattle.number.specs.Reading.{Read, got, fault}
use Rattle.lists.specs.Lists.{first_bad}
use Rattle.lists.specs.Lists.Laws.{at_inside, at_some}
use Rattle.rewriting.specs.Table.{passed, refused, Fails, Finds, Least, and_then, or_refuse}
use Rattle.rewriting.specs.Table.Laws.{least_unique}
use Rattle.rewriting.specs.Table.Passes.{first_bad_lem}
use Rattle.protocol.specs.Protocol.{Rule, Protocol, empty_rule, protocol}
use Rattle.rules.specs.Fit.{fits, least_unfit, sound, broken, malformed, judged}
use Rattle.lists.specs.Tests.{not_split}
use Rattle.rules.specs.Fit.Laws.{unfit}
use Rattle.lists.specs.Below.{First, least_zero, least_some}
use Rattle.checker.specs.Files.{protocol_item, layout, fit_ruling, protocol_ruling}

-- ── a pass finds one thing ──
finds_unique : (P : ℕ → Type 0) (o q : Option ℕ) → Finds P o → Finds P q → o ≡ q
finds_unique P None None f g = refl
finds_unique P None (Some k) f g = absurd (f k g.here)
finds_unique P (Some k) None f g = absurd (g k f.here)
finds_unique P (Some j) (Some k) f g = ap Some (least_unique P j k f g)

-- ── the least rule that breaks a condition is the one that the pass finds ──
abbrev item : ℕ → Option ℕ
item zero = None
item (suc k) = Some (suc k)

abbrev ok : ℕ → Rule → Bool
ok k r = fits r

module _ (rs : List Rule) where
  -- a rule that fails is one that the test finds
  failing : (i : ℕ) → Fails ok rs (suc i) → (i < length rs) × (unfit rs i ≡ true)
  failing i f =
      let g = at_some empty_rule rs i f.which f.stands in
      (g.0, ap (λ (r : Rule). not (fits r)) g.1 ∙ ap not f.is_false)

  no_fails : least_unfit rs ≡ 0 → (k : ℕ) → Fails ok rs k → ⊥
  no_fails h zero f = let e = f.stands in clash (cc)
  no_fails h (suc i) f =
      let g = failing i f in
      let u = least_zero (unfit rs) (length rs) h i g.0 in
      let v = g.1 in
      clash (cc)

  one_fails : (m : ℕ) → First (unfit rs) (length rs) m → Least (Fails ok rs) (suc m)
  one_fails m h = record {
    here = record {
      which = get_or rs m empty_rule;
      stands = at_inside empty_rule rs m h.inside;
      is_false = not_split (fits (get_or rs m empty_rule)) h.hit;
    };
    below = earlier;
  }
    where
      earlier : (j : ℕ) → j < suc m → Fails ok rs j → ⊥
      earlier zero l f = let e = f.stands in clash (cc)
      earlier (suc i) l f =
          let u = h.before i (omega arith) in
          let v = (failing i f).1 in
          clash (cc)

  finds : (k : ℕ) → least_unfit rs ≡ k → Finds (Fails ok rs) (item k)
  finds zero h = no_fails h
  finds (suc m) h = one_fails m (least_some (unfit rs) (length rs) m h)

  pub bad_is : first_bad ok 1 rs ≡ item (least_unfit rs)
  bad_is = finds_unique (Fails ok rs) (first_bad ok 1 rs) (item (least_unfit rs)) (first_bad_lem ok rs) (finds (least_unfit rs) refl)

-- ── the ruling, from the verdict ──
module _ (file : List ℕ) where
  ruled_as : (p : Protocol) (k : ℕ) → least_unfit p.rules ≡ k → fit_ruling p ≡ or_refuse 4 (item k) (passed p)
  ruled_as p k e = ap (λ (o : Option ℕ). or_refuse 4 o (passed p)) (bad_is p.rules ∙ ap item e)

  read : (p : Protocol) (e : ℕ) → protocol file ≡ got p e → protocol_ruling file ≡ fit_ruling p
  read p e h = ap (λ (r : Read Protocol). and_then (layout protocol_item r) fit_ruling) h

  pub ruled_malformed : judged (protocol file) ≡ malformed → protocol_ruling file ≡ refused 3 protocol_item
  ruled_malformed h = go (protocol file) refl h
    where
      go : (r : Read Protocol) → protocol file ≡ r → judged r ≡ malformed → protocol_ruling file ≡ refused 3 protocol_item
      go (got p e) q h = cut_eq _ _ _ (least_unfit p.rules) 0 h (λ z h. clash (cc)) (λ z h. clash (cc))
      go fault q h = ap (λ (r : Read Protocol). and_then (layout protocol_item r) fit_ruling) q

  pub ruled_broken : (k : ℕ) → judged (protocol file) ≡ broken k → protocol_ruling file ≡ refused 4 k
  ruled_broken k h = go (protocol file) refl h
    where
      some_item : (j : ℕ) (p : Protocol) → (j ≡ 0 → ⊥) → or_refuse 4 (item j) (passed p) ≡ refused 4 j
      some_item zero p z = absurd (z refl)
      some_item (suc j) p z = refl

      go : (r : Read Protocol) → protocol file ≡ r → judged r ≡ broken k → protocol_ruling file ≡ refused 4 k
      go (got p e) q h =
          cut_eq _ _ _ (least_unfit p.rules) 0 h
          (λ z h. clash (cc))
          (λ z h. let w : least_unfit p.rules ≡ k = cc in
          read p e q ∙ ruled_as p k w ∙ some_item k p (λ y. z (w ∙ y)))
      go fault q h = clash (cc)

  pub ruled_sound : (p : Protocol) (e : ℕ) → protocol file ≡ got p e → judged (protocol file) ≡ sound → protocol_ruling file ≡ passed p
  ruled_sound p e q h =
      cut_eq _ _ _ (least_unfit p.rules) 0 (sym (ap judged q) ∙ h)
      (λ z h. read p e q ∙ ruled_as p 0 z)
      (λ z h. clash (cc))
