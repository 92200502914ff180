-- "no such rule", node k, said exactly: k - 1 nodes were read, and then a rule number that no rule has.
use Prim.Native.Nat.{ℕ, zero, suc, ◌+◌, ◌<◌}
use Rattle.std.specs.Prelude.{List, [], ◌∷◌, Bool, true, false, ◌↔◌, ◌≡◌, refl, length, eqb}
use Rattle.std.specs.Prelude.{Option, Some, None}
use Rattle.std.proofs.Math.Path.{ap}
use Rattle.std.proofs.Common.{sym, ◌∙◌}
use native.Mathlib.Omega.{arith}
use Rattle.lists.specs.Choice.{pick, cut, clash}
use Rattle.number.specs.Reading.{Read, got, fault, read_number, below, many}
use Rattle.number.specs.Reading.Laws.{cut_got}
use Rattle.number.specs.Reading.Many.{many_cons}
use Rattle.protocol.specs.Protocol.{Rule, Protocol}
use Rattle.rules.specs.Numbered.{rule_of}
use Rattle.steps.specs.Nodes.{Node, most_nodes, Reading, read, broken, no_rule, onward, plainly, all_of, absent, unknown, node, nodes_from}
use Rattle.steps.specs.Nodes.{node_list, steps}
use Rattle.steps.specs.Nodes.Exact.{node_known}

-- ── readings in parts ──
module _ {A B : Type 0} where
  cut_rule :
      {C : Type 0} {k : ℕ} (r : Reading A) (f : A → ℕ → Reading B) → onward r f ≡ no_rule k
      → (r ≡ no_rule k → C) → ((x : A) (d : ℕ) → r ≡ read x d → f x d ≡ no_rule k → C) → C
  cut_rule {C} {k} (read x d) f h a b = b x d refl h
  cut_rule {C} {k} broken f h a b = clash (cc)
  cut_rule {C} {k} (no_rule j) f h a b = let i : j ≡ k = cc in a (ap no_rule i)

  cut_plain_rule :
      {C : Type 0} {k : ℕ} (r : Read A) (f : A → ℕ → Reading B) → plainly r f ≡ no_rule k
      → ((x : A) (d : ℕ) → r ≡ got x d → f x d ≡ no_rule k → C) → C
  cut_plain_rule (got x d) f h k = k x d refl h
  cut_plain_rule fault f h k = clash (cc)

module _ (p : Protocol) (file : List ℕ) where
  -- of n nodes, the first of number b: some were read, and then a rule number that no rule has
  pub record NoRuleFrom (b n at k : ℕ) : Type 0 where
    pub before : List Node
    pub many_before : ℕ
    pub place : ℕ
    pub rule : ℕ
    pub next : ℕ
    pub reads : many (node p file) many_before at ≡ got before place
    pub number : k ≡ b + many_before
    pub fewer : many_before < n
    pub tells : read_number file place ≡ got rule next
    pub no_such : rule_of p rule ≡ None

  -- the count was read too, and the nodes are numbered from 1
  pub record RuleMissing (at k : ℕ) : Type 0 where
    pub count : ℕ
    pub start : ℕ
    pub counts : below file (suc most_nodes) at ≡ got count start
    pub there : NoRuleFrom 1 count start k

  absent_none : (o : Option Rule) → absent o ≡ true → o ≡ None
  absent_none None h = refl
  absent_none (Some u) h = clash (cc)

  cut_unknown : {C : Type 0} (o : Read ℕ) → unknown p o ≡ true → ((r e : ℕ) → o ≡ got r e → rule_of p r ≡ None → C) → C
  cut_unknown (got r e) h k = k r e refl (absent_none (rule_of p r) h)
  cut_unknown fault h k = clash (cc)

  from_norule : (b n at k : ℕ) → nodes_from p file b n at ≡ no_rule k → NoRuleFrom b n at k
  unfolding nodes_from many
  from_norule b zero at k h = clash (cc)
  from_norule b (suc n) at k h =
      cut _ _ _ (unknown p (read_number file at)) h
      (λ t h. cut_unknown (read_number file at) t (λ r e hr q.
      let i : b ≡ k = cc in
      record {
        before = [];
        many_before = 0;
        place = at;
        rule = r;
        next = e;
        reads = refl;
        number = omega arith;
        fewer = omega arith;
        tells = hr;
        no_such = q;
      }))
      (λ t h. cut_plain_rule (node p file at) _ h (λ x d hx h. cut_rule (nodes_from p file (suc b) n d) _ h
      (λ g.
      let f = from_norule (suc b) n d k g in
      record {
        before = x ∷ f.before;
        many_before = suc f.many_before;
        place = f.place;
        rule = f.rule;
        next = f.next;
        reads = many_cons (node p file) f.many_before at d f.place x f.before hx f.reads;
        number = omega (arith, f.number);
        fewer = omega (arith, f.fewer);
        tells = f.tells;
        no_such = f.no_such;
      })
      (λ xs c g h. clash (cc))))

  -- where some nodes were read and none can be read next, the reading ends with what stands there
  pub ends_there :
      (o : ℕ → Reading (List Node)) → ((k : ℕ) (f : List Node → ℕ → Reading (List Node)) → onward (o k) f ≡ o k)
      → (place : ℕ) → ((b m : ℕ) → nodes_from p file b (suc m) place ≡ o b)
      → (j b n at : ℕ) (xs : List Node) → many (node p file) j at ≡ got xs place → j < n → nodes_from p file b n at ≡ o (b + j)
  unfolding nodes_from many
  ends_there o stays place here j b zero at xs h l = absurd (omega arith)
  ends_there o stays place here zero b (suc n) at xs h l =
      let a : at ≡ place = cc in
      let i : b ≡ b + 0 = omega arith in
      ap (λ (k : ℕ). nodes_from p file b (suc n) k) a ∙ here b n ∙ ap o i
  ends_there o stays place here (suc j) b (suc n) at xs h l =
      cut_got (node p file at) _ h (λ x d hx h. cut_got (many (node p file) j d) _ h (λ ys c hys h.
      let a : c ≡ place = cc in
      let i : suc b + j ≡ b + suc j = omega arith in
      ap (λ (t : Bool). pick t (no_rule b) (plainly (node p file at) (λ x e. onward (nodes_from p file (suc b) n e) (λ xs f. read (x ∷ xs) f))))
      (node_known p file at d x hx)
      ∙ ap (λ (o : Read Node). plainly o (λ x e. onward (nodes_from p file (suc b) n e) (λ xs f. read (x ∷ xs) f))) hx
      ∙ ap (λ (o : Reading (List Node)). onward o (λ xs f. read (x ∷ xs) f))
      (ends_there o stays place here j (suc b) n d ys (hys ∙ ap (got ys) a) (omega arith))
      ∙ stays (suc b + j) (λ xs f. read (x ∷ xs) f) ∙ ap o i))

  pub stops_unknown :
      (place : ℕ) → unknown p (read_number file place) ≡ true → (j b n at : ℕ) (xs : List Node) → many (node p file) j at ≡ got xs place → j < n
      → nodes_from p file b n at ≡ no_rule (b + j)
  unfolding nodes_from
  stops_unknown place u =
      ends_there no_rule (λ k f. refl) place
      (λ b m. ap (λ (t : Bool). pick t (no_rule b) (plainly (node p file place) (λ x e. onward (nodes_from p file (suc b) m e) (λ xs f. read (x ∷ xs) f)))) u)

  pub stops_broken :
      (place : ℕ) → unknown p (read_number file place) ≡ false → node p file place ≡ fault
      → (j b n at : ℕ) (xs : List Node) → many (node p file) j at ≡ got xs place → j < n → nodes_from p file b n at ≡ broken
  unfolding nodes_from
  stops_broken place u g =
      ends_there (λ k. broken) (λ k f. refl) place
      (λ b m.
      ap (λ (t : Bool). pick t (no_rule b) (plainly (node p file place) (λ x e. onward (nodes_from p file (suc b) m e) (λ xs f. read (x ∷ xs) f)))) u
      ∙ ap (λ (o : Read Node). plainly o (λ x e. onward (nodes_from p file (suc b) m e) (λ xs f. read (x ∷ xs) f))) g)

  pub no_rule_exactly : (at k : ℕ) → (node_list p file at ≡ no_rule k) ↔ RuleMissing at k
  unfolding node_list
  no_rule_exactly at k = (
    (λ h. cut_plain_rule (below file (suc most_nodes) at) _ h (λ n d hn h. record { count = n; start = d; counts = hn; there = from_norule 1 n d k h })),
    (λ h.
        let f = h.there in
        ap (λ (o : Read ℕ). plainly o (λ n e. nodes_from p file 1 n e)) h.counts
        ∙ stops_unknown f.place (ap (unknown p) f.tells ∙ ap absent f.no_such) f.many_before 1 h.count h.start f.before f.reads
        f.fewer
        ∙ ap no_rule (sym f.number)),
  )

  -- ── a whole step list ──
  -- what is behind the nodes names no rule
  pub all_rule : {A : Type 0} (o : Reading A) (k : ℕ) → all_of file o ≡ no_rule k → o ≡ no_rule k
  all_rule (read x e) k h = cut _ _ _ (eqb e (length file)) h (λ t h. clash (cc)) (λ t h. clash (cc))
  all_rule broken k h = clash (cc)
  all_rule (no_rule j) k h = let i : j ≡ k = cc in ap no_rule i

  -- "no such rule", 6, "node", of a steps file
  pub steps_rule_missing : (k : ℕ) → (steps p file ≡ no_rule k) ↔ RuleMissing 0 k
  unfolding steps
  steps_rule_missing k = (
    (λ h. (no_rule_exactly 0 k).0 (all_rule (node_list p file 0) k h)),
    (λ m. ap (all_of file) ((no_rule_exactly 0 k).1 m)),
  )
