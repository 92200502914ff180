-- Cause 9 in plain words: node k makes a name that an earlier node makes. And a node of rule 0 whose values fit makes a name.
use Rattle.std.specs.Prelude.{ℕ, zero, suc, ◌<◌, List, [], ◌∷◌, Bool, ◌↔◌, ◌≡◌, refl, length, take}
use mathlib.Core.List.Memᴰ
use Rattle.std.proofs.Common.{⊎_elim, ap, sym, ◌∙◌, subst, arith, eq-eqb}
use Rattle.std.specs.Prelude.{Option, Some, None}
use Rattle.std.proofs.lemmas.Option.{none-some, same_Some}
use Rattle.std.specs.Prelude.{slice_get}
use Rattle.lists.specs.Choice.{pick}
use Rattle.term.specs.Term.{fresh, Term, leaf}
use Rattle.lists.specs.Lists.{◌∈◌, nth}
use Rattle.lists.specs.Lists.Laws.{at_map, mapped_at}
use Rattle.rewriting.specs.Graph.{name_of, names_of}
use Rattle.rewriting.specs.Graph as graph
use Rattle.rewriting.specs.Causes.{NameTwice}
use Rattle.protocol.specs.Protocol.{Fact, Rule, Protocol}
use Rattle.steps.specs.Nodes.{Node, NodeWithin}
use Rattle.steps.specs.Facts.{fresh_number, value_at, made_name}
use Rattle.steps.specs.Values.{NodeRight}
use Rattle.steps.specs.Runs.{rewritten, rewrittens}
use Rattle.steps.specs.Names.Code.{zero_sorts}

-- "name made twice", 9, "later node"
pub record MadeTwice (xs : List Node) (k : ℕ) : Type 0 where
  pub later : Node
  pub earlier : Node
  pub place : ℕ
  pub name : ℕ
  pub stands : nth xs k ≡ Some later
  pub stood : nth xs place ≡ Some earlier
  pub before_it : place < k
  pub makes_it : made_name later ≡ Some name
  pub made_it : made_name earlier ≡ Some name

module _ (p : Protocol) where
  -- ── a node by its number, in the list and in its rewriting ──
  record FoundAt (xs : List Node) (i : ℕ) (o : Option ℕ) : Type 0 where
    its : Node
    there : slice_get xs i ≡ Some its
    name : made_name its ≡ o

  -- ── the names of the first nodes ──
  early : (xs : List Node) (n m : ℕ) → m ∈ names_of (take n (rewrittens p xs)) → (i : ℕ) × (i < n) × FoundAt xs i (Some m)
  early xs zero m h = absurd (Memᴰ.not-nil h)
  early [] (suc n) m h = absurd (Memᴰ.not-nil h)
  early (x ∷ xs) (suc n) m h =
      ⊎_elim
      (λ q. (0, omega arith, record { its = x; there = refl; name = named (made_name x) q }))
      (λ q. let (i, l, f) = early xs n m q in (suc i, omega arith, record { its = f.its; there = f.there; name = f.name }))
      (Memᴰ.append_cases (name_of (made_name x)) h)
    where
      named : (o : Option ℕ) → m ∈ name_of o → o ≡ Some m
      named None q = absurd (Memᴰ.not-nil q)
      named (Some n) q = ap {B = Option ℕ} Some (sym (Memᴰ.eq_of_singleton q))

  late : (xs : List Node) (n m i : ℕ) (x : Node) → i < n → slice_get xs i ≡ Some x → made_name x ≡ Some m → m ∈ names_of (take n (rewrittens p xs))
  late xs zero m i x l h k = absurd (omega arith)
  late [] (suc n) m i x l h k = absurd (none-some x h)
  late (y ∷ xs) (suc n) m zero x l h k =
      let e : made_name y ≡ Some m = ap made_name (same_Some y x h) ∙ k in
      Memᴰ.append_left (names_of (take n (rewrittens p xs))) (subst (λ (o : Option ℕ). m ∈ name_of o) (sym e) (Memᴰ.head refl))
  late (y ∷ xs) (suc n) m (suc i) x l h k = Memᴰ.append_right (name_of (made_name y)) (late xs n m i x (omega arith) h k)

  -- ── the two say the same ──
  from_map : (xs : List Node) (i : ℕ) (o : Option ℕ) (z : graph.Node Fact) → slice_get (rewrittens p xs) i ≡ Some z → z.makes ≡ o → FoundAt xs i o
  from_map xs i o z h k =
      let (x, stands, is) = mapped_at (rewritten p) xs i z h in
      record { its = x; there = stands; name = ap (λ (w : graph.Node Fact). w.makes) is ∙ k }

  pub twice_made : (xs : List Node) (k : ℕ) → NameTwice (rewrittens p xs) k → MadeTwice xs k
  twice_made xs zero h = absurd (none-some h.node h.stands)
  twice_made xs (suc k) h =
      let f = from_map xs k (Some h.name) h.node h.stands h.made in
      let (i, l, g) = early xs k h.name h.earlier in
      record {
        later = f.its;
        earlier = g.its;
        place = suc i;
        name = h.name;
        stands = f.there;
        stood = g.there;
        before_it = omega arith;
        makes_it = f.name;
        made_it = g.name;
      }

  pub made_twice : (xs : List Node) (k : ℕ) → MadeTwice xs k → NameTwice (rewrittens p xs) k
  made_twice xs zero h = absurd (none-some h.later h.stands)
  made_twice xs (suc k) h = go h.place h.stood h.before_it
    where
      go : (j : ℕ) → nth xs j ≡ Some h.earlier → j < suc k → NameTwice (rewrittens p xs) (suc k)
      go zero s l = absurd (none-some h.earlier s)
      go (suc j) s l =
          record {
            node = rewritten p h.later;
            name = h.name;
            stands = at_map (rewritten p) xs k h.later h.stands;
            made = h.makes_it;
            earlier = late xs k
                h.name j h.earlier (omega arith) s h.made_it;
          }

  pub twice_exactly : (xs : List Node) (k : ℕ) → NameTwice (rewrittens p xs) k ↔ MadeTwice xs k
  twice_exactly xs k = (twice_made xs k, made_twice xs k)

  -- ── a node of rule 0 whose values fit: one fresh name, which it makes ──
  pub rule_zero : (x : Node) → NodeWithin p x → NodeRight p x → x.rule ≡ 0 → (n : ℕ) × (x.values ≡ leaf fresh n ∷ []) × (made_name x ≡ Some n)
  rule_zero x w r z =
      let (u, a, b) = zero_sorts p x.rule z in
      let i : r.is ≡ u = same_Some r.is u (sym r.known ∙ a) in
      let j : w.is ≡ u = same_Some w.is u (sym w.known ∙ a) in
      let s : r.is.sorts ≡ 1 ∷ [] = ap (λ (v : Rule). v.sorts) i ∙ b in
      let l : length x.values ≡ 1 = w.takes ∙ ap (λ (v : Rule). length v.sorts) j ∙ ap length b in
      go x.values refl l (λ v h. (r.fits 0 1 v (record { sorted = ap (λ (q : List ℕ). slice_get q 0) s; valued = h })).sorted)
    where
      go : (vs : List Term) → x.values ≡ vs → length vs ≡ 1 → ((v : Term) → slice_get x.values 0 ≡ Some v → (n : ℕ) × (v ≡ leaf fresh n))
          → (n : ℕ) × (x.values ≡ leaf fresh n ∷ []) × (made_name x ≡ Some n)
      go [] e l f = absurd (omega arith)
      go (v ∷ []) e l f =
          let (n, q) = f v (ap (λ (vs : List Term). slice_get vs 0) e) in (
            n,
            e ∙ ap (λ (t : Term). t ∷ []) q,
            ap (λ (b : Bool). pick b (fresh_number (value_at x.values 0)) None) (eq-eqb x.rule 0 z)
                ∙ ap (λ (vs : List Term). fresh_number (value_at vs 0)) e ∙ ap fresh_number q,
          )
      go (v ∷ (t ∷ ts)) e l f = absurd (omega arith)
