-- The machine whose test decides the statement, between facts that are good, runs just where nodes of good facts are a run: what is in the
-- bag as often as the machine counts it, in the set where the machine says so.
use Rattle.std.specs.Prelude.{◌≡◌, refl, ◌↔◌, Bool, true, false, not, ◌||◌, List, [], ◌∷◌, ◌++◌, ℕ, suc, ◌+◌, ◌≤◌, leb, eqb}
use Rattle.std.proofs.Common.{sym, ◌∙◌, ap, subst, ⊎_elim, arith}
use mathlib.Core.List.Memᴰ
use Rattle.std.proofs.Common.{Option, Some, None}
use Rattle.std.proofs.lemmas.Option.{none-some, same_Some}
use Rattle.lists.specs.Tests.{by_bool, true_false, not_true, or_split, eqb_eq, eqb_self, leb_le, le_leb, leb_sum}
use Rattle.lists.specs.Lists.{◌∈◌, bit, count_by}
use Rattle.lists.specs.Lists.Laws.{count_append, count_pos, count_mem}
use Rattle.lists.specs.All.{All}
use Rattle.lists.specs.All.Laws.{all_append, all_keep}
use Rattle.lists.specs.Any.{Any, here, later}
use Rattle.rewriting.specs.Facts.{Facts, count, linears, persistents}
use Rattle.rewriting.specs.Facts.Laws.{same_left, count_same, count_linears}
use Rattle.rewriting.specs.Graph.{Node, name_of}
use Rattle.rewriting.specs.Machine.{State, start, ran, made_already, lacks, fails, after, run_from, IsRun}
use Rattle.rewriting.specs.Machine.Laws.{failed_ran}
use Rattle.rewriting.proofs.Machine.Laws.{lacks_enough, enough_lacks}
use Rattle.rewriting.specs.Rewriting.{Contents, empty, Leaves, Takes, entered, Reaches, Rewrites}
use Rattle.rewriting.specs.Rewriting as rewriting

-- a node of good facts
pub record GoodNode {Fact : Type 0} (Good : Fact → Type 0) (x : Node Fact) : Type 0 where
  pub premises : All Good x.premises
  pub conclusions : All Good x.conclusions

module _
    (F : Facts)
    (Same : F.Fact → F.Fact → Type 0)
    (Good : F.Fact → Type 0)
    (decides : (f g : F.Fact) → Good f → Good g → (F.same f g ≡ true) ↔ Same f g) where
  open F use {Fact, same, linear, same_refl}

  -- ── one fact leaves a bag ──
  leaves_count :
      {p : Fact} {bag rest : List Fact} → Leaves Same linear p bag rest → Good p → All Good bag
      → All Good rest × ((f : Fact) → count F f bag ≡ bit (same f p) + count F f rest)
  leaves_count {p} (rewriting.first {g} {bag} e) a b = (
    b.1,
    λ f. ap (λ (c : Bool). bit c + count F f bag) (same_left F f p g ((decides p g a b.0).1 e)),
  )
  leaves_count {p} (rewriting.later {g} {bag} {rest} l) a b =
      let (c, h) = leaves_count l a b.1 in
      ((b.0, c), λ f. let i = h f in omega arith)

  -- where the machine counts one
  counted_behind : (p g : Fact) (gs : List Fact) → same p g ≡ false → 1 ≤ count F p (g ∷ gs) → 1 ≤ count F p gs
  counted_behind p g gs n l = let m : 1 ≤ bit false + count F p gs = rw n at l in omega arith

  first_counted : (p : Fact) (gs : List Fact) → 1 ≤ count F p (p ∷ gs)
  first_counted p gs = let t = same_refl p in rw t (omega arith)

  counted_leaves : (p : Fact) → Good p → (bag : List Fact) → All Good bag → 1 ≤ count F p bag → (rest : List Fact) × Leaves Same linear p bag rest
  counted_leaves p a [] b l = absurd (omega arith)
  counted_leaves p a (g ∷ bag) b l =
      by_bool (same p g)
      (λ t. (bag, rewriting.first ((decides p g a b.0).0 t)))
      (λ n.
      let m : 1 ≤ count F p bag = counted_behind p g bag n l in
      let (rest, h) = counted_leaves p a bag b.1 m in
      (g ∷ rest, rewriting.later h))

  -- ── the set ──
  found_counted : (p : Fact) → Good p → {set : List Fact} → Any (Same p) set → All Good set → 1 ≤ count F p set
  found_counted p a (here {x = g} {xs = set} e) b = let t = (decides p g a b.0).1 e in rw t (omega arith)
  found_counted p a (later {x = g} {xs = set} s) b = let l = found_counted p a s b.1 in omega arith

  counted_found : (p : Fact) → Good p → (set : List Fact) → All Good set → 1 ≤ count F p set → Any (Same p) set
  counted_found p a [] b l = absurd (omega arith)
  counted_found p a (g ∷ set) b l =
      by_bool (same p g)
      (λ t. here ((decides p g a b.0).0 t))
      (λ n. later (counted_found p a set b.1 (counted_behind p g set n l)))

  -- ── the premises of a node ──
  -- what they take is what the machine counts
  takes_count :
      {set ps bag rest : List Fact} → Takes Same linear set ps bag rest → All Good ps → All Good bag
      → All Good rest × ((f : Fact) → count F f bag ≡ count F f (linears F ps) + count F f rest)
  takes_count rewriting.nothing a b = (b, λ f. omega arith)
  takes_count (rewriting.finds {p} {ps} {bag} {rest} n s t) a b =
      let (c, h) = takes_count t a.1 b in
      (c, λ f. rw n (h f))
  takes_count (rewriting.removes {p} {ps} {bag} {less} {rest} n l t) a b =
      let (c, h) = leaves_count l a.0 b in
      let (d, i) = takes_count t a.1 c in
      (d, λ f. let j = h f in let k = i f in rw n (omega arith))

  takes_set :
      {set ps bag rest : List Fact} → Takes Same linear set ps bag rest → All Good ps → All Good set → (p : Fact) → p ∈ ps → linear p ≡ false
      → 1 ≤ count F p set
  takes_set rewriting.nothing a b p m n = absurd (Memᴰ.not-nil m)
  takes_set {set} (rewriting.finds {p = q} f s t) a b p m n =
      ⊎_elim
      (λ e. subst (λ (g : Fact). 1 ≤ count F g set) (sym e) (found_counted q a.0 s b))
      (λ k. takes_set t a.1 b p k n)
      (Memᴰ.cases_cons m)
  takes_set (rewriting.removes {p = q} f l t) a b p m n =
      ⊎_elim
      (λ e. true_false (linear q) f (ap linear (sym e) ∙ n))
      (λ k. takes_set t a.1 b p k n)
      (Memᴰ.cases_cons m)

  -- premises that the machine counts often enough can be taken
  enough_takes :
      (set ps bag : List Fact) → All Good set → All Good ps → All Good bag → ((f : Fact) → linear f ≡ true → count F f ps ≤ count F f bag)
      → ((p : Fact) → p ∈ ps → linear p ≡ false → 1 ≤ count F p set) → (rest : List Fact) × Takes Same linear set ps bag rest
  enough_takes set [] bag s a b l h = (bag, rewriting.nothing)
  enough_takes set (p ∷ ps) bag s a b l h =
      by_bool (linear p)
      (λ t.
      let one : 1 ≤ count F p bag = let m = l p t in let r = same_refl p in omega (arith, first_counted p ps) in
      let (less, g) = counted_leaves p a.0 bag b one in
      let (c, i) = leaves_count g a.0 b in
      let (rest, k) = enough_takes set ps less s a.1 c
      (λ f u. let m = l f u in let j = i f in omega arith)
      (λ q m n. h q (Memᴰ.tail m) n) in
      (rest, rewriting.removes t g k))
      (λ n.
      let (rest, k) = enough_takes set ps bag s a.1 b (λ f u. let m = l f u in omega arith) (λ q m n. h q (Memᴰ.tail m) n) in
      (rest, rewriting.finds n (counted_found p a.0 set s (h p (Memᴰ.head refl) n)) k))

  -- ── the machine's state, and what is in it ──
  pub record Like (s : State Fact) (c : Contents Fact) : Type 0 where
    pub bag : (f : Fact) → s.bag f ≡ count F f c.bag
    pub set : (f : Fact) → s.set f ≡ leb 1 (count F f c.set)
    pub made : s.made ≡ c.made
    pub good_bag : All Good c.bag
    pub good_set : All Good c.set

  pub start_like : Like start empty
  start_like = record { bag = λ f. refl; set = λ f. refl; made = refl; good_bag = tt; good_set = tt }

  module _ {s : State Fact} {c : Contents Fact} (h : Like s c) where
    -- the premises are in the state just where the machine lacks none
    pub takes_lacks : (ps rest : List Fact) → All Good ps → Takes Same linear c.set ps c.bag rest → lacks F s ps ≡ false
    takes_lacks ps rest a t =
        let (b, k) = takes_count t a h.good_bag in
        enough_lacks F s ps
        record {
          linears = λ f lf. omega (arith, h.bag f, k f, count_linears F f lf ps);
          persistents = λ p m n. h.set p ∙ le_leb 1 (count F p c.set) (takes_set t a h.good_set p m n);
        }

    pub lacks_takes : (ps : List Fact) → All Good ps → lacks F s ps ≡ false → (rest : List Fact) × Takes Same linear c.set ps c.bag rest
    lacks_takes ps a l =
        let e = lacks_enough F s ps (λ f g lf t. h.bag f ∙ count_same F f g t c.bag ∙ sym (h.bag g)) l in
        enough_takes c.set ps c.bag h.good_set a h.good_bag
        (λ f lf. omega (arith, e.linears f lf, h.bag f))
        (λ p m n. leb_le 1 (count F p c.set) (sym (h.set p) ∙ e.persistents p m n))

    -- what a node leaves
    after_like : (x : Node Fact) → GoodNode Good x → (rest : List Fact) → Takes Same linear c.set x.premises c.bag rest
        → Like (after F s x) (entered Same linear c x rest)
    after_like x a rest t =
        let (b, k) = takes_count t a.premises h.good_bag in
        record {
          bag = λ f.
              let i = k f in
              let j = h.bag f in
              let l = count_append (same f) rest (linears F x.conclusions) in
              omega arith;
          set = λ f.
              ap (λ (o : Bool). o || leb 1 (count F f (persistents F x.conclusions))) (h.set f)
              ∙ sym (leb_sum (count F f c.set) (count F f (persistents F x.conclusions)) _
              (count_append (same f) c.set (persistents F x.conclusions)));
          made = ap (λ (ms : List ℕ). ms ++ name_of x.makes) h.made;
          good_bag = all_append Good rest (linears F x.conclusions) b (all_keep Good linear x.conclusions a.conclusions);
          good_set =
              all_append Good c.set (persistents F x.conclusions) h.good_set
              (all_keep Good (λ f. not (linear f)) x.conclusions a.conclusions);
        }

  -- ── a name is made already, in the machine and among the names made ──
  already_in : (made : List ℕ) (o : Option ℕ) → made_already made o ≡ false → (m : ℕ) → o ≡ Some m → m ∈ made → ⊥
  already_in made None f m e i = absurd (none-some m e)
  already_in made (Some n) f m e i =
      let l = count_mem (eqb n) made m i (ap (eqb n) (sym (same_Some n m e)) ∙ eqb_self n) in
      true_false (leb 1 (count_by (eqb n) made)) (le_leb 1 (count_by (eqb n) made) l) f

  in_already : (made : List ℕ) (o : Option ℕ) → ((m : ℕ) → o ≡ Some m → m ∈ made → ⊥) → made_already made o ≡ false
  in_already made None h = refl
  in_already made (Some n) h =
      not_true (leb 1 (count_by (eqb n) made))
      (λ t. let (a, i, e) = count_pos (eqb n) made (leb_le 1 (count_by (eqb n) made) t) in
      h n refl (subst (λ (k : ℕ). k ∈ made) (sym (eqb_eq n a e)) i))

  -- ── the nodes, one behind the other ──
  pub machine_reaches :
      (k : ℕ) (s : State Fact) (c : Contents Fact) (xs : List (Node Fact)) (e : State Fact) → Like s c → All (GoodNode Good) xs → run_from F k s xs ≡ ran e
      → (t : Contents Fact) × Reaches Same linear c xs t × Like e t
  machine_reaches k s c [] e h a r = (c, rewriting.done, subst (λ (z : State Fact). Like z c) (ran_one s e r) h)
    where
      ran_one : (s e : State Fact) → ran s ≡ ran e → s ≡ e
      ran_one s e h = cc
  machine_reaches k s c (x ∷ xs) e h a r =
      by_bool (fails F s x)
      (λ t. absurd (failed_ran k e (rw t at r)))
      (λ f.
      let (l, m) = or_split (lacks F s x.premises) (made_already s.made x.makes) f in
      let (rest, t) = lacks_takes h x.premises a.0.premises l in
      let (d, g, i) = machine_reaches (suc k) (after F s x) (entered Same linear c x rest) xs e (after_like h x a.0 rest t) a.1 (rw f at r) in
      (d, rewriting.step t (already_in c.made x.makes (ap (λ (ms : List ℕ). made_already ms x.makes) (sym h.made) ∙ m)) g, i))

  pub reaches_machine :
      (k : ℕ) (s : State Fact) (c : Contents Fact) (xs : List (Node Fact)) (t : Contents Fact) → Like s c → All (GoodNode Good) xs → Reaches Same linear c xs t
      → (e : State Fact) × (run_from F k s xs ≡ ran e) × Like e t
  reaches_machine k s c [] t h a rewriting.done = (s, refl, h)
  reaches_machine k s c (x ∷ xs) t h a (rewriting.step {rest} w n g) =
      let l = takes_lacks h x.premises rest a.0.premises w in
      let m = ap (λ (ms : List ℕ). made_already ms x.makes) h.made ∙ in_already c.made x.makes n in
      let (e, r, i) = reaches_machine (suc k) (after F s x) (entered Same linear c x rest) xs t (after_like h x a.0 rest w) a.1 g in
      (e, rw (l, m) r, i)

  -- "The nodes are a run exactly when none fails": by the statement and by the machine
  pub run_exactly : (nodes : List (Node Fact)) → All (GoodNode Good) nodes → IsRun F nodes ↔ Rewrites Same linear nodes
  run_exactly nodes a = (
    (λ (e, r). let (t, g, i) = machine_reaches 1 start empty nodes e start_like a r in (t, g)),
    (λ (t, g). let (e, r, i) = reaches_machine 1 start empty nodes t start_like a g in (e, r)),
  )
