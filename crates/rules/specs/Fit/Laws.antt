-- The tests of a rule as the code makes them, the least of several, and the judgement of a file.
use Rattle.std.specs.Prelude.{Option, Some, None, Result, Ok, Err, ℕ, ◌+◌, ◌≤◌, ◌<◌, List, Bool, true, false, ◌||◌, ◌&&◌, not, ◌≡◌, refl, length, get_or, take, eqb}
use Rattle.std.proofs.Common.{ap, ap₂, sym, ◌∙◌, subst, arith, eq-eqb, ne_eqb}
use lib.Seq.{length-take-le, get_or-take}
use Rattle.number.specs.Groups.{number_limit}
use Rattle.protocol.specs.Figures.{list_count}
use Rattle.lists.specs.Choice.{pick, clash}
use Rattle.lists.specs.Tests.{or_right}
use Rattle.number.specs.Reading.{Read, got, fault, seen}
use Rattle.lists.specs.Lists.{any_by}
use Rattle.protocol.specs.Protocol.{Fact, Rule, list_of, empty_rule, premises, actions, conclusions, facts, layout, rule, protocol}
use Rattle.protocol.specs.Protocol.Walks.{asks, rule_asks, sorts_at, layout_fault}
use Rattle.protocol.specs.Places.{Here, value_of, list_place, sort_of}
use Rattle.protocol.specs.Places.Laws.{vars_law, list_law, sort_law, rule_layout}
use Rattle.protocol.specs.Index.{Entries, Indexed, Placed}
use Rattle.protocol.specs.declared.index.Counts.{Counts}
use Rattle.rules.specs.declared.fit.RulePlaces.{RulePlaces}
use Rattle.rules.specs.declared.fit.Unfit.{Unfit}
use Rattle.rules.specs.declared.fit.Unfit.TheVariants as un
use Rattle.rules.specs.Fit.{p1, stands, p45, bound, fits, Verdict, sound, broken, malformed, outcome, judged}
use Rattle.lists.specs.Below.{least, all_below}

-- ── what code has of a test ──
abbrev pub hit_of : Option (ℕ × Bool) → Bool
hit_of (Some (e, b)) = b
hit_of None = false

hit_is : {A : Type 0} (q : A → Bool) (r : Read A) {w : Option (ℕ × Bool)} {x : A} {e : ℕ} → w ≡ seen q r → r ≡ got x e → hit_of w ≡ q x
hit_is q r h k = ap hit_of (h ∙ ap (seen q) k)

-- the rule at a place, whatever rule that is, has this property
abbrev pub OfRule : List ℕ → List ℕ → List ℕ → ℕ → (Rule → Type 0) → Type 0
OfRule file arities ars at P = (r : Rule) → Here (layout file arities ars) r at → P r

-- the places of a rule's lists
pub record Located (file arities ars : List ℕ) (x : RulePlaces) : Type 0 where
  pub premises_at : x.premises ≡ list_place file arities ars x.at 0
  pub actions_at : x.actions ≡ list_place file arities ars x.at 1
  pub conclusions_at : x.conclusions ≡ list_place file arities ars x.at 2

-- the answer on a list
pub list_asked :
    (file arities ars : List ℕ) (start kind lo hi : ℕ) {o : Option (ℕ × Bool)} {b : Bool} → b ≡ hit_of o
    → o ≡ seen (any_by (asks kind lo hi)) (facts file arities ars start)
    → (fs : List Fact) → Here (facts file arities ars) fs start → b ≡ any_by (asks kind lo hi) fs
list_asked file arities ars start kind lo hi hb ho fs h =
    hb ∙ hit_is (any_by (asks kind lo hi)) (facts file arities ars start) ho h.reads

module _ (file arities ars : List ℕ) (at : ℕ) where
  -- on one of the rule's
  pub asked_of :
      (list l : ℕ) (q : List Fact → Bool) {b : Bool} → list < list_count → l ≡ list_place file arities ars at list
      → ((fs : List Fact) → Here (facts file arities ars) fs l → b ≡ q fs) → OfRule file arities ars at (λ r. b ≡ q (list_of list r))
  asked_of list l q small hl f r h =
      f (list_of list r) (subst (Here (facts file arities ars) (list_of list r)) (sym hl) (list_law file arities ars at r h list small))

  -- the answer on all of the rule
  pub rule_asked :
      (kind lo hi : ℕ) {o : Option (ℕ × Bool)} {b : Bool} → b ≡ hit_of o → o ≡ seen (rule_asks kind lo hi) (layout file arities ars at)
      → OfRule file arities ars at (λ r. b ≡ rule_asks kind lo hi r)
  rule_asked kind lo hi hb ho r h = hb ∙ hit_is (rule_asks kind lo hi) (layout file arities ars at) ho h.reads

  -- P1, with the limit as the code has it
  pub fresh_asked : (b : Bool) (r : Rule) → b ≡ rule_asks 2 0 number_limit r → not b ≡ p1 r
  fresh_asked b r h = ap not h

  -- a variable that the code finds bound, by its sort, by a premise, or by no conclusion and no action
  module _ (v m : ℕ) (hm : m ≡ value_of (sort_of file at v)) where
    sort_is : (r : Rule) → Here (layout file arities ars) r at → v < length r.sorts → m ≡ get_or r.sorts v 0
    sort_is r h l = hm ∙ sort_law file arities ars at r h v l

    pub bound_public : m ≡ 2 → OfRule file arities ars at (λ r. v < length r.sorts → true ≡ bound r v)
    bound_public e r h l =
        sym (ap (λ (x : Bool). x || (stands v (premises r) || (not (stands v (conclusions r)) && not (stands v (actions r)))))
        (eq-eqb (get_or r.sorts v 0) 2 (sym (sort_is r h l) ∙ e)))

    module _ (a : Bool) (ha : OfRule file arities ars at (λ r. a ≡ stands v (premises r))) where
      pub bound_above : a ≡ true → OfRule file arities ars at (λ r. v < length r.sorts → true ≡ bound r v)
      bound_above e r h l =
          let none_below : Bool = not (stands v (conclusions r)) && not (stands v (actions r)) in
          sym (or_right (eqb (get_or r.sorts v 0) 2) (stands v (premises r) || none_below)
          (ap (λ (x : Bool). x || none_below) (sym (ha r h) ∙ e)))

      pub bound_below :
          (c d : Bool) → OfRule file arities ars at (λ r. c ≡ stands v (conclusions r))
          → OfRule file arities ars at (λ r. d ≡ stands v (actions r)) → (m ≡ 2 → ⊥) → a ≡ false
          → OfRule file arities ars at (λ r. v < length r.sorts → (not c && not d) ≡ bound r v)
      bound_below c d hc hd ne e r h l =
          ap₂ ◌||◌ (sym (ne_eqb (get_or r.sorts v 0) 2 (λ k. ne (sort_is r h l ∙ k))))
          (ap₂ ◌||◌ (sym e ∙ ha r h) (ap₂ (λ (x y : Bool). not x && not y) (hc r h) (hd r h)))

  -- all of them
  pub all_is :
      (n d : ℕ) (b : Bool) → sorts_at file at ≡ got n d
      → OfRule file arities ars at (λ r. n ≤ length r.sorts → b ≡ all_below (bound r) n) → OfRule file arities ars at (λ r. b ≡ p45 r)
  all_is n d b hn f r h =
      let z : n ≡ length r.sorts = ap value_of (sym hn) ∙ vars_law file arities ars at r h in
      f r h (omega arith) ∙ ap (all_below (bound r)) z

  -- no rule there
  pub none_there : (P : Rule → Type 0) → sorts_at file at ≡ fault → OfRule file arities ars at P
  none_there P n r h = let k = layout_fault file arities ars at n in let g = h.reads in clash (cc)

-- ── the rules of a file ──
-- they stand at the first n places
pub placed_front :
    {p : ℕ → Read Rule} (places : List ℕ) (rs : List Rule) (n : ℕ) → n ≤ length places → Placed p empty_rule places rs n
    → Placed p empty_rule (take n places) rs (length (take n places))
placed_front places rs n h placed =
    let m : length (take n places) ≡ n = length-take-le n places h in
    record {
      count = placed.count ∙ sym m;
      each = λ k l. rw (get_or-take n places k 0 (omega arith)) (placed.each k (omega arith));
    }

-- the index of a file, with no more places than there are rules
unfoldable pub entries_front :
    {s arities ars flags : List ℕ} {ns : ℕ} (places : List ℕ) (nr : ℕ) → nr ≤ length places → Entries s ns nr arities ars flags places
    → Entries s ns (length (take nr places)) arities ars flags (take nr places)
entries_front places nr h e =
    record {
      is = e.is;
      reads = e.reads;
      within = e.within;
      slotted = e.slotted;
      tabled = e.tabled;
      flagged = e.flagged;
      count = e.count;
      few_symbols = e.few_symbols;
      few_rules = omega (arith, e.few_rules, length-take-le nr places h);
      placed = placed_front places e.is.rules nr h e.placed;
    }

-- whether the rule of number k breaks a condition
abbrev pub unfit : List Rule → ℕ → Bool
unfit rs k = not (fits (get_or rs k empty_rule))

-- the code's answer on rule k
pub placed_fits :
    (file arities ars places : List ℕ) (n k : ℕ) (b : Bool) (rs : List Rule) → Placed (rule file arities ars) empty_rule places rs n → k < n
    → OfRule file arities ars (get_or places k 0) (λ r. b ≡ fits r) → not b ≡ unfit rs k
placed_fits file arities ars places n k b rs p l h =
    ap not (h (get_or rs k empty_rule) (rule_layout file arities ars (get_or places k 0) (get_or rs k empty_rule) (p.each k l)))

-- a number from 1, of which 0 is none
abbrev pub found : ℕ → Option ℕ
found k = pick (eqb k 0) None (Some k)

-- ── what the code answers of a file ──
abbrev pub verdict_of : Result Counts Unfit → Verdict
verdict_of (Ok c) = sound
verdict_of (Err (un.Broken k)) = broken k
verdict_of (Err un.Fault) = malformed

-- where the file is sound, its index
abbrev pub Indexes : List ℕ → Result Counts Unfit → List ℕ → List ℕ → List ℕ → List ℕ → Type 0
Indexes file (Ok c) arities ars flags places = Entries file c.symbols c.rules arities ars flags places
Indexes file (Err u) arities ars flags places = Unit {0}

-- no rule that breaks a condition, or the least
abbrev pub outcome_of : Option ℕ → Verdict
outcome_of (Some k) = broken k
outcome_of None = sound

pick_outcome : (b : Bool) (k : ℕ) → outcome_of (pick b None (Some k)) ≡ pick b sound (broken k)
pick_outcome true k = refl
pick_outcome false k = refl

outcome_found : (k : ℕ) → outcome_of (found k) ≡ outcome k
outcome_found k = pick_outcome (eqb k 0) k

module _ (file arities ars flags places : List ℕ) where
  pub indexed_counts :
      {i : Option Counts} {c : Counts} → i ≡ Some c → Indexed file i arities ars flags places
      → Entries file c.symbols c.rules arities ars flags places
  indexed_counts h x = subst (λ (j : Option Counts). Indexed file j arities ars flags places) h x

  pub indexed_fault : {i : Option Counts} → i ≡ None → Indexed file i arities ars flags places → malformed ≡ judged (protocol file)
  indexed_fault h x = sym (ap judged (subst (λ (j : Option Counts). Indexed file j arities ars flags places) h x))

  pub judged_is :
      {ns nr k : ℕ} (i : Entries file ns nr arities ars flags places)
      → ((rs : List Rule) → Placed (rule file arities (take ns ars)) empty_rule places rs nr → k ≡ least (unfit rs) nr)
      → outcome k ≡ judged (protocol file)
  judged_is {ns} {nr} {k} i h =
      ap outcome (h i.is.rules i.placed ∙ ap (least (unfit i.is.rules)) (sym i.placed.count))
      ∙ sym (ap judged i.reads)

  -- the same of the places alone that have rules
  pub judged_front :
      {ns nr : ℕ} {o : Option ℕ} (i : Entries file ns nr arities ars flags places)
      → nr ≤ length places
      → ((rs : List Rule) → Placed (rule file arities (take ns ars)) empty_rule (take nr places) rs (length (take nr places))
      → o ≡ found (least (unfit rs) (length (take nr places))))
      → outcome_of o ≡ judged (protocol file)
  judged_front {ns} {nr} i l h =
      let placed = placed_front places i.is.rules nr l i.placed in
      ap outcome_of (h i.is.rules placed ∙ ap (λ (m : ℕ). found (least (unfit i.is.rules) m)) (sym placed.count))
      ∙ outcome_found (least (unfit i.is.rules) (length i.is.rules))
      ∙ sym (ap judged i.reads)

pub none_broken : {k : ℕ} → k ≡ 0 → outcome k ≡ sound
none_broken {k} h = ap outcome h

pub some_broken : {k : ℕ} → (k ≡ 0 → ⊥) → outcome k ≡ broken k
some_broken {k} h = simp (ne_eqb k 0 h)

-- a number from 1 is found
pub found_next : (j : ℕ) → found (j + 1) ≡ Some (j + 1)
found_next j = simp (ne_eqb (j + 1) 0 (λ e. omega arith))
