-- What a body says it says too with more bytes behind it.
use Prim.Native.Nat.{ℕ, ◌+◌, ◌*◌, ◌≤◌, ◌<◌}
use mathlib.Core.List.{List, ◌++◌, append_assoc}
use Rattle.std.specs.Prelude.{Option, Some, None}
use Rattle.std.specs.Prelude.{◌≡◌, take, drop}
use Rattle.std.proofs.Math.Path.{ap, ap₂, sym}
use Rattle.std.proofs.Common.{◌∙◌, subst, subst₂, arith, length-append, length-drop, take-append-drop, get_or-drop, get_or-take, ext_get_or, length-take-le, take-take}
use Rattle.std.proofs.Math.ListN.{length, get_or-eq_default}
use Rattle.std.proofs.lemmas.List.{drop-append-le}
use Rattle.lists.specs.Choice.{by_size}
use Rattle.octets.specs.Head.{Bytes, stands_within}
use Rattle.number.specs.Groups.{groups}
use Rattle.number.specs.Groups.Laws.{groups_some}
use Rattle.number.specs.Reading.{Read, got, below, many, counted}
use Rattle.number.specs.Reading.Laws.{cut_got}
use Rattle.number.specs.Reading.Many.{many_nth, many_length}
use Rattle.number.specs.Layout.{Exact, flat, listed}
use Rattle.number.specs.Layout.Laws.{below_exact, many_exact}
use Rattle.protocol.specs.Figures.{symbol_count, fact_limit}
use Rattle.protocol.specs.Protocol.{Fact, Rule, Protocol, list_of, fact, facts, rule, encode_fact, encode_rule}
use Rattle.protocol.specs.Protocol.Exact.{fact_exact, facts_exact, rule_exact}
use Rattle.protocol.specs.Places.{Here, place_of, fact_place}
use Rattle.protocol.specs.Places.Ends.{fact_got}
use Rattle.rules.specs.Numbered.{rule_of}
use Rattle.prepared.specs.Sections.{slot_count, rule_count, arities_at, linears_at, cell_at, body_length, place_base}
use Rattle.prepared.specs.Prepared.{slots_of, arities_of, place_at, RuleAt, RuleThere, Entry, Body, body_of, prepared_facts, ListAt, fact_place_in}
use Rattle.prepared.specs.Prepared.Laws.{arities_length}

-- ── what reads in a list reads in a longer one ──
module _ {A : Type 0} (p : List ℕ) (n : ℕ) (q r : ℕ → Read A) (Good : A → Type 0) (code : A → List ℕ) (here : Exact (take n p) q Good code)
    (there : Exact p r Good code) where
  reads_longer : (x : A) (at e : ℕ) → at ≤ length (take n p) → q at ≡ got x e → r at ≡ got x e
  reads_longer x at e inside h =
      let (good, s) = here.form x at e h in
      there.back x at (drop e (take n p) ++ drop n p) good
      (ap (drop at) (sym (take-append-drop n p)) ∙ drop-append-le at (take n p) (drop n p) inside
      ∙ ap (λ (l : List ℕ). l ++ drop n p) s.there ∙ append_assoc (code x) (drop e (take n p)) (drop n p))
      ∙ ap (got x) (sym s.ends)

  here_longer : (x : A) → 0 < length (code x) → (at : ℕ) → Here q x at → Here r x at
  here_longer x some_bytes at h =
      let s = (here.form x at h.next h.reads).1 in
      record { next = h.next; reads = reads_longer x at h.next (omega (arith, s.ends, stands_within s some_bytes)) h.reads }

section_same : (p : List ℕ) (n at k : ℕ) → at + k ≤ n → n ≤ length p → take k (drop at (take n p)) ≡ take k (drop at p)
section_same p n at k h l =
    let a : length (take n p) ≡ n = length-take-le n p l in
    let b : length (take k (drop at (take n p))) ≡ k = length-take-le k (drop at (take n p)) (omega (arith, length-drop at (take n p))) in
    let c : length (take k (drop at p)) ≡ k = length-take-le k (drop at p) (omega (arith, length-drop at p)) in
    ext_get_or 0 (take k (drop at (take n p))) (take k (drop at p)) (b ∙ sym c)
    (λ i m. get_or-take k (drop at (take n p)) i 0 (omega arith) ∙ get_or-drop at (take n p) i 0 ∙ get_or-take n p (at + i) 0 (omega arith)
    ∙ sym (get_or-take k (drop at p) i 0 (omega arith) ∙ get_or-drop at p i 0))

-- a list has bytes
pub list_some : (fs : List Fact) → 0 < length (listed encode_fact fs)
list_some fs = omega (arith, groups_some (length fs), length-append (groups (length fs)) (flat encode_fact fs))

rule_some : (u : Rule) → 0 < length (encode_rule u)
rule_some u =
    omega (
      arith,
      groups_some (length u.sorts),
      length-append (groups (length u.sorts)) (flat groups u.sorts),
      length-append (listed groups u.sorts) (flat (listed encode_fact) u.lists),
    )

-- ── the body ──
pub front_bytes : (p : List ℕ) → Bytes p → body_length ≤ length p → Bytes (body_of p)
front_bytes p bytes long i =
    by_size i body_length
    (λ h. omega (arith, get_or-take body_length p i 0 h, bytes i))
    (λ h.
    let l : length (body_of p) ≤ i = omega (arith, length-take-le body_length p long) in
    omega (arith, get_or-eq_default (body_of p) 0 l))

module _ (p : List ℕ) (bytes : Bytes p) (long : body_length ≤ length p) (P : Protocol) (f : Body (body_of p) P) where
  slots_same : slots_of (body_of p) ≡ slots_of p
  slots_same = take-take slot_count body_length p (omega arith)

  arities_same : arities_of (body_of p) ≡ arities_of p
  arities_same = section_same p body_length arities_at symbol_count (omega arith) long

  few : length (arities_of (body_of p)) ≡ symbol_count
  few = arities_length (body_of p) f.long

  rule_longer : (u : Rule) (place : ℕ) → RuleAt (body_of p) u place → RuleAt p u place
  rule_longer u place h =
      subst₂ (λ (a b : List ℕ). Here (rule p a b) u place) slots_same arities_same
      (here_longer p body_length (rule (body_of p) (slots_of (body_of p)) (arities_of (body_of p))) (rule p (slots_of (body_of p)) (arities_of (body_of p))) _ encode_rule
      (rule_exact (body_of p) (front_bytes p bytes long) (slots_of (body_of p)) (arities_of (body_of p)) (omega (arith, few)))
      (rule_exact p bytes (slots_of (body_of p)) (arities_of (body_of p)) (omega (arith, few))) u (rule_some u) place h)

  pub list_longer : (u : Rule) (list place : ℕ) → ListAt (body_of p) u list place → ListAt p u list place
  list_longer u list place h =
      subst₂ (λ (a b : List ℕ). Here (facts p a b) (list_of list u) place) slots_same arities_same
      (here_longer p body_length (facts (body_of p) (slots_of (body_of p)) (arities_of (body_of p))) (facts p (slots_of (body_of p)) (arities_of (body_of p))) _
      (listed encode_fact)
      (facts_exact (body_of p) (front_bytes p bytes long) (slots_of (body_of p)) (arities_of (body_of p)) (omega (arith, few)))
      (facts_exact p bytes (slots_of (body_of p)) (arities_of (body_of p)) (omega (arith, few))) (list_of list u) (list_some (list_of list u)) place h)

  -- a fact of a list stands at the same place
  pub fact_longer :
      (fs : List Fact) (place i : ℕ) → Here (prepared_facts (body_of p)) fs place → i < length fs → fact_place_in (body_of p) place i ≡ fact_place_in p place i
  unfolding facts counted
  fact_longer fs place i h l =
      let q : List ℕ = body_of p in
      let a : List ℕ = slots_of q in
      let b : List ℕ = arities_of q in
      cut_got (below q fact_limit place) _ h.reads (λ n d hn hm.
      let s = ((below_exact q (front_bytes p bytes long) fact_limit).form n place d hn).1 in
      let inside : d ≤ length q = stands_within s (groups_some n) in
      let there : below p fact_limit place ≡ got n d =
      reads_longer p body_length (below q fact_limit) (below p fact_limit) _ groups (below_exact q (front_bytes p bytes long) fact_limit)
      (below_exact p bytes fact_limit) n place d
      (omega (arith, s.ends)) hn in
      let r = many_nth (fact q a b) n d h.next i fs hm (omega (arith, many_length (fact q a b) n d h.next fs hm)) in
      let before : many (fact p a b) i d ≡ got r.front r.place =
      reads_longer p body_length (many (fact q a b) i) (many (fact p a b) i) _ (flat encode_fact)
      (many_exact q (fact q a b) _ encode_fact (fact_exact q (front_bytes p bytes long) a b (omega (arith, few))) i)
      (many_exact p (fact p a b) _ encode_fact (fact_exact p bytes a b (omega (arith, few))) i) r.front d r.place inside r.before in
      fact_got q a b place i hn ∙ ap place_of r.before ∙ sym (fact_got p a b place i there ∙ ap place_of before)
      ∙ ap₂ (λ (x y : List ℕ). fact_place p x y place i) slots_same arities_same)

  place_same : (n : ℕ) → n < rule_count → place_at (body_of p) n ≡ place_at p n
  place_same n h =
      ap₂ (λ (a b : ℕ). a * place_base + b) (get_or-take body_length p (cell_at n) 0 (omega arith)) (get_or-take body_length p (cell_at n + 1) 0 (omega arith))

  entry_longer : (n : ℕ) → n < rule_count → (o : Option Rule) → Entry (body_of p) n o → Entry p n o
  entry_longer n h (Some u) e =
      subst (RuleThere p u) (place_same n h) record { here = rule_longer u (place_at (body_of p) n) e.here; there = e.there }
  entry_longer n h None e = sym (place_same n h) ∙ e

  pub body_longer : Body p P
  body_longer = record {
    within = f.within;
    long = long;
    slotted = sym slots_same ∙ f.slotted;
    tabled = sym arities_same ∙ f.tabled;
    flagged = sym (section_same p body_length linears_at symbol_count (omega arith) long) ∙ f.flagged;
    rules = λ n h. entry_longer n h (rule_of P n) (f.rules n h);
  }
