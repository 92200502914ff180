-- The loop over a node's values: what stands at each place, and what is left to do at each turn.
use Rattle.std.specs.Prelude.{ℕ, zero, suc, ◌+◌, ◌≤◌, ◌<◌, List, [], ◌∷◌, Bool, true, false, not, ◌&&◌, ◌||◌, ◌≡◌, refl, length, get_or, drop, ltb}
use Rattle.std.proofs.Math.Bool.{and-false}
use Rattle.std.proofs.Common.{ap, ap₂, sym, ◌∙◌, subst, arith, drop_of_length-le, drop-cons}
use Rattle.lists.specs.Choice.{clash}
use Rattle.lists.specs.Tests.{by_bool, or_split}
use Rattle.number.specs.Groups.{number_limit}
use Rattle.term.specs.Term.{Term, symbols}
use Rattle.term.specs.Walk.{holds}
use Rattle.canonical.specs.Builtins.{Builtins, declared}
use Rattle.protocol.specs.Protocol.{Protocol}
use Rattle.prepared.specs.Prepared.{slots_of}
use Rattle.steps.specs.Nodes.{Node}
use Rattle.steps.specs.Table.{places_at, sizes_at, held_at, holds_any, held_flag, NodeIn}
use Rattle.steps.specs.Values.{most_in_value}
use Rattle.steps.specs.Values.Tests.{of_sort, is_canonical, value_ok, values_ok, of_rule, node_values_ok}
use Rattle.steps.specs.Values.Parts.{no_term}
use Rattle.steps.specs.Values.Code.{GroundThere}

-- ── whether a value holds a variable ──
flag_none : (b : Bool) → held_flag b ≡ 0 → b ≡ false
flag_none true h = absurd (omega arith)
flag_none false h = refl

flag_some : (b : Bool) → (held_flag b ≡ 0 → ⊥) → b ≡ true
flag_some true h = refl
flag_some false h = absurd (h refl)

none_held : (vs : List Term) → holds_any vs ≡ false → (v : ℕ) → v < length vs → holds (get_or vs v no_term) 0 0 number_limit ≡ false
none_held [] h v l = absurd (omega arith)
none_held (t ∷ vs) h zero l = (or_split (holds t 0 0 number_limit) (holds_any vs) h).0
none_held (t ∷ vs) h (suc v) l = none_held vs (or_split (holds t 0 0 number_limit) (holds_any vs) h).1 v (omega arith)

some_held : (ss : List ℕ) (vs : List Term) → length ss ≡ length vs → holds_any vs ≡ true → values_ok ss vs ≡ false
some_held ss [] n h = clash (cc)
some_held [] (v ∷ vs) n h = absurd (omega arith)
some_held (s ∷ ss) (v ∷ vs) n h =
    by_bool (holds v 0 0 number_limit)
    (λ b. ap (λ (a : Bool). (not a && (of_sort s v && (ltb (symbols v) (suc most_in_value) && is_canonical v))) && values_ok ss vs) b)
    (λ b. ap (λ (a : Bool). value_ok s v && a) (some_held ss vs (omega arith) (sym (ap (λ (a : Bool). a || holds_any vs) b) ∙ h)) ∙ and-false (value_ok s v))

module _ {p s nodes : List ℕ} {j : ℕ} {P : Protocol} {x : Node} (h : NodeIn p s nodes j P x) where
  abbrev sorts : List ℕ
  sorts = h.within.is.sorts

  pub node_table : Builtins (slots_of p)
  node_table = subst Builtins (sym h.prepared.body.slotted) (declared P.functions)

  -- where none holds a variable, value v stands there
  pub value_there :
      get_or nodes (held_at j) 0 ≡ 0 → (v : ℕ) → v < length x.values
      → GroundThere (slots_of p) s (get_or nodes (places_at j + v) 0) (get_or nodes (sizes_at j + v) 0) (get_or x.values v no_term)
  value_there z v l = record {
    end = get_or nodes (places_at j + (v + 1)) 0;
    is = record { table = node_table; there = h.row.places v l; short = h.short };
    is_ground = none_held x.values (flag_none (holds_any x.values) (sym h.row.held ∙ z)) v l;
    sized = h.row.sizes v l;
  }

  -- a value that holds a variable does not fit
  pub held_bad : (get_or nodes (held_at j) 0 ≡ 0 → ⊥) → false ≡ node_values_ok P x
  held_bad z =
      sym (ap (of_rule (λ u. values_ok u.sorts x.values)) h.within.known
      ∙ some_held h.within.is.sorts x.values (sym h.within.takes) (flag_some (holds_any x.values) (λ q. z (h.row.held ∙ q))))

  -- the values from v on are left
  abbrev pub Left : ℕ → Type 0
  Left v = values_ok sorts x.values ≡ values_ok (drop v sorts) (drop v x.values)

  pub left_all : Left 0
  left_all = refl

  abbrev pub test : ℕ → Bool
  test v = value_ok (get_or sorts v 0) (get_or x.values v no_term)

  turn : (v : ℕ) → v < length x.values → Left v → values_ok sorts x.values ≡ (test v && values_ok (drop (v + 1) sorts) (drop (v + 1) x.values))
  turn v l g =
      let o : suc v ≡ v + 1 = omega arith in
      g ∙ ap₂ values_ok (drop-cons sorts v 0 (omega (arith, h.within.takes))) (drop-cons x.values v no_term l)
      ∙ ap (λ (k : ℕ). test v && values_ok (drop k sorts) (drop k x.values)) o

  pub left_more : (v : ℕ) → v < length x.values → Left v → test v ≡ true → Left (v + 1)
  left_more v l g t = turn v l g ∙ ap (λ (b : Bool). b && values_ok (drop (v + 1) sorts) (drop (v + 1) x.values)) t

  -- the test of the rule is the node's
  values_test : values_ok sorts x.values ≡ node_values_ok P x
  values_test = sym (ap (of_rule (λ u. values_ok u.sorts x.values)) h.within.known)

  pub left_bad : (v : ℕ) → v < length x.values → Left v → test v ≡ false → false ≡ node_values_ok P x
  left_bad v l g f =
      sym (turn v l g ∙ ap (λ (b : Bool). b && values_ok (drop (v + 1) sorts) (drop (v + 1) x.values)) f) ∙ values_test

  pub left_none : (v : ℕ) → length x.values ≤ v → Left v → true ≡ node_values_ok P x
  left_none v l g =
      let m : length sorts ≤ v = omega (arith, h.within.takes) in
      sym (g ∙ ap (λ (k : List ℕ). values_ok k (drop v x.values)) (drop_of_length-le sorts m)) ∙ values_test
