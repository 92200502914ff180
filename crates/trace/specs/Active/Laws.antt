-- The nodes with an action, counted by where the actions of each begin.
use Rattle.std.specs.Prelude.{ℕ, suc, ◌+◌, ◌≤◌, ◌<◌, List, [], ◌∷◌, ◌≡◌, length, get_or, take}
use Rattle.std.proofs.Common.{ap, sym, ◌∙◌, arith, lt-ltb, le-ltb, take-suc}
use Rattle.std.proofs.Math.Seq.{take-length}
use Rattle.lists.specs.Lists.{bit, count_by}
use Rattle.lists.specs.Lists.Laws.{count_append}
use Rattle.lists.specs.Joined.{before_more}
use Rattle.protocol.specs.Protocol.{Protocol}
use Rattle.steps.specs.Nodes.{Node, no_node}
use Rattle.trace.specs.Tables.{actions, actions_before, Starts}
use Rattle.trace.specs.Active.{is_active}

-- ── the first k nodes ──
module _ {starts : List ℕ} {P : Protocol} {xs : List Node} (b : Starts starts P xs) (k : ℕ) (l : k < length xs) where
  abbrev x : Node
  x = get_or xs k no_node

  more : get_or starts (k + 1) 0 ≡ get_or starts k 0 + length (actions P x)
  more =
      let z : k + 1 ≡ suc k = omega arith in
      b.begins (k + 1) (omega arith) ∙ ap (actions_before P xs) z ∙ before_more (actions P) no_node xs k l
      ∙ ap (λ (n : ℕ). n + length (actions P x)) (sym (b.begins k (omega arith)))

  counted : count_by (is_active P) (take (k + 1) xs) ≡ count_by (is_active P) (take k xs) + bit (is_active P x)
  counted =
      let z : k + 1 ≡ suc k = omega arith in
      let e : count_by (is_active P) (x ∷ []) ≡ bit (is_active P x) = omega arith in
      ap (λ (n : ℕ). count_by (is_active P) (take n xs)) z ∙ ap (count_by (is_active P)) (take-suc xs k no_node l)
      ∙ count_append (is_active P) (take k xs) (x ∷ []) ∙ ap (λ (n : ℕ). count_by (is_active P) (take k xs) + n) e

  pub active_more : (n : ℕ) → n ≡ count_by (is_active P) (take k xs) → get_or starts k 0 < get_or starts (k + 1) 0 → n + 1 ≡ count_by (is_active P) (take (k + 1) xs)
  active_more n h g = omega (arith, h, counted, ap bit (lt-ltb 0 (length (actions P x)) (omega (arith, g, more))))

  pub active_same : (n : ℕ) → n ≡ count_by (is_active P) (take k xs) → get_or starts (k + 1) 0 ≤ get_or starts k 0 → n ≡ count_by (is_active P) (take (k + 1) xs)
  active_same n h g = omega (arith, h, counted, ap bit (le-ltb 0 (length (actions P x)) (omega (arith, g, more))))

pub active_all : (P : Protocol) (xs : List Node) (k n : ℕ) → k ≡ length xs → n ≡ count_by (is_active P) (take k xs) → n ≡ count_by (is_active P) xs
active_all P xs k n e h = h ∙ ap (λ (i : ℕ). count_by (is_active P) (take i xs)) e ∙ ap (count_by (is_active P)) (take-length xs)
