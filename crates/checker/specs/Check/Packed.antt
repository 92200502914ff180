-- The packed answer of checking comes apart into the outcome.
use Rattle.std.specs.Prelude.{ℕ, ◌+◌, ◌*◌, ◌/◌, ◌%◌, ◌^◌, ◌<◌, List, Bool, true, false, ◌≡◌, eqb}
use Rattle.std.proofs.Common.{ap, ap₂, ◌∙◌, arith}
use Rattle.lists.specs.Choice.{pick}
use Rattle.octets.specs.Head.{Bytes}
use Rattle.rewriting.specs.Table.{Ruling, passed, refused}
use Rattle.checker.specs.Check.{Checked, kind_of, packed_ruling, check_outcome}
use Rattle.checker.specs.Check.Bounds.{OutcomeSmall, check_small}

abbrev counts_in : Bool → ℕ → Checked
counts_in b a = record { holds = b; nodes = a / 2 ^ 32 % 2 ^ 16; active = a / 2 ^ 16 % 2 ^ 16; edges = a % 2 ^ 16 }

abbrev by_kind : ℕ → ℕ → Ruling Checked
by_kind kind a = pick (eqb kind 0) (refused (a / 2 ^ 32) (a % 2 ^ 32)) (pick (eqb kind 1) (passed (counts_in false a)) (passed (counts_in true a)))

abbrev pub unpacked_ruling : ℕ → Ruling Checked
unpacked_ruling a = by_kind (a / 2 ^ 56) a

checked_is : (b : Bool) (n m e n' m' e' : ℕ) → n ≡ n' → m ≡ m' → e ≡ e'
    → ◌≡◌ {A = Checked} (record { holds = b; nodes = n; active = m; edges = e }) (record { holds = b; nodes = n'; active = m'; edges = e' })
checked_is b n m e n' m' e' p q r = cc

module _ (n m e : ℕ) (a : n < 2 ^ 16) (b : m < 2 ^ 16) (c : e < 2 ^ 16) where
  abbrev figure : ℕ → ℕ
  figure kind = kind * 2 ^ 56 + n * 2 ^ 32 + m * 2 ^ 16 + e

  abbrev is : Bool → Checked
  is h = record { holds = h; nodes = n; active = m; edges = e }

  counts_back : (kind : ℕ) (h : Bool) → counts_in h (figure kind) ≡ is h
  counts_back kind h = checked_is h _ _ _ n m e (omega arith) (omega arith) (omega arith)

  ruling_back : (h : Bool) → unpacked_ruling (figure (kind_of h)) ≡ passed (is h)
  ruling_back false =
      let z : figure 1 / 2 ^ 56 ≡ 1 = omega arith in
      ap (λ (i : ℕ). by_kind i (figure 1)) z ∙ ap (λ (x : Checked). passed x) (counts_back 1 false)
  ruling_back true =
      let z : figure 2 / 2 ^ 56 ≡ 2 = omega arith in
      ap (λ (i : ℕ). by_kind i (figure 2)) z ∙ ap (λ (x : Checked). passed x) (counts_back 2 true)

pub unpacked_packed : (r : Ruling Checked) → OutcomeSmall r → unpacked_ruling (packed_ruling r) ≡ r
unpacked_packed (passed c) h =
    ruling_back c.nodes c.active c.edges (omega (arith, h.nodes)) (omega (arith, h.nodes, h.active)) (omega (arith, h.edges)) c.holds
unpacked_packed (refused n k) h =
    let z : (n * 2 ^ 32 + k) / 2 ^ 56 ≡ 0 = omega (arith, h.0, h.1) in
    ap (λ (i : ℕ). by_kind i (n * 2 ^ 32 + k)) z
    ∙ ap₂ {C = Ruling Checked} refused (omega (arith, h.1)) (omega (arith, h.1))

module _ (protocol property graph : List ℕ) (bytes : Bytes protocol) (property_bytes : Bytes property) (graph_bytes : Bytes graph) (work : ℕ) where
  -- the answer of the C function tells the outcome
  pub check_unpacked :
      unpacked_ruling (packed_ruling (check_outcome protocol property graph work)) ≡ check_outcome protocol property graph work
  check_unpacked =
      unpacked_packed (check_outcome protocol property graph work) (check_small protocol property graph bytes property_bytes graph_bytes work)
