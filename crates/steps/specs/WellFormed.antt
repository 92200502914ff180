-- "a step list is well formed, under a fit protocol, when causes 2, 3, 6, 7 and 8 are absent from it." A name that is made twice, 9, is no
-- matter: such a list is well formed, and no run.
use Rattle.std.specs.Prelude.{ℕ, ◌≤◌, ◌<◌, List, ◌∷◌, ◌++◌, ◌↔◌, ◌≡◌, refl, length}
use Rattle.std.proofs.Common.{subst, arith}
use Rattle.lists.specs.Choice.{clash, by_size}
use Rattle.lists.specs.All.{All}
use Rattle.octets.specs.Head.{Bytes}
use Rattle.rewriting.specs.Table.{Row, fixed_row, Absent, rows_after}
use Rattle.protocol.specs.Protocol.{Protocol}
use Rattle.steps.specs.Nodes.{Node, Reading, read, broken, no_rule, NodeWithin, steps}
use Rattle.steps.specs.Nodes.Exact.{steps_form}
use Rattle.steps.specs.Values.{NodeRight, value_rows}
use Rattle.steps.specs.Values.Passes.{absent_right}
use Rattle.steps.specs.Causes.{steps_item, read_rows, read_ruling}

-- "Steps (32,768 bytes)"
abbrev pub steps_limit : ℕ
steps_limit = 32768

module _ (p : Protocol) (file : List ℕ) where
  pub record WellFormed : Type 0 where
    pub short : length file ≤ steps_limit
    pub nodes : List Node
    pub end : ℕ
    pub reads : steps p file ≡ read nodes end
    pub right : All (NodeRight p) nodes

  -- 2, then 3 and 6, then 7 and 8
  abbrev pub well_rows : List Row
  well_rows =
      fixed_row 2 steps_item (steps_limit < length file)
      ∷ (read_rows steps_item (steps p file) ++ rows_after (read_ruling steps_item (steps p file)) (value_rows p))

-- ── the rows say just this ──
module _ (p : Protocol) where
  abbrev Clear : Reading (List Node) → Type 0
  Clear r = Absent (read_rows steps_item r ++ rows_after (read_ruling steps_item r) (value_rows p))

  read_clear : (r : Reading (List Node)) (xs : List Node) (e : ℕ) → r ≡ read xs e → Absent (value_rows p xs) → Clear r
  read_clear (read ys d) xs e h a =
      let i : xs ≡ ys = cc in
      ((λ k q. let z = q.1 in clash (cc)), ((λ k q. clash (cc)), subst (λ (zs : List Node). Absent (value_rows p zs)) i a))
  read_clear broken xs e h a = clash (cc)
  read_clear (no_rule k) xs e h a = clash (cc)

  clear_read : (r : Reading (List Node)) → Clear r → (xs : List Node) × (e : ℕ) × (r ≡ read xs e) × Absent (value_rows p xs)
  clear_read (read xs e) a = (xs, e, refl, a.1.1)
  clear_read broken a = absurd (a.0 steps_item (refl, refl))
  clear_read (no_rule k) a = absurd (a.1.0 k refl)

  pub well_formed_exactly : (file : List ℕ) → Bytes file → WellFormed p file ↔ Absent (well_rows p file)
  well_formed_exactly file bytes = (there, back)
    where
      within : (xs : List Node) (e : ℕ) → steps p file ≡ read xs e → All (NodeWithin p) xs
      within xs e h = (steps_form p file bytes xs e h).0.each

      there : WellFormed p file → Absent (well_rows p file)
      there w = (
        (λ k h. omega (arith, h.1, w.short)),
        read_clear (steps p file) w.nodes w.end w.reads
            ((absent_right p w.nodes (within w.nodes w.end w.reads)).1 w.right),
      )

      back : Absent (well_rows p file) → WellFormed p file
      back a =
          let (xs, e, h, c) = clear_read (steps p file) a.1 in
          record {
            short = by_size steps_limit (length file) (λ l. absurd (a.0 steps_item (refl, l))) (λ l. l);
            nodes = xs;
            end = e;
            reads = h;
            right = (absent_right p xs (within xs e h)).0 c;
          }
