-- Four numbers of the table are the bytes of an edge; one number more is counted, or written.
use Rattle.std.specs.Prelude.{ℕ, suc, ◌+◌, ◌-◌, ◌*◌, ◌^◌, ◌≤◌, ◌<◌, List, [], ◌∷◌, ◌++◌, ◌≡◌, refl, length, get_or, take, drop}
use Rattle.std.proofs.Common.{append_assoc, append-nil, ap, ap₂, sym, ◌∙◌, arith, length-append, length-drop, take_all, take-suc, take-add, get_or-drop}
use Rattle.octets.specs.Splice.{splice}
use Rattle.octets.specs.Splice.Laws.{splice_nil, splice_splice, length_splice}
use Rattle.number.specs.Groups.{groups}
use Rattle.number.specs.Groups.Laws.{groups_few}
use Rattle.number.specs.Layout.{flat, listed}
use Rattle.number.specs.Layout.Laws.{flat_append}
use Rattle.rewriting.specs.Graph.{Edge}
use Rattle.graph.specs.Graph.{encode_edge}
use Rattle.graph.specs.Table.{edge_fields, edge_at, no_edge, EdgesIn}
use Rattle.graph.specs.Table.Reading.{edge_same}
use Rattle.writer.specs.Edges.{number_room, number_bytes}

-- one number more
pub bytes_more : (edges : List ℕ) (i : ℕ) → i < length edges → number_bytes edges (i + 1) ≡ number_bytes edges i ++ groups (get_or edges i 0)
bytes_more edges i l =
    let e : i + 1 ≡ suc i = omega arith in
    ap (number_bytes edges) e
    ∙ ap (flat groups) (take-suc edges i 0 l)
    ∙ flat_append groups (take i edges) (get_or edges i 0 ∷ [])
    ∙ ap (λ (l : List ℕ). number_bytes edges i ++ l) (append-nil (groups (get_or edges i 0)))

pub length_more :
    (edges : List ℕ) (i n : ℕ) → i < length edges → n ≡ length (number_bytes edges i) → n + length (groups (get_or edges i 0)) ≡ length (number_bytes edges (i + 1))
length_more edges i n l e =
    omega (arith, e, ap length (bytes_more edges i l), length-append (number_bytes edges i) (groups (get_or edges i 0)))

-- fewer numbers take no more
pub length_mono : (edges : List ℕ) (i k : ℕ) → i ≤ k → length (number_bytes edges i) ≤ length (number_bytes edges k)
length_mono edges i k l =
    let e : k ≡ i + (k - i) = omega arith in
    omega (
      arith,
      ap (λ (j : ℕ). length (number_bytes edges j)) e,
      ap (λ (l : List ℕ). length (flat groups l)) (take-add i (k - i) edges),
      ap length (flat_append groups (take i edges) (take (k - i) (drop i edges))),
      length-append (number_bytes edges i) (flat groups (take (k - i) (drop i edges))),
    )

-- ── four numbers are an edge ──
four_bytes :
    (a b c d : ℕ) → groups a ++ (groups b ++ (groups c ++ (groups d ++ []))) ≡ (groups a ++ groups b) ++ (groups c ++ groups d)
four_bytes a b c d =
    ap (λ (l : List ℕ). groups a ++ (groups b ++ (groups c ++ l))) (append-nil (groups d))
    ∙ sym (append_assoc (groups a) (groups b) (groups c ++ groups d))

edge_bytes_lem : (ns : List ℕ) → 4 ≤ length ns → flat groups (take 4 ns) ≡ encode_edge (edge_at ns 0)
edge_bytes_lem [] l = absurd (omega arith)
edge_bytes_lem (a ∷ []) l = absurd (omega arith)
edge_bytes_lem (a ∷ (b ∷ [])) l = absurd (omega arith)
edge_bytes_lem (a ∷ (b ∷ (c ∷ []))) l = absurd (omega arith)
edge_bytes_lem (a ∷ (b ∷ (c ∷ (d ∷ ns)))) l = four_bytes a b c d

all_bytes :
    (es : List Edge) (ns : List ℕ) → 4 * length es ≤ length ns → ((j : ℕ) → j < length es → get_or es j no_edge ≡ edge_at ns j)
    → number_bytes ns (4 * length es) ≡ flat encode_edge es
all_bytes [] ns l each = refl
all_bytes (e ∷ es) ns l each =
    let n : 4 * suc (length es) ≡ 4 + 4 * length es = omega arith in
    ap (number_bytes ns) n
    ∙ ap (flat groups) (take-add 4 (4 * length es) ns)
    ∙ flat_append groups (take 4 ns) (take (4 * length es) (drop 4 ns))
    ∙ ap₂ (λ (x y : List ℕ). x ++ y)
    (edge_bytes_lem ns (omega arith) ∙ ap encode_edge (sym (each 0 (omega arith))))
    (all_bytes es (drop 4 ns) (omega (arith, length-drop 4 ns)) (λ j h.
    each (suc j) (omega arith) ∙ edge_same ns (drop 4 ns) (suc j) j (λ k m.
    let q : 4 * suc j + k ≡ 4 + (4 * j + k) = omega arith in
    ap (λ (i : ℕ). get_or ns i 0) q ∙ sym (get_or-drop 4 ns (4 * j + k) 0))))

module _ {edges : List ℕ} {m : ℕ} {es : List Edge} (h : EdgesIn edges m es) where
  pub edges_bytes : groups m ++ number_bytes edges (edge_fields * m) ≡ listed encode_edge es
  edges_bytes =
      let b = all_bytes es edges (omega (arith, h.count, h.long)) (λ j l. h.each j (omega (arith, h.count))) in
      ap₂ (λ (x y : List ℕ). x ++ y) (ap groups (sym h.count)) (ap (λ (n : ℕ). number_bytes edges (4 * n)) (sym h.count) ∙ b)

  pub edges_length : (a b : ℕ) → a ≡ length (groups m) → b ≡ length (number_bytes edges (edge_fields * m)) → a + b ≡ length (listed encode_edge es)
  edges_length a b ha hb =
      omega (arith, ha, hb, ap length edges_bytes, length-append (groups m) (number_bytes edges (edge_fields * m)))

  -- ── the steps' bytes, the count, the edges ──
  module _ (out steps : List ℕ) (room : length steps + length (listed encode_edge es) ≤ length out) where
    abbrev whole : List ℕ
    whole = steps ++ listed encode_edge es

    pub steps_room : 0 + length steps ≤ length out
    steps_room = omega (arith, room)

    module _ (out₁ : List ℕ) (at : ℕ) (hat : at ≡ 0 + length steps) (h₁ : out₁ ≡ splice out 0 steps) where
      first_long : length out₁ ≡ length out
      first_long = ap length h₁ ∙ length_splice out 0 steps steps_room

      pub count_room : at + length (groups m) ≤ length out₁
      count_room =
          omega (arith, room, hat, first_long, ap length edges_bytes, length-append (groups m) (number_bytes edges (edge_fields * m)))

      module _ (out₂ : List ℕ) (from : ℕ) (hfrom : from ≡ at + length (groups m)) (h₂ : out₂ ≡ splice out₁ at (groups m)) where
        pub numbers_room : from + length (number_bytes edges (edge_fields * m)) ≤ length out₂
        numbers_room =
            omega (
              arith,
              room,
              hat,
              hfrom,
              first_long,
              ap length h₂ ∙ length_splice out₁ at (groups m) count_room,
              ap length edges_bytes,
              length-append (groups m) (number_bytes edges (edge_fields * m)),
            )

        pub graph_written : (out₃ : List ℕ) → out₃ ≡ splice out₂ from (number_bytes edges (edge_fields * m)) → out₃ ≡ splice out 0 whole
        graph_written out₃ h₃ =
            let bs : List ℕ = number_bytes edges (edge_fields * m) in
            h₃
            ∙ ap₂ (λ (l : List ℕ) (i : ℕ). splice l i bs) h₂ hfrom
            ∙ splice_splice out₁ at (groups m) count_room bs
            ∙ ap₂ (λ (l : List ℕ) (i : ℕ). splice l i (groups m ++ bs)) h₁ hat
            ∙ splice_splice out 0 steps steps_room (groups m ++ bs)
            ∙ ap (λ (l : List ℕ). splice out 0 (steps ++ l)) edges_bytes

-- ── numbers of the table, all of them ──
pub all_numbers : (ns : List ℕ) (k : ℕ) → k ≡ length ns → number_bytes ns k ≡ flat groups ns
all_numbers ns k e = ap (flat groups) (take_all k ns (omega arith))

pub all_room : (out ns : List ℕ) (at : ℕ) → at + length (flat groups ns) ≤ length out → at + length (number_bytes ns (length ns)) ≤ length out
all_room out ns at h = omega (arith, h, ap length (all_numbers ns (length ns) refl))

pub number_short : (n : ℕ) → n < 2 ^ 32 → length (groups n) ≤ number_room
number_short n h = groups_few 4 n (omega arith)

-- ── numbers written one behind the other: the first i of k are ──
module _ (out : List ℕ) (at : ℕ) (edges : List ℕ) (k : ℕ) (room : at + length (number_bytes edges k) ≤ length out) (long : k ≤ length edges) where
  pub record Wrote (i o : ℕ) (out' : List ℕ) : Type 0 where
    pub next : o ≡ at + length (number_bytes edges i)
    pub left : out' ≡ splice out at (number_bytes edges i)

  pub wrote_none : Wrote 0 at out
  wrote_none = record { next = omega arith; left = sym (splice_nil out at) }

  module _ {i o : ℕ} {out' : List ℕ} (l : i ≤ k) (w : Wrote i o out') where
    pub wrote_long : length out' ≡ length out
    wrote_long = ap length w.left ∙ length_splice out at (number_bytes edges i) (omega (arith, length_mono edges i k l))

    module _ (m : i < k) where
      more : at + length (number_bytes edges i) + length (groups (get_or edges i 0)) ≤ length out
      more = omega (arith, length_more edges i (length (number_bytes edges i)) (omega arith) refl, length_mono edges (i + 1) k (omega arith))

      pub wrote_room : o + length (groups (get_or edges i 0)) ≤ length out'
      wrote_room = omega (arith, more, wrote_long, w.next)

      pub wrote_more :
          {o' : ℕ} {out'' : List ℕ} → o' ≡ o + length (groups (get_or edges i 0)) → out'' ≡ splice out' o (groups (get_or edges i 0)) → Wrote (i + 1) o' out''
      wrote_more h e =
          let n : i < length edges = omega arith in
          record {
            next = omega (arith, h, w.next, length_more edges i (length (number_bytes edges i)) n refl);
            left = e ∙ ap₂ (λ (x : List ℕ) (y : ℕ). splice x y (groups (get_or edges i 0))) w.left w.next
                ∙ splice_splice out at (number_bytes edges i) (omega (arith, length_mono edges i k l)) (groups (get_or edges i 0))
                ∙ ap (splice out at) (sym (bytes_more edges i n));
          }

  pub wrote_all : {i o : ℕ} {out' : List ℕ} → i ≡ k → Wrote i o out' → out' ≡ splice out at (number_bytes edges k)
  wrote_all e w = w.left ∙ ap (λ (j : ℕ). splice out at (number_bytes edges j)) e

  -- of all numbers of the table
  pub wrote_whole : k ≡ length edges → {i o : ℕ} {out' : List ℕ} → i ≡ k → Wrote i o out' → out' ≡ splice out at (flat groups edges)
  wrote_whole f e w = wrote_all e w ∙ ap (splice out at) (all_numbers edges k f)
