-- What reading leaves in the table: the numbers of the edges one behind the other, and so the edges.
use Prim.Native.Nat.{ℕ, zero, suc, ◌+◌, ◌*◌, ◌≤◌, ◌<◌}
use mathlib.Core.List.{List, [], ◌∷◌, ◌++◌}
use Rattle.std.specs.Prelude.{Option, Some, None, ◌≡◌, length, get_or, drop, set}
use Rattle.std.proofs.Math.Path.{refl, ap, sym}
use Rattle.std.proofs.Common.{ap₂, ◌∙◌, subst, arith, add-one, get_or-drop, get_or-set_same, get_or-set_other}
use Rattle.std.proofs.Math.ListN.{get_or-append}
use Rattle.std.proofs.Math.Seq.{drop-append_seam}
use Rattle.lists.specs.Choice.{by_size}
use Rattle.octets.specs.Head.{Bytes, stands_within}
use Rattle.number.specs.Groups.{groups, number_limit}
use Rattle.number.specs.Groups.Laws.{groups_some}
use Rattle.number.specs.Layout.{flat}
use Rattle.number.specs.Layout.Laws.{flat_long, number_exact, many_exact}
use Rattle.number.specs.Reading.{Read, got, fault, and_then, read_number, below, many}
use Rattle.number.specs.Reading.Laws.{then_got, then_fault, then_then, then_ext, then_same_at}
use Rattle.number.specs.Reading.Many.{many_split, many_snoc, many_stop, many_length, counted_got, counted_fault}
use Rattle.rewriting.specs.Graph.{Edge}
use Rattle.graph.specs.Graph.{place_of, edge_of, most_edges, place, edge, edge_list}
use Rattle.graph.specs.Table.{edge_fields, edge_at, no_edge, FieldsFor, EdgesIn}

-- ── what code answers ──
-- some numbers stand in the table from its start
pub record NumbersAre (s : List ℕ) (at k : ℕ) (edges : List ℕ) (e : ℕ) : Type 0 where
  pub items : List ℕ
  pub there : many (read_number s) k at ≡ got items e
  pub each : (i : ℕ) → i < k → get_or edges i 0 ≡ get_or items i 0

-- the place behind them, or a fault
abbrev pub NumbersRead : List ℕ → ℕ → ℕ → List ℕ → Option ℕ → Type 0
NumbersRead s at k edges (Some e) = NumbersAre s at k edges e
NumbersRead s at k edges None = many (read_number s) k at ≡ fault

-- edges that were read stand in the table
pub record EdgesAre (r : Read (List Edge)) (edges : List ℕ) (m e : ℕ) : Type 0 where
  pub items : List Edge
  pub there : r ≡ got items e
  pub stand : EdgesIn edges m items

-- how many, and the place behind them, or a fault
abbrev EdgesTold : Read (List Edge) → List ℕ → Option (ℕ × ℕ) → Type 0
EdgesTold r edges (Some (m, e)) = EdgesAre r edges m e
EdgesTold r edges None = r ≡ fault

-- m of them; a count and that many
abbrev pub EdgesFrom : List ℕ → ℕ → ℕ → List ℕ → Option (ℕ × ℕ) → Type 0
EdgesFrom s at m edges r = EdgesTold (many (edge s) m at) edges r

abbrev pub EdgesRead : List ℕ → ℕ → List ℕ → Option (ℕ × ℕ) → Type 0
EdgesRead s at edges r = EdgesTold (edge_list s at) edges r

-- ── four numbers are an edge ──
-- an edge is its four numbers
module _ (a b : List ℕ) (i j : ℕ) (same : (k : ℕ) → k < 4 → get_or a (4 * i + k) 0 ≡ get_or b (4 * j + k) 0) where
  field_same : (k m n : ℕ) → k < 4 → m ≡ 4 * i + k → n ≡ 4 * j + k → get_or a m 0 ≡ get_or b n 0
  field_same k m n l p q = ap (λ (x : ℕ). get_or a x 0) p ∙ same k l ∙ ap (λ (x : ℕ). get_or b x 0) (sym q)

  pub edge_same : edge_at a i ≡ edge_at b j
  edge_same =
      ap₂ edge_of
      (ap₂ place_of (field_same 0 _ _ (omega arith) (omega arith) (omega arith)) (field_same 1 _ _ (omega arith) (omega arith) (omega arith)))
      (ap₂ place_of (field_same 2 _ _ (omega arith) (omega arith) (omega arith)) (field_same 3 _ _ (omega arith) (omega arith) (omega arith)))

abbrev quads : ℕ → List ℕ → List Edge
quads zero ns = []
quads (suc m) ns = edge_at ns 0 ∷ quads m (drop 4 ns)

quads_length : (m : ℕ) (ns : List ℕ) → length (quads m ns) ≡ m
quads_length zero ns = refl
quads_length (suc m) ns = ap suc (quads_length m (drop 4 ns))

quads_at : (m : ℕ) (ns : List ℕ) (j : ℕ) → j < m → get_or (quads m ns) j no_edge ≡ edge_at ns j
quads_at zero ns j l = absurd (omega arith)
quads_at (suc m) ns zero l = refl
quads_at (suc m) ns (suc j) l =
    quads_at m (drop 4 ns) j (omega arith)
    ∙ edge_same (drop 4 ns) ns j (suc j) (λ k h.
    let e : 4 + (4 * j + k) ≡ 4 * suc j + k = omega arith in
    get_or-drop 4 ns (4 * j + k) 0 ∙ ap (λ (x : ℕ). get_or ns x 0) e)

-- the first four of more numbers
quads_more : (m : ℕ) (xs ys : List ℕ) → length xs ≡ 4 → quads (suc m) (xs ++ ys) ≡ edge_at xs 0 ∷ quads m ys
quads_more m xs ys h =
    ap₂ (λ (e : Edge) (ns : List ℕ). e ∷ quads m ns)
    (edge_same (xs ++ ys) xs 0 0 (λ k l. get_or-append xs ys 0 (4 * 0 + k) (omega arith)))
    (ap (λ (n : ℕ). drop n (xs ++ ys)) (sym h) ∙ drop-append_seam xs ys)

module _ (s : List ℕ) where
  edge_four : (at : ℕ) → edge s at ≡ and_then (many (read_number s) 4 at) (λ ns e. got (edge_at ns 0) e)
  unfolding edge place many
  edge_four at = simp then_then

  -- so m edges are four times as many numbers
  edges_numbers : (m at : ℕ) → many (edge s) m at ≡ and_then (many (read_number s) (4 * m) at) (λ ns e. got (quads m ns) e)
  unfolding many
  edges_numbers zero at = refl
  edges_numbers (suc m) at =
      ap (λ (r : Read Edge). and_then r (λ x e. and_then (many (edge s) m e) (λ xs f. got (x ∷ xs) f))) (edge_four at)
      ∙ then_then (many (read_number s) 4 at) _ _
      ∙ then_same_at (many (read_number s) 4 at) _ _ (λ xs e h.
      ap (λ (r : Read (List Edge)). and_then r (λ es f. got (edge_at xs 0 ∷ es) f)) (edges_numbers m e)
      ∙ then_then (many (read_number s) (4 * m) e) _ _
      ∙ then_ext (many (read_number s) (4 * m) e) _ _ (λ ys f. ap (λ (es : List Edge). got es f)
      (sym (quads_more m xs ys (many_length (read_number s) 4 at e xs h))))
      ∙ sym (then_then (many (read_number s) (4 * m) e) _ _))
      ∙ sym (then_then (many (read_number s) 4 at) _ _)
      ∙ ap (λ (r : Read (List ℕ)). and_then r (λ ns e. got (quads (suc m) ns) e))
      (sym (many_split (read_number s) (4 * m) 4 (4 * suc m) at (omega arith)))

-- ── the loop over the numbers ──
module _ (s : List ℕ) (at : ℕ) where
  pub numbers_none : (edges : List ℕ) → NumbersAre s at 0 edges at
  unfolding many
  numbers_none edges = record { items = []; there = refl; each = λ i l. absurd (omega arith) }

  module _ (edges : List ℕ) (j i : ℕ) (came : NumbersAre s at j edges i) where
    pub numbers_more : (v e : ℕ) → j < length edges → read_number s i ≡ got v e → NumbersAre s at (j + 1) (set edges j v) e
    numbers_more v e l h = record {
      items = came.items ++ (v ∷ []);
      there = rw add-one (many_snoc (read_number s) j at i e came.items v came.there h);
      each = λ k m. by_size k j
          (λ lt. get_or-set_other edges j k v 0 (λ q. omega arith) ∙ came.each k lt ∙ sym (get_or-append came.items (v ∷ []) 0 k (omega (arith, long))))
          (λ ge. let q : k ≡ j = omega arith in
          ap (λ (n : ℕ). get_or (set edges j v) n 0) q ∙ get_or-set_same edges j v 0 l ∙ sym
          (ap (λ (n : ℕ). get_or (came.items ++ (v ∷ [])) n 0) (q ∙ sym long) ∙ last came.items));
    }
      where
        long : length came.items ≡ j
        long = many_length (read_number s) j at i came.items came.there

        last : (xs : List ℕ) → get_or (xs ++ (v ∷ [])) (length xs) 0 ≡ v
        last [] = refl
        last (x ∷ xs) = last xs

    pub numbers_fault : (k : ℕ) → j < k → read_number s i ≡ fault → many (read_number s) k at ≡ fault
    numbers_fault k l h = many_stop (read_number s) j k at i came.items came.there h l

    pub numbers_end : (k : ℕ) → j ≡ k → NumbersAre s at k edges i
    numbers_end k h = subst (λ (n : ℕ). NumbersAre s at n edges i) h came

-- ── m edges ──
module _ (s : List ℕ) (at m : ℕ) (edges : List ℕ) (r : Option ℕ) (told : NumbersRead s at (4 * m) edges r) where
  as_read : {q : Option ℕ} → r ≡ q → NumbersRead s at (4 * m) edges q
  as_read h = subst (NumbersRead s at (4 * m) edges) h told

  pub edges_end : {e : ℕ} → r ≡ Some e → m ≤ most_edges → FieldsFor edges m → EdgesAre (many (edge s) m at) edges m e
  edges_end q few long =
      let h = as_read q in
      record {
        items = quads m h.items;
        there = edges_numbers s m at ∙ then_got (many (read_number s) (4 * m) at) _ h.there;
        stand = record {
          count = quads_length m h.items;
          few = few;
          each = λ j l. quads_at m h.items j l ∙ edge_same h.items edges j j (λ k n. sym (h.each (4 * j + k) (omega arith)));
          long = long;
        };
      }

  pub edges_fault : r ≡ None → many (edge s) m at ≡ fault
  edges_fault q = edges_numbers s m at ∙ then_fault (many (read_number s) (4 * m) at) _ (as_read q)

-- ── each number takes a byte at least, so a file of fewer bytes has fewer ──
pub edges_short : (s : List ℕ) → Bytes s → (at m : ℕ) → length s < edge_fields * m → many (edge s) m at ≡ fault
edges_short s bytes at m h = edges_numbers s m at ∙ then_fault (many (read_number s) (4 * m) at) _ (go (many (read_number s) (4 * m) at) refl)
  where
    go : (r : Read (List ℕ)) → many (read_number s) (4 * m) at ≡ r → r ≡ fault
    go fault q = refl
    go (got ns e) q =
        let f = (many_exact s (read_number s) (λ v. v < number_limit) groups (number_exact s bytes) (4 * m)).form ns at e q in
        let some : 0 < length (flat groups ns) = omega (arith, f.0.0, flat_long groups groups_some ns) in
        absurd (omega (arith, f.0.0, flat_long groups groups_some ns, f.1.ends, stands_within f.1 some))

-- the count and then the edges
pub edges_told : (s : List ℕ) (at n e : ℕ) (edges : List ℕ) (r : Option (ℕ × ℕ)) → below s (suc most_edges) at ≡ got n e → EdgesFrom s e n edges r → EdgesRead s at edges
    r
unfolding edge_list
edges_told s at n e edges r h t =
    subst (λ (q : Read (List Edge)). EdgesTold q edges r) (sym (counted_got s (edge s) most_edges at n e h)) t

pub edges_none : (s : List ℕ) (at : ℕ) → below s (suc most_edges) at ≡ fault → edge_list s at ≡ fault
unfolding edge_list
edges_none s at h = counted_fault s (edge s) most_edges at h
