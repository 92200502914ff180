-- One rule number after another.
use Rattle.std.specs.Prelude.{ℕ, ◌+◌, ◌*◌, ◌≤◌, ◌<◌, List, ◌≡◌, refl, length, get_or, take}
use Rattle.std.specs.Prelude.{Option, Some, None}
use Rattle.std.proofs.Common.{ap, ap₂, sym, ◌∙◌, subst, arith, length-take-le}
use Rattle.lists.specs.Choice.{by_size}
use Rattle.octets.specs.Splice.{splice}
use Rattle.octets.specs.Splice.Laws.{length_splice, splice_before}
use Rattle.protocol.specs.Protocol.{Protocol, encode_rule}
use Rattle.protocol.specs.Protocol.Exact.{rule_exact, rule_inside, few_arities}
use Rattle.rules.specs.Numbered.{rule_of}
use Rattle.rules.specs.Numbered.Found.{WrittenAs, PlacedAs, Finds}
use Rattle.rules.specs.declared.numbered.FoundRule.{FoundRule}
use Rattle.rules.specs.declared.numbered.FoundRule.TheVariants as fd
use Rattle.rules.specs.Numbered.{rule_room}
use Rattle.rules.specs.Numbered.Slots.{slot_of, slot_rises, slot_few}
use Rattle.prepared.specs.Sections.{rule_count, file_at, cell_at, written_at, body_length, place_base, place_limit}
use Rattle.prepared.specs.Prepared.{place_at}
use Rattle.prepared.specs.Pairs.{paired_other, pair_read}
use Rattle.prepared.specs.Filling.{Source, placed, Row, written, in_file, missing, Kept, Enters, Rows}
use Rattle.prepared.specs.Filling.Lists.{splice_lies, lies_kept}

-- ── a place written ──
module _ (p : List ℕ) (n v : ℕ) (small : n < rule_count) (long : length p ≡ body_length) where
  pub place_read : place_at (placed p n v) n ≡ v
  place_read = pair_read p (cell_at n) v (omega arith)

  place_kept : Kept p (placed p n v) n
  place_kept = record {
    low = λ i h. paired_other p (cell_at n) v i (λ e. omega arith) (λ e. omega arith);
    high = λ i h k. paired_other p (cell_at n) v i (λ e. omega arith) (λ e. omega arith);
  }

-- ── rows stay ──
module _ {arities places : List ℕ} {nr : ℕ} (f : Source arities places nr) where
  pub row_kept :
      (p p' : List ℕ) (m : ℕ) → get_or p' (cell_at m) 0 ≡ get_or p (cell_at m) 0 → get_or p' (cell_at m + 1) 0 ≡ get_or p (cell_at m + 1) 0
      → ((j : ℕ) → slot_of m < slot_of (m + 1) → j < rule_room → get_or p' (written_at (slot_of m) + j) 0 ≡ get_or p (written_at (slot_of m) + j) 0) → Row f p m → Row f
      p' m
  row_kept p p' m a b c (written u is small e few l) =
      written u is small (ap₂ (λ (x y : ℕ). x * place_base + y) a b ∙ e) few
      (lies_kept p (written_at (slot_of m)) (encode_rule u) p' (λ j h. c j small (omega arith)) l)
  row_kept p p' m a b c (in_file u k d is e inside s) = in_file u k d is (ap₂ (λ (x y : ℕ). x * place_base + y) a b ∙ e) inside s
  row_kept p p' m a b c (missing is e) = missing is (ap₂ (λ (x y : ℕ). x * place_base + y) a b ∙ e)

  pub rows_none : (p : List ℕ) → Rows f p p 0
  rows_none p = record { each = λ m h. absurd (omega arith); before = λ i h. refl }

  pub rows_more : (p p₁ p₂ : List ℕ) (n : ℕ) → n < rule_count → Rows f p p₁ n → Enters f p₁ p₂ n → Rows f p p₂ (n + 1)
  rows_more p p₁ p₂ n small r e = record {
    each = λ m h.
        by_size m n
        (λ l. row_kept p₁ p₂ m (e.kept.low (cell_at m) (omega arith)) (e.kept.low (cell_at m + 1) (omega arith))
        (λ j s k. e.kept.high (written_at (slot_of m) + j) (omega arith) (omega (arith, slot_rises (m + 1) n (omega arith), s))) (r.each m l))
        (λ l. let z : n ≡ m = omega arith in subst (Row f p₂) z e.row);
    before = λ i h. e.kept.low i (omega arith) ∙ r.before i h;
  }

  -- all of them
  pub rows_end : (p p₁ : List ℕ) (n : ℕ) → n ≡ rule_count → Rows f p p₁ n → Rows f p p₁ rule_count
  rows_end p p₁ n e r = subst (Rows f p p₁) e r

  -- ── what was found ──
  module _ (n : ℕ) (small : n < rule_count) where
    few : length (take f.ns f.ars) ≤ 36
    few = omega (arith, ap length f.entries.tabled, few_arities f.entries.is.symbols f.entries.within.few_symbols)

    abbrev pub InFile : ℕ → Type 0
    InFile k = PlacedAs f.entries.is f.file arities (take f.ns f.ars) n k

    pub in_file_small : (k : ℕ) → InFile k → k ≤ length f.file
    in_file_small k w =
        let (a, b) = rule_inside f.file f.bytes arities (take f.ns f.ars) (omega (arith, few)) w.its k w.here.next w.here.reads in
        omega (arith, a, b)

    pub place_small : (k : ℕ) → InFile k → file_at + k < place_limit
    place_small k w = omega (arith, in_file_small k w, f.short)

    module _ (p : List ℕ) (long : length p ≡ body_length) (p' : List ℕ) where
      pub enters_own : (k : ℕ) → InFile k → p' ≡ placed p n (file_at + k) → Enters f p p' n
      enters_own k w h =
          let s = (rule_exact f.file f.bytes arities (take f.ns f.ars) (omega (arith, few))).form w.its k w.here.next w.here.reads in
          subst (λ (l : List ℕ). Enters f p l n) (sym h)
          record {
            row = in_file w.its k w.here.next w.is (place_read p n (file_at + k) small long) (in_file_small k w) s.1;
            kept = place_kept p n (file_at + k) small long;
          }

      pub enters_none : rule_of f.entries.is n ≡ None → p' ≡ placed p n 0 → Enters f p p' n
      enters_none is h =
          subst (λ (l : List ℕ). Enters f p l n) (sym h)
          record { row = missing is (place_read p n 0 small long); kept = place_kept p n 0 small long }

      pub enters_written :
          (len : ℕ) (out : List ℕ) → length out ≡ rule_room → (w : WrittenAs f.entries.is n len out)
          → p' ≡ placed (splice p (written_at (slot_of n)) (take len out)) n (written_at (slot_of n)) → Enters f p p' n
      enters_written len out room w h =
          let q : List ℕ = encode_rule w.its in
          let at : ℕ = written_at (slot_of n) in
          let b : take len out ≡ q = w.holds.bytes in
          let l : length q ≤ rule_room = omega (arith, ap length b, w.holds.short, length-take-le len out w.holds.short) in
          let s : slot_of n < 37 = omega (arith, slot_few (n + 1) (omega arith), w.has_slot) in
          let p₁ : List ℕ = splice p at q in
          let n₁ : length p₁ ≡ body_length = length_splice p at q (omega arith) ∙ long in
          let z : p' ≡ placed p₁ n at = h ∙ ap (λ (r : List ℕ). placed (splice p at r) n at) b in
          let k = place_kept p₁ n at small n₁ in
          subst (λ (r : List ℕ). Enters f p r n) (sym z)
          record {
            row = written w.its w.is w.has_slot (place_read p₁ n at small n₁) l
                (lies_kept p₁ at q (placed p₁ n at)
                (λ j m. paired_other p₁ (cell_at n) at (at + j) (λ e. omega arith) (λ e. omega arith))
                (splice_lies p at q (omega arith)));
            kept = record {
              low = λ i m. k.low i m ∙ splice_before p at q (omega arith) 0 i (omega arith);
              high = λ i m j. k.high i m j ∙ splice_before p at q (omega arith) 0 i j;
            };
          }

    -- the code's cases
    abbrev pub FoundAs : Option FoundRule → List ℕ → Type 0
    FoundAs r out = Finds f.entries.is f.file arities (take f.ns f.ars) n r out

    module _ (r : Option FoundRule) (out : List ℕ) (x : FoundAs r out) where
      pub as_written : {len : ℕ} → r ≡ Some (fd.Written len) → WrittenAs f.entries.is n len out
      as_written e = subst (λ (q : Option FoundRule). FoundAs q out) e x

      pub as_placed : {k : ℕ} → r ≡ Some (fd.At k) → InFile k
      as_placed e = subst (λ (q : Option FoundRule). FoundAs q out) e x

      pub as_none : r ≡ None → rule_of f.entries.is n ≡ None
      as_none e = subst (λ (q : Option FoundRule). FoundAs q out) e x

pub written_few :
    {P : Protocol} {n len : ℕ} {out : List ℕ} → WrittenAs P n len out → length out ≡ rule_room → length (take len out) ≤ rule_room
written_few {P} {n} {len} {out} w h = omega (arith, length-take-le len out w.holds.short, w.holds.short)
