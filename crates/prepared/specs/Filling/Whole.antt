-- The whole of a prepared protocol.
use Rattle.std.specs.Prelude.{Result, Ok, ℕ, ◌+◌, ◌≤◌, ◌<◌, List, [], ◌∷◌, ◌++◌, map, ◌≡◌, refl, length, get_or, take, drop}
use Rattle.std.proofs.Common.{append_assoc, ap, sym, ◌∙◌, subst, subst₂, arith, drop-drop}
use Rattle.std.specs.Prelude.{Some}
use Rattle.std.proofs.lemmas.List.{length-map, drop-append-le}
use Rattle.octets.specs.Head.{Bytes, Stands}
use Rattle.octets.specs.Splice.{splice}
use Rattle.octets.specs.Splice.Laws.{length_splice, part_splice, splice_before}
use Rattle.lists.specs.All.{All}
use Rattle.term.specs.Arity.{tag_arities, padded}
use Rattle.term.specs.Arity.Laws.{length_padded, tag_arities_length}
use Rattle.protocol.specs.Protocol.{Fact, Rule, Own, Protocol, fact_arities, encode_rule}
use Rattle.protocol.specs.Protocol.Limits.{RuleWithin, Within}
use Rattle.protocol.specs.Protocol.Limits.Parts.{FactWithin, FactsWithin}
use Rattle.protocol.specs.Protocol.Exact.{rule_exact, few_arities}
use Rattle.protocol.specs.Index.{Entries}
use Rattle.rules.specs.Fit.Laws.{Indexes, entries_front}
use Rattle.protocol.specs.declared.index.Counts.{Counts}
use Rattle.rules.specs.declared.fit.Unfit.{Unfit}
use Rattle.rules.specs.Numbered.{rule_of}
use Rattle.rules.specs.Numbered.Slots.{slot_of, slot_few}
use Rattle.rules.specs.Numbered.Limits.{rule_within}
use Rattle.protocol.specs.Figures.{symbol_count}
use Rattle.prepared.specs.Sections.{slot_count, rule_count, arities_at, linears_at, places_at, file_at, file_limit, cell_at, written_at, body_length}
use Rattle.prepared.specs.Prepared.{slots_of, arities_of, linears_of, linears, linear, place_at, RuleAt, RuleThere, Entry, Body}
use Rattle.prepared.specs.Prepared.Laws.{padded_in, arities_length}
use Rattle.prepared.specs.Filling.{Laid, Lies, Row, written, in_file, missing, Rows, BodyAs}
use Rattle.prepared.specs.Filling.Lists.{splice_lies, lies_kept, lies_section, lies_there}
use Rattle.prepared.specs.Filling.Numbers.{row_kept}

-- ── a table with more entries takes the same rules ──
all_map : {A : Type 0} {P Q : A → Type 0} (xs : List A) → ((x : A) → P x → Q x) → All P xs → All Q xs
all_map [] k a = tt
all_map (x ∷ xs) k a = (k x a.0, all_map xs k a.1)

module _ (arities ars : List ℕ) (n : ℕ) (room : length ars ≤ n) where
  fact_wider : (g : Fact) → FactWithin arities ars g → FactWithin arities (padded n ars) g
  fact_wider g w = record {
    known = omega (arith, w.known, length_padded n ars);
    takes = w.takes ∙ sym (padded_in n ars g.symbol room w.known);
    each = w.each;
  }

  facts_wider : (gs : List Fact) → FactsWithin arities ars gs → FactsWithin arities (padded n ars) gs
  facts_wider gs w = record { few = w.few; each = all_map gs fact_wider w.each }

  rule_wider : (u : Rule) → RuleWithin arities ars u → RuleWithin arities (padded n ars) u
  rule_wider u w = record {
    laid = record { few = w.laid.few; sorted = w.laid.sorted; three = w.laid.three; each = all_map u.lists facts_wider w.laid.each };
    bound = w.bound;
  }

-- ── the rules ──
module _ (P : Protocol) (within : Within P) (p : List ℕ) (bytes : Bytes p) (long : length p ≡ body_length)
    (slotted : slots_of p ≡ tag_arities P.functions) (tabled : arities_of p ≡ padded symbol_count (fact_arities P.symbols)) where
  -- a rule of the protocol whose bytes stand somewhere
  rule_there : (n : ℕ) (u : Rule) → rule_of P n ≡ Some u → (at : ℕ) (rest : List ℕ) → drop at p ≡ encode_rule u ++ rest → RuleAt p u at
  rule_there n u is at rest there =
      let few = few_arities P.symbols within.few_symbols in
      let good : RuleWithin (slots_of p) (arities_of p) u =
      subst₂ (λ (a b : List ℕ). RuleWithin a b u) (sym slotted) (sym tabled)
      (rule_wider (tag_arities P.functions) (fact_arities P.symbols) symbol_count few u (rule_within P within n u is)) in
      record {
        next = at + length (encode_rule u);
        reads = (rule_exact p bytes (slots_of p) (arities_of p) (omega (arith, arities_length p (omega arith)))).back u at rest good there;
      }

  entry_some : (n : ℕ) (u : Rule) → rule_of P n ≡ Some u → (at : ℕ) (rest : List ℕ) → drop at p ≡ encode_rule u ++ rest → place_at p n ≡ at → 0 < at → Entry p n
      (rule_of P n)
  entry_some n u is at rest there e some-place =
      subst (Entry p n) (sym is)
      (subst (RuleThere p u) (sym e) record { here = rule_there n u is at rest there; there = some-place })

-- ── all sections ──
module _ {file arities ars flags places : List ℕ} {nr : ℕ} (l : Laid file arities ars flags places nr) (p₀ p₁ p₂ p₃ p₄ p₅ : List ℕ)
    (long : length p₀ ≡ body_length) (first : p₁ ≡ splice p₀ 0 arities) (second : p₂ ≡ splice p₁ arities_at (padded symbol_count ars))
    (third : p₃ ≡ splice p₂ linears_at (padded symbol_count (map linear flags))) (fourth : Rows l.source p₃ p₄ rule_count) (kept : length p₄ ≡ length p₃)
    (fifth : p₅ ≡ splice p₄ file_at file) (bytes : Bytes p₅) where
  abbrev P : Protocol
  P = l.source.entries.is

  arities_are : arities ≡ tag_arities P.functions
  arities_are = l.source.entries.slotted

  slots_many : length arities ≡ slot_count
  slots_many = ap length arities_are ∙ tag_arities_length P.functions

  long₁ : length p₁ ≡ body_length
  long₁ = ap length first ∙ length_splice p₀ 0 arities (omega (arith, slots_many)) ∙ long

  ars_long : length (padded symbol_count ars) ≡ symbol_count
  ars_long = length_padded symbol_count ars

  linears_long : length (padded symbol_count (map linear flags)) ≡ symbol_count
  linears_long = length_padded symbol_count (map linear flags)

  long₂ : length p₂ ≡ body_length
  long₂ = ap length second ∙ length_splice p₁ arities_at (padded symbol_count ars) (omega (arith, ars_long, long₁)) ∙ long₁

  long₃ : length p₃ ≡ body_length
  long₃ = ap length third ∙ length_splice p₂ linears_at (padded symbol_count (map linear flags)) (omega (arith, linears_long, long₂)) ∙ long₂

  long₄ : length p₄ ≡ body_length
  long₄ = kept ∙ long₃

  file_short : length file ≤ file_limit
  file_short = omega (arith, ap length l.file_is, l.source.short)

  long₅ : length p₅ ≡ body_length
  long₅ = ap length fifth ∙ length_splice p₄ file_at file (omega (arith, file_short, long₄)) ∙ long₄

  -- what each later step leaves of the sections before it
  kept₂ : (i : ℕ) → i < arities_at → get_or p₂ i 0 ≡ get_or p₁ i 0
  kept₂ i h = ap (λ (m : List ℕ). get_or m i 0) second ∙ splice_before p₁ arities_at (padded symbol_count ars) (omega (arith, ars_long, long₁)) 0 i h

  kept₃ : (i : ℕ) → i < linears_at → get_or p₃ i 0 ≡ get_or p₂ i 0
  kept₃ i h =
      ap (λ (m : List ℕ). get_or m i 0) third
      ∙ splice_before p₂ linears_at (padded symbol_count (map linear flags)) (omega (arith, linears_long, long₂)) 0 i h

  kept₅ : (i : ℕ) → i < file_at → get_or p₅ i 0 ≡ get_or p₄ i 0
  kept₅ i h = ap (λ (m : List ℕ). get_or m i 0) fifth ∙ splice_before p₄ file_at file (omega (arith, file_short, long₄)) 0 i h

  from₃ : (i : ℕ) → i < places_at → get_or p₅ i 0 ≡ get_or p₃ i 0
  from₃ i h = kept₅ i (omega arith) ∙ fourth.before i h

  slots_lie : Lies p₁ 0 arities
  slots_lie = subst (λ (m : List ℕ). Lies m 0 arities) (sym first) (splice_lies p₀ 0 arities (omega (arith, slots_many)))

  ars_lie : Lies p₂ arities_at (padded symbol_count ars)
  ars_lie =
      subst (λ (m : List ℕ). Lies m arities_at (padded symbol_count ars)) (sym second)
      (splice_lies p₁ arities_at (padded symbol_count ars) (omega (arith, ars_long, long₁)))

  linears_lie : Lies p₃ linears_at (padded symbol_count (map linear flags))
  linears_lie =
      subst (λ (m : List ℕ). Lies m linears_at (padded symbol_count (map linear flags))) (sym third)
      (splice_lies p₂ linears_at (padded symbol_count (map linear flags)) (omega (arith, linears_long, long₂)))

  slotted : slots_of p₅ ≡ tag_arities P.functions
  slotted =
      lies_section p₅ 0 arities slot_count slots_many (omega (arith, long₅))
      (lies_kept p₁ 0 arities p₅ (λ j h. from₃ (0 + j) (omega (arith, slots_many)) ∙ kept₃ (0 + j) (omega (arith, slots_many)) ∙ kept₂ (0 + j)
      (omega (arith, slots_many))) slots_lie)
      ∙ arities_are

  tabled : arities_of p₅ ≡ padded symbol_count (fact_arities P.symbols)
  tabled =
      lies_section p₅ arities_at (padded symbol_count ars) symbol_count ars_long (omega (arith, long₅))
      (lies_kept p₂ arities_at (padded symbol_count ars) p₅
      (λ j h. from₃ (arities_at + j) (omega (arith, ars_long)) ∙ kept₃ (arities_at + j) (omega (arith, ars_long))) ars_lie)
      ∙ ap (padded symbol_count) l.ars_are

  flagged : linears_of p₅ ≡ padded symbol_count (linears P.symbols)
  flagged =
      lies_section p₅ linears_at (padded symbol_count (map linear flags)) symbol_count linears_long (omega (arith, long₅))
      (lies_kept p₃ linears_at (padded symbol_count (map linear flags)) p₅ (λ j h. from₃ (linears_at + j) (omega (arith, linears_long))) linears_lie)
      ∙ ap (λ (fs : List ℕ). padded symbol_count (map linear fs)) l.flags_are

  row : (n : ℕ) → n < rule_count → Row l.source p₅ n
  row n h =
      row_kept l.source p₄ p₅ n (kept₅ (cell_at n) (omega arith)) (kept₅ (cell_at n + 1) (omega arith))
      (λ j m k. kept₅ (written_at (slot_of n) + j) (omega (arith, slot_few (n + 1) (omega arith), m))) (fourth.each n h)

  -- the file stands at its place, and each rule of it
  in_file_there : (k e : ℕ) (q : List ℕ) → k ≤ length l.source.file → Stands l.source.file k q e → (rest : List ℕ) × (drop (file_at + k) p₅ ≡ q ++ rest)
  in_file_there k e q inside s =
      let tail : List ℕ = drop (file_at + length file) p₄ in
      let z : k ≤ length file = omega (arith, ap length l.file_is) in
      let a : drop file_at p₅ ≡ file ++ tail = ap (drop file_at) fifth ∙ part_splice p₄ file_at file (omega (arith, file_short, long₄)) in
      let b : drop k file ≡ q ++ drop e l.source.file = ap (drop k) l.file_is ∙ s.there in (
        drop e l.source.file ++ tail,
        sym (drop-drop k file_at p₅) ∙ ap (drop k) a ∙ drop-append-le k file tail z ∙ ap (λ (m : List ℕ). m ++ tail) b
            ∙ append_assoc q (drop e l.source.file) tail,
      )

  entry : (n : ℕ) → n < rule_count → Row l.source p₅ n → Entry p₅ n (rule_of P n)
  entry n inside (written u is small e few lies) =
      let at : ℕ = written_at (slot_of n) in
      let s : slot_of n < 37 = omega (arith, slot_few (n + 1) (omega arith), small) in
      entry_some P l.source.entries.within p₅ bytes long₅ slotted tabled n u is at (drop (at + length (encode_rule u)) p₅)
      (lies_there p₅ at (encode_rule u) (omega (arith, long₅)) lies) e (omega arith)
  entry n _ (in_file u k d is e inside s) =
      let (rest, there) = in_file_there k d (encode_rule u) inside s in
      entry_some P l.source.entries.within p₅ bytes long₅ slotted tabled n u is (file_at + k) rest there e (omega arith)
  entry n _ (missing is e) = subst (Entry p₅ n) (sym is) e

  pub body_laid : Body p₅ l.source.entries.is
  body_laid = record {
    within = l.source.entries.within;
    long = omega (arith, long₅);
    slotted = slotted;
    tabled = tabled;
    flagged = flagged;
    rules = λ n h. entry n h (row n h);
  }

-- ── the lengths of what is asked ──
module _ {file arities ars flags places : List ℕ} {nr : ℕ} (l : Laid file arities ars flags places nr) where
  pub laid_slots : length arities ≡ slot_count
  laid_slots = ap length l.source.entries.slotted ∙ tag_arities_length l.source.entries.is.functions

  pub laid_symbols : length ars ≤ symbol_count
  laid_symbols = omega (arith, ap length l.ars_are, few_arities l.source.entries.is.symbols l.source.entries.within.few_symbols)

  pub laid_flags : length flags ≤ symbol_count
  laid_flags =
      omega (arith, ap length l.flags_are, length-map l.source.entries.is.symbols (λ (o : Own). o.flag), l.source.entries.within.few_symbols)

  pub laid_file : length file ≤ file_limit
  laid_file = omega (arith, ap length l.file_is, l.source.short)

-- ── a fit protocol's file ──
module _ (s arities ars flags places : List ℕ) (r : Result Counts Unfit) (c : Counts) (is : r ≡ Ok c) (index : Indexes s r arities ars flags places)
    (bytes : Bytes s)
    (short : length s ≤ file_limit) where
  entries : Entries s c.symbols c.rules arities ars flags places
  entries = subst (λ (q : Result Counts Unfit). Indexes s q arities ars flags places) is index

  pub sound_symbols : c.symbols ≤ symbol_count
  sound_symbols = entries.few_symbols

  pub sound_rules : c.rules ≤ 64
  sound_rules = entries.few_rules

  pub sound_laid : Laid s arities (take c.symbols ars) (take c.symbols flags) places c.rules
  sound_laid = record {
    source = record { file = s; ns = c.symbols; ars = ars; flags = flags; entries = entries; bytes = bytes; short = short };
    file_is = refl;
    ars_are = entries.tabled;
    flags_are = entries.flagged;
  }

  pub sound_body :
      (p : List ℕ) → ((l : Laid s arities (take c.symbols ars) (take c.symbols flags) places c.rules) → Body p l.source.entries.is) → BodyAs s c.rules p
  unfolding entries sound_laid
  sound_body p h = record { its = entries.is; reads = entries.reads; is = h sound_laid; count = entries.placed.count }

  -- ── the same of the places alone that have rules ──
  module _ (room : 64 ≤ length places) where
    pub laid_front : Laid s arities (take c.symbols ars) (take c.symbols flags) (take c.rules places) (length (take c.rules places))
    unfolding entries_front entries
    laid_front = record {
      source = record {
        file = s;
        ns = c.symbols;
        ars = ars;
        flags = flags;
        entries = entries_front places c.rules (omega (arith, entries.few_rules)) entries;
        bytes = bytes;
        short = short;
      };
      file_is = refl;
      ars_are = entries.tabled;
      flags_are = entries.flagged;
    }

    pub body_front :
        (p : List ℕ)
        → ((l : Laid s arities (take c.symbols ars) (take c.symbols flags) (take c.rules places) (length (take c.rules places))) → Body p l.source.entries.is)
        → BodyAs s c.rules p
    unfolding entries_front entries laid_front
    body_front p h = record { its = entries.is; reads = entries.reads; is = h laid_front; count = entries.placed.count }
