-- One entry of the table, the facts of a list, one list.
use Rattle.std.specs.Prelude.{ℕ, ◌+◌, ◌*◌, ◌≤◌, ◌<◌, List, ◌≡◌, refl, length, get_or}
use Rattle.std.proofs.Common.{ap, ap₂, sym, ◌∙◌, subst, arith, length-append, length-take-le}
use Rattle.protocol.specs.Figures.{most_facts, fact_limit}
use Rattle.lists.specs.Asks.{Asks}
use Rattle.lists.specs.Choice.{by_size}
use Rattle.octets.specs.Head.{Bytes, stands_within}
use Rattle.number.specs.Groups.{groups}
use Rattle.number.specs.Groups.Laws.{groups_some}
use Rattle.number.specs.Reading.{below}
use Rattle.number.specs.Layout.{flat}
use Rattle.term.specs.Term.{encode}
use Rattle.protocol.specs.Protocol.{Fact, no_fact, encode_fact}
use Rattle.protocol.specs.Protocol.Exact.{fact_exact, facts_exact}
use Rattle.protocol.specs.Places.{Here, At, place_of, value_of}
use Rattle.protocol.specs.Places.Laws.{count_law, fact_law, fact_next, facts_end}
use Rattle.prepared.specs.Sections.{body_length, prepared_length, entry_count, place_count, entry_place, fact_row, place_base, place_limit}
use Rattle.prepared.specs.Pairs.{paired_other, paired_front, pair_read}
use Rattle.prepared.specs.Prepared.{slots_of, arities_of, body_of, entry_at, prepared_fact, prepared_facts, fact_place_in}
use Rattle.prepared.specs.Prepared.Laws.{arities_length, list_few}
use Rattle.prepared.specs.Prepared.Longer.{front_bytes, list_some}
use Rattle.prepared.specs.Lists.{FirstFacts, entered, FactsEntered, ListEntered}

-- ── one entry ──
module _ (p : List ℕ) (k v : ℕ) where
  entered_body : body_of (entered p k v) ≡ body_of p
  entered_body = paired_front p (entry_place k) v body_length (omega arith)

  entry_read : k < place_count → length p ≡ prepared_length → entry_at (entered p k v) k ≡ v
  entry_read small long = pair_read p (entry_place k) v (omega arith)

  entry_kept : (j : ℕ) → (j ≡ k → ⊥) → entry_at (entered p k v) j ≡ entry_at p j
  entry_kept j ne =
      ap₂ (λ (x y : ℕ). x * place_base + y) (paired_other p (entry_place k) v (entry_place j) (λ e. ne (omega arith)) (λ e. omega arith))
      (paired_other p (entry_place k) v (entry_place j + 1) (λ e. omega arith) (λ e. ne (omega arith)))

-- ── the facts of the list at a place ──
module _ (p : List ℕ) (bytes : Bytes p) (long : length p ≡ prepared_length) where
  abbrev q : List ℕ
  q = body_of p

  front : Bytes q
  front = front_bytes p bytes (omega arith)

  front_long : length q ≡ body_length
  front_long = length-take-le body_length p (omega arith)

  few : length (arities_of q) ≤ 256
  few = omega (arith, arities_length q (omega (arith, front_long)))

  fact_some : (f : Fact) → 0 < length (encode_fact f)
  fact_some f = omega (arith, groups_some f.symbol, length-append (groups f.symbol) (flat encode f.terms))

  module _ (list : ℕ) (fs : List Fact) (h : Here (prepared_facts q) fs list) where
    pub list_small_lem : list < place_limit
    list_small_lem =
        let s = ((facts_exact q front (slots_of q) (arities_of q) few).form fs list h.next h.reads).1 in
        omega (arith, front_long, s.ends, stands_within s (list_some fs))

    fact_small : (i : ℕ) → i < length fs → fact_place_in q list i < place_limit
    fact_small i l =
        let x = fact_law q (slots_of q) (arities_of q) list fs h i l in
        let s = ((fact_exact q front (slots_of q) (arities_of q) few).form (get_or fs i no_fact) (fact_place_in q list i) x.next x.reads).1 in
        omega (arith, front_long, s.ends, stands_within s (fact_some (get_or fs i no_fact)))

  -- a loop over them
  module _ (list count : ℕ) (x : Asks (FirstFacts q list count)) where
    pub facts_small : (i : ℕ) → i < count → fact_place_in q list i < place_limit
    facts_small i l = fact_small list x.0 x.1.here i (omega (arith, x.1.enough))

    pub facts_next : (i at e : ℕ) → i < count → at ≡ fact_place_in q list i → e ≡ place_of (prepared_fact q at) → e ≡ fact_place_in q list (i + 1)
    facts_next i at e l ha he =
        he ∙ ap (λ (k : ℕ). place_of (prepared_fact q k)) ha
        ∙ sym (fact_next q (slots_of q) (arities_of q) list x.0 x.1.here i (omega (arith, x.1.enough)))

module _ (list : ℕ) (p : List ℕ) (row : ℕ) where
  pub facts_none : FactsEntered list p p row 0
  facts_none = record { body = refl; each = λ i l. absurd (omega arith); before = λ j l. refl }

  pub facts_more :
      (p₁ p₂ : List ℕ) (i at : ℕ) → length p₁ ≡ prepared_length → row + i < place_count → FactsEntered list p p₁ row i → at ≡ fact_place_in (body_of p) list i
      → p₂ ≡ entered p₁ (row + i) at → FactsEntered list p p₂ row (i + 1)
  facts_more p₁ p₂ i at long inside done is h =
      let kept : (j : ℕ) → (j ≡ row + i → ⊥) → entry_at p₂ j ≡ entry_at p₁ j =
      λ j ne. ap (λ (s : List ℕ). entry_at s j) h ∙ entry_kept p₁ (row + i) at j ne in
      record {
        body = ap body_of h ∙ entered_body p₁ (row + i) at ∙ done.body;
        each = λ j m.
            by_size j i
            (λ b. kept (row + j) (λ e. omega arith) ∙ done.each j b)
            (λ b.
            let z : j ≡ i = omega arith in
            ap (λ (n : ℕ). entry_at p₂ (row + n)) z ∙ ap (λ (s : List ℕ). entry_at s (row + i)) h
            ∙ entry_read p₁ (row + i) at inside long ∙ is ∙ ap (fact_place_in (body_of p) list) (sym z));
        before = λ j m. kept j (λ e. omega arith) ∙ done.before j m;
      }

-- ── one list ──
module _ (p : List ℕ) (list count : ℕ) (counted : count ≡ value_of (below (body_of p) fact_limit list)) where
  abbrev b : List ℕ
  b = body_of p

  count_is : (fs : List Fact) → Here (prepared_facts b) fs list → count ≡ length fs
  count_is fs h = counted ∙ count_law b (slots_of b) (arities_of b) list fs h

  pub first_facts : Asks (At (prepared_facts b) list) → (n : ℕ) → n ≤ count → Asks (FirstFacts b list n)
  first_facts (fs, h) n l = (fs, record { here = h; enough = omega (arith, count_is fs h) })

  pub list_behind : Asks (At (prepared_facts b) list) → (r : ℕ) → r ≡ fact_place_in b list count → r ≡ place_of (prepared_facts b list)
  list_behind (fs, h) r e = e ∙ ap (fact_place_in b list) (count_is fs h) ∙ facts_end b (slots_of b) (arities_of b) list fs h

  module _ (bytes : Bytes p) (long : length p ≡ prepared_length) (x : Asks (At (prepared_facts b) list)) where
    pub count_few : count ≤ most_facts
    count_few =
        let (fs, h) = x in
        omega (arith, count_is fs h, list_few b (front p bytes long) (omega (arith, front_long p bytes long)) list fs h)

    pub last_small : (rest last : ℕ) → last ≡ fact_place_in b list rest → rest < count → last < place_limit
    last_small rest last e l = omega (arith, facts_small p bytes long list count (first_facts x count (omega arith)) rest l)

-- entry k, and then the facts
module _ (list count : ℕ) (p p₁ : List ℕ) (counted : count ≡ value_of (below (body_of p) fact_limit list)) (k : ℕ) (small : k < entry_count)
    (long : length p ≡ prepared_length)
    (h₁ : p₁ ≡ entered p k list) where
  pub first_body : body_of p₁ ≡ body_of p
  first_body = ap body_of h₁ ∙ entered_body p k list

  kept : (j : ℕ) → (j ≡ k → ⊥) → entry_at p₁ j ≡ entry_at p j
  kept j ne = ap (λ (s : List ℕ). entry_at s j) h₁ ∙ entry_kept p k list j ne

  pub list_entered : (p₂ : List ℕ) → FactsEntered list p₁ p₂ (fact_row k) count → ListEntered list p p₂ k
  list_entered p₂ f = record {
    body = f.body ∙ first_body;
    is = f.before k (omega arith) ∙ ap (λ (s : List ℕ). entry_at s k) h₁ ∙ entry_read p k list (omega arith) long;
    each = λ fs h i l. f.each i (omega (arith, count_is p list count counted fs h)) ∙ ap (λ (q : List ℕ). fact_place_in q list i) first_body;
    lists_kept = λ j l. f.before j (omega arith) ∙ kept j (λ e. omega arith);
    facts_kept = λ j a b. f.before j b ∙ kept j (λ e. omega arith);
  }

  -- it has no facts
  pub list_empty : count ≡ 0 → ListEntered list p p₁ k
  list_empty z = list_entered p₁ (subst (FactsEntered list p₁ p₁ (fact_row k)) (sym z) (facts_none list p₁ (fact_row k)))

  -- the last fact is entered by itself
  pub list_last :
      (p₂ p₃ : List ℕ) (rest last : ℕ) → length p₂ ≡ prepared_length → rest + 1 ≡ count → count ≤ most_facts → FactsEntered list p₁ p₂ (fact_row k) rest
      → last ≡ fact_place_in (body_of p₁) list rest → p₃ ≡ entered p₂ (fact_row k + rest) last → ListEntered list p p₃ k
  list_last p₂ p₃ rest last long₂ all few f is h =
      list_entered p₃
      (subst (FactsEntered list p₁ p₃ (fact_row k)) all (facts_more list p₁ (fact_row k) p₂ p₃ rest last long₂ (omega arith) f is h))
