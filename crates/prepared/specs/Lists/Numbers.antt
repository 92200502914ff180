-- The entries of one rule number after another.
use Rattle.std.specs.Prelude.{ℕ, ◌+◌, ◌*◌, ◌/◌, ◌%◌, ◌<◌, List, ◌≡◌, refl, length}
use Rattle.std.specs.Prelude.{Option, Some, None}
use Rattle.std.proofs.lemmas.Option.{none-some}
use Rattle.std.proofs.Common.{ap, ap₂, sym, ◌∙◌, subst, subst₂, arith}
use Rattle.protocol.specs.Figures.{list_count}
use Rattle.lists.specs.Asks.{Asks}
use Rattle.lists.specs.Choice.{by_size}
use Rattle.octets.specs.Head.{Bytes}
use Rattle.protocol.specs.Protocol.{Rule, Protocol, list_of}
use Rattle.protocol.specs.Places.{At, list_place, place_of}
use Rattle.protocol.specs.Places.Laws.{list_law, list_next, rule_layout}
use Rattle.rules.specs.Numbered.{rule_of}
use Rattle.prepared.specs.Sections.{body_length, fact_row}
use Rattle.prepared.specs.Prepared.{slots_of, arities_of, Body, body_of, entry_at, prepared_facts, ListAt, fact_place_in}
use Rattle.prepared.specs.Prepared.Laws.{list_few}
use Rattle.prepared.specs.Finding.{Finds, found_here}
use Rattle.prepared.specs.Lists.{ListsOf, ListEntered, ListIn, Listing, NumberEntered}

-- ── where the lists of a rule stand ──
-- at a place, in whatever protocol
abbrev pub ListOf : List ℕ → ℕ → ℕ → ℕ → Type 0
ListOf q n list r = (P : Protocol) (u : Rule) → Body q P → rule_of P n ≡ Some u → ListAt q u list r

module _ {q : List ℕ} {n place : ℕ} (x : ListsOf q n place) where
  list_found : (list : ℕ) → list < list_count → (r : ℕ) → r ≡ list_place q (slots_of q) (arities_of q) place list → ListOf q n list r
  list_found list small r h P u f is =
      subst (ListAt q u list) (sym h)
      (list_law q (slots_of q) (arities_of q) place u
      (rule_layout q (slots_of q) (arities_of q) place u (found_here q P n place (x.found P f) u is)) list small)

  -- the next one stands behind it
  next_place :
      (list : ℕ) → list + 1 < list_count → (l r : ℕ) → l ≡ list_place q (slots_of q) (arities_of q) place list → r ≡ place_of (prepared_facts q l)
      → r ≡ list_place q (slots_of q) (arities_of q) place (list + 1)
  next_place list small l r hl hr =
      let (P, f) = x.some_protocol in
      let g = x.found P f in
      let u = rule_layout q (slots_of q) (arities_of q) place g.its g.here in
      hr ∙ ap (λ (i : ℕ). place_of (prepared_facts q i)) hl
      ∙ sym (list_next q (slots_of q) (arities_of q) place g.its u list small)

  module _ (a : ℕ) (ha : a ≡ list_place q (slots_of q) (arities_of q) place 0) where
    pub premises_of : ListOf q n 0 a
    premises_of = list_found 0 (omega arith) a ha

    module _ (b : ℕ) (hb : b ≡ place_of (prepared_facts q a)) where
      pub actions_of_lem : ListOf q n 1 b
      actions_of_lem = list_found 1 (omega arith) b (next_place 0 (omega arith) a b ha hb)

      pub conclusions_of : (c : ℕ) → c ≡ place_of (prepared_facts q b) → ListOf q n 2 c
      conclusions_of c hc = list_found 2 (omega arith) c (next_place 1 (omega arith) b c (next_place 0 (omega arith) a b ha hb) hc)

  -- some list stands there
  pub list_asked : (list r : ℕ) → ListOf q n list r → Asks (At (prepared_facts q) r)
  list_asked list r l =
      let (P, f) = x.some_protocol in
      let g = x.found P f in
      (list_of list g.its, l P g.its f g.is)

-- the code's two cases
module _ (q : List ℕ) (ready : Asks (Body q)) (n : ℕ) {found : Option ℕ} (x : (P : Protocol) → Body q P → Finds q P n found) where
  pub lists_of : (place : ℕ) → found ≡ Some place → ListsOf q n place
  lists_of place e = record { some_protocol = ready; found = λ P f. subst (Finds q P n) e (x P f) }

  pub none_found : found ≡ None → (P : Protocol) → Body q P → rule_of P n ≡ None
  none_found e P f = subst (Finds q P n) e (x P f)

-- ── one list more ──
module _ (q : List ℕ) (bytes : Bytes q) (long : length q ≡ body_length) where
  list_kept :
      (p p' : List ℕ) (k r : ℕ) → body_of p ≡ q → ListEntered r p p' k → (u : Rule) (j : ℕ) → j < k → ListIn p u j → ListIn p' u j
  list_kept p p' k r e h u j l x =
      let same = h.lists_kept j l in
      let few = list_few q bytes (omega arith) (entry_at p j) (list_of (j % list_count) u)
      (subst (λ (b : List ℕ). ListAt b u (j % list_count) (entry_at p j)) e x.here) in
      record {
        here = subst₂ (λ (b : List ℕ) (a : ℕ). ListAt b u (j % list_count) a) (sym h.body) (sym same) x.here;
        each = λ i m.
            h.facts_kept (fact_row j + i) (omega arith) (omega (arith, few)) ∙ x.each i m
            ∙ ap₂ (λ (b : List ℕ) (a : ℕ). fact_place_in b a i) (sym h.body) (sym same);
      }

  list_right : (p p' : List ℕ) (k r : ℕ) → ListEntered r p p' k → (u : Rule) → ListAt (body_of p) u (k % list_count) r → ListIn p' u k
  list_right p p' k r h u x = record {
    here = subst₂ (λ (b : List ℕ) (a : ℕ). ListAt b u (k % list_count) a) (sym h.body) (sym h.is) x;
    each = λ i m. h.each (list_of (k % list_count) u) x i m ∙ ap₂ (λ (b : List ℕ) (a : ℕ). fact_place_in b a i) (sym h.body) (sym h.is);
  }

  listing_more :
      (p p' : List ℕ) (n list k r : ℕ) → body_of p ≡ q → k / list_count ≡ n → k % list_count ≡ list → ListOf q n list r → ListEntered r p p' k → Listing p k
      → Listing p' (k + 1)
  listing_more p p' n list k r e d m x h l j b P u f is =
      let g : Body (body_of p) P = subst (λ (c : List ℕ). Body c P) h.body f in
      by_size j k
      (λ a. list_kept p p' k r e h u j a (l j a P u g is))
      (λ a.
      let z : k ≡ j = omega arith in
      let y : ListAt q u list r = x P u (subst (λ (c : List ℕ). Body c P) e g) (ap (rule_of P) (sym d ∙ ap (λ (i : ℕ). i / 3) z) ∙ is) in
      subst (ListIn p' u) z (list_right p p' k r h u (subst₂ (λ (c : List ℕ) (i : ℕ). ListAt c u i r) (sym e) (sym m) y)))

  -- ── one rule more ──
  pub lists_more :
      (n a b c : ℕ) → ListOf q n 0 a → ListOf q n 1 b → ListOf q n 2 c → (p p₁ p₂ p₃ : List ℕ) → body_of p ≡ q
      → ListEntered a p p₁ (list_count * n) → ListEntered b p₁ p₂ (list_count * n + 1) → ListEntered c p₂ p₃ (list_count * n + 2)
      → NumberEntered p p₃ n
  lists_more n a b c x y z p p₁ p₂ p₃ e h₁ h₂ h₃ =
      let e₁ : body_of p₁ ≡ q = h₁.body ∙ e in
      let e₂ : body_of p₂ ≡ q = h₂.body ∙ e₁ in
      record {
        body = h₃.body ∙ h₂.body ∙ h₁.body;
        more = λ l.
            let l₁ : Listing p₁ (3 * n + 1) = listing_more p p₁ n 0 (3 * n) a e (omega arith) (omega arith) x h₁ l in
            let l₂ : Listing p₂ (3 * n + 1 + 1) = listing_more p₁ p₂ n 1 (3 * n + 1) b e₁ (omega arith) (omega arith) y h₂ l₁ in
            let l₂' : Listing p₂ (3 * n + 2) = (let k : 3 * n + 1 + 1 ≡ 3 * n + 2 = omega arith in subst (Listing p₂) k l₂) in
            let l₃ : Listing p₃ (3 * n + 2 + 1) = listing_more p₂ p₃ n 2 (3 * n + 2) c e₂ (omega arith) (omega arith) z h₃ l₂' in
            (let k : 3 * n + 2 + 1 ≡ 3 * (n + 1) = omega arith in subst (Listing p₃) k l₃);
      }

pub lists_none : (p : List ℕ) (n : ℕ) → ((P : Protocol) → Body (body_of p) P → rule_of P n ≡ None) → NumberEntered p p n
lists_none p n h = record {
  body = refl;
  more = λ l j m P u f is.
      by_size j (3 * n)
      (λ b. l j b P u f is)
      (λ b. let d : j / 3 ≡ n = omega arith in absurd (none-some u (sym (ap (rule_of P) d ∙ h P f) ∙ is)));
}
