-- A list of passes answers what its rows say; the answer is unique; it passes just where no row applies.
use Rattle.std.specs.Prelude.{◌≡◌, refl, ◌↔◌, List, [], ◌∷◌, ◌++◌, ℕ, suc, ltb}
use Rattle.std.proofs.Common.{sym, ◌∙◌, ap, subst, inl, inr, arith}
use Rattle.std.specs.Prelude.{Option, Some, None}
use Rattle.lists.specs.Tests.{by_bool, leb_le, leb_gt}
use Rattle.rewriting.specs.Table.{Ruling, passed, refused, Row, Least, Nowhere, Absent, Ruled, Says}
use Rattle.rewriting.specs.Table.{Finds, Pass, or_refuse, rows_then, ruling_then, rows_of, ruling_of, and_then, rows_after}

pub refused_passed : {A : Type 0} (n k : ℕ) (a : A) → Path (Ruling A) (refused n k) (passed a) → ⊥
refused_passed n k a e = let z : ◌≡◌ {A = ℕ} 0 1 = cc in omega arith

pub passed_inj : {A : Type 0} (a b : A) → Path (Ruling A) (passed a) (passed b) → a ≡ b
passed_inj a b e = cc

pub refused_number : {A : Type 0} (n k m j : ℕ) → Path (Ruling A) (refused n k) (refused m j) → n ≡ m
refused_number n k m j e = cc

pub refused_item : {A : Type 0} (n k m j : ℕ) → Path (Ruling A) (refused n k) (refused m j) → k ≡ j
refused_item n k m j e = cc

-- There is one smallest item.
pub least_unique : (P : ℕ → Type 0) (j k : ℕ) → Least P j → Least P k → j ≡ k
least_unique P j k g h =
    by_bool (ltb j k)
    (λ t. absurd (h.below j (leb_le (suc j) k t) g.here))
    (λ f. by_bool (ltb k j)
    (λ t. absurd (g.below k (leb_le (suc k) j t) h.here))
    (λ e. omega (arith, leb_gt (suc j) k f, leb_gt (suc k) j e)))

-- A pass finds a cause under another name.
pub finds_least : (P Q : ℕ → Type 0) → ((k : ℕ) → Least P k → Q k) → ((k : ℕ) → Q k → P k) → (o : Option ℕ) → Finds P o → Finds Q o
finds_least P Q f g None h = λ k q. h k (g k q)
finds_least P Q f g (Some k) h = record { here = f k h; below = λ j l q. h.below j l (g j q) }

pub finds_iff : (P Q : ℕ → Type 0) → ((k : ℕ) → P k → Q k) → ((k : ℕ) → Q k → P k) → (o : Option ℕ) → Finds P o → Finds Q o
finds_iff P Q f g o h = finds_least P Q (λ k l. f k l.here) g o h

module _ {A : Type 0} (Good : A → Type 0) where
  row_ruled : (c : Row) (cs : List Row) (o : Option ℕ) (r : Ruling A) → Finds c.has o → (Nowhere c → Ruled cs Good r) → Ruled (c ∷ cs) Good
      (or_refuse c.number o r)
  row_ruled c cs None r h g = inl (h, g h)
  row_ruled c cs (Some k) r h g = inr (k, h, refl)

  -- Passes, then an answer that the further rows rule where the passes found nothing.
  pub ruled_then : (ps : List Pass) (cs : List Row) (r : Ruling A) → (Absent (rows_of ps) → Ruled cs Good r) → Ruled (rows_then ps cs) Good (ruling_then ps r)
  ruled_then [] cs r h = h tt
  ruled_then (p ∷ ps) cs r h =
      row_ruled p.cause (rows_then ps cs) p.found (ruling_then ps r) p.finds (λ n. ruled_then ps cs r (λ a. h (n, a)))

  -- The generic theorem: the passes, in the table's order, answer what the table says.
  pub ruled : (ps : List Pass) (a : A) → (Absent (rows_of ps) → Good a) → Ruled (rows_of ps) Good (ruling_of ps a)
  ruled ps a h = ruled_then ps [] (passed a) (λ n. (a, h n, refl))

  -- The table says one thing.
  pub ruled_unique : ((a b : A) → Good a → Good b → a ≡ b) → (cs : List Row) (r q : Ruling A) → Ruled cs Good r → Ruled cs Good q → r ≡ q
  ruled_unique one [] r q (a, g, e) (b, h, i) = e ∙ (ap {B = Ruling A} passed (one a b g h) ∙ sym i)
  ruled_unique one (c ∷ cs) r q (inl (a, g)) (inl (b, h)) = ruled_unique one cs r q g h
  ruled_unique one (c ∷ cs) r q (inl (a, g)) (inr (k, l, h)) = absurd (a k l.here)
  ruled_unique one (c ∷ cs) r q (inr (k, l, g)) (inl (b, h)) = absurd (b k l.here)
  ruled_unique one (c ∷ cs) r q (inr (j, m, g)) (inr (k, l, h)) = g ∙ (ap {B = Ruling A} (λ n. refused c.number n) (least_unique c.has j k m l) ∙ sym h)

  -- A refusal is one of the rows.
  pub ruled_says : (cs : List Row) (n k : ℕ) → Ruled cs Good (refused n k) → Says cs n k
  ruled_says [] n k (a, g, e) = absurd (refused_passed n k a e)
  ruled_says (c ∷ cs) n k (inl (m, h)) = inr (ruled_says cs n k h)
  ruled_says (c ∷ cs) n k (inr (j, l, h)) =
      let i : k ≡ j = refused_item n k c.number j h in
      inl (refused_number n k c.number j h, subst (λ z. Least c.has z) (sym i) l)

  -- It passes just where all causes are absent, and with a good value.
  pub passed_absent : (cs : List Row) (r : Ruling A) (a : A) → Ruled cs Good r → r ≡ passed a → Absent cs
  passed_absent [] r a h e = tt
  passed_absent (c ∷ cs) r a (inl (n, h)) e = (n, passed_absent cs r a h e)
  passed_absent (c ∷ cs) r a (inr (k, l, h)) e = absurd (refused_passed c.number k a (sym h ∙ e))

  pub absent_passed : (cs : List Row) (r : Ruling A) → Ruled cs Good r → Absent cs → (a : A) × Good a × (r ≡ passed a)
  absent_passed [] r h n = h
  absent_passed (c ∷ cs) r (inl (m, h)) n = absent_passed cs r h n.1
  absent_passed (c ∷ cs) r (inr (k, l, h)) n = absurd (n.0 k l.here)

  pub passed_good : (cs : List Row) (a : A) → Ruled cs Good (passed a) → Good a
  passed_good cs a h =
      let (b, g, e) = absent_passed cs (passed a) h (passed_absent cs (passed a) a h refl) in
      subst (λ c. Good c) (sym (passed_inj a b e)) g

-- What is good may be said in other words.
pub ruled_good : {A : Type 0} (Good Fine : A → Type 0) → ((a : A) → Good a → Fine a) → (cs : List Row) (r : Ruling A) → Ruled cs Good r → Ruled cs Fine r
ruled_good Good Fine h [] r (a, g, e) = (a, h a g, e)
ruled_good Good Fine h (c ∷ cs) r (inl (n, g)) = inl (n, ruled_good Good Fine h cs r g)
ruled_good Good Fine h (c ∷ cs) r (inr s) = inr s

-- An answer, then one that uses its value: the rows of the first come before those of the second.
pub ruled_and_then : {A B : Type 0} (Good : A → Type 0) (Fine : B → Type 0) (cs : List Row) (r : Ruling A) (ds : A → List Row) (f : A → Ruling B) →
    Ruled cs Good r → ((a : A) → Good a → r ≡ passed a → Ruled (ds a) Fine (f a)) → Ruled (cs ++ rows_after r ds) Fine (and_then r f)
ruled_and_then Good Fine [] r ds f (a, g, e) h = rw e (h a g e)
ruled_and_then Good Fine (c ∷ cs) r ds f (inl (n, g)) h = inl (n, ruled_and_then Good Fine cs r ds f g h)
ruled_and_then Good Fine (c ∷ cs) r ds f (inr (k, l, e)) h = inr (k, l, ap (λ q. and_then q f) e)

-- Rows that say the same of each item, in other words.
abbrev pub Restate : Row → Row → Type 0
Restate c d = (c.number ≡ d.number) × ((k : ℕ) → c.has k ↔ d.has k)

abbrev pub RestateAll : List Row → List Row → Type 0
RestateAll [] [] = Unit {0}
RestateAll [] (d ∷ ds) = ⊥
RestateAll (c ∷ cs) [] = ⊥
RestateAll (c ∷ cs) (d ∷ ds) = Restate c d × RestateAll cs ds

-- A row as it stands.
pub as_it_stands : (c : Row) → Restate c c
as_it_stands c = (refl, λ k. ((λ h. h), (λ h. h)))

nowhere_restated : (c d : Row) → Restate c d → Nowhere c → Nowhere d
nowhere_restated c d (n, h) a k q = a k ((h k).1 q)

pub ruled_restated : {A : Type 0} (Good : A → Type 0) (cs ds : List Row) (r : Ruling A) → RestateAll cs ds → Ruled cs Good r → Ruled ds Good r
ruled_restated Good [] [] r w g = g
ruled_restated Good [] (d ∷ ds) r w g = absurd w
ruled_restated Good (c ∷ cs) [] r w g = absurd w
ruled_restated Good (c ∷ cs) (d ∷ ds) r w (inl (n, g)) = inl (nowhere_restated c d w.0 n, ruled_restated Good cs ds r w.1 g)
ruled_restated {A} Good (c ∷ cs) (d ∷ ds) r w (inr (k, l, e)) =
    let (n, h) = w.0 in
    inr (
      k,
      record { here = (h k).0 l.here; below = λ j m q. l.below j m ((h j).1 q) },
      e ∙ ap {B = Ruling A} (λ m. refused m k) n,
    )

pub absent_restated : (cs ds : List Row) → RestateAll cs ds → Absent cs → Absent ds
absent_restated [] [] w a = tt
absent_restated [] (d ∷ ds) w a = absurd w
absent_restated (c ∷ cs) [] w a = absurd w
absent_restated (c ∷ cs) (d ∷ ds) w a = (nowhere_restated c d w.0 a.0, absent_restated cs ds w.1 a.1)

pub restate_back : (cs ds : List Row) → RestateAll cs ds → RestateAll ds cs
restate_back [] [] w = tt
restate_back [] (d ∷ ds) w = absurd w
restate_back (c ∷ cs) [] w = absurd w
restate_back (c ∷ cs) (d ∷ ds) w = let (n, h) = w.0 in ((sym n, λ k. ((h k).1, (h k).0)), restate_back cs ds w.1)
