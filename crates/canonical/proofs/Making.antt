-- A run of terms, one by one: what is asked and promised at a leaf and at a function.
use Prim.Native.Nat.{ℕ, ◌+◌, ◌-◌, ◌<◌, ◌≤◌}
use mathlib.Core.List.{List, ◌++◌, append_assoc}
use mathlib.Core.Path.{◌≡◌, refl, ap, sym, ◌∙◌, subst}
use mathlib.Core.Logic.{◌≢◌, inl, inr}
use native.Mathlib.Omega.{arith}
use lib.ListN.{length, drop, length-append}
use Rattle.term.specs.Sizes.{most_symbols, term_room}
use Rattle.term.specs.declared.Symbol.{Symbol}
use Rattle.term.specs.declared.Symbol.TheVariants as sy
use Rattle.canonical.specs.First.{FirstAt, place_behind}
use Rattle.lists.specs.Asks.{Asks₂, Promises₂}
use Rattle.lists.specs.Choice.{clash}
use Rattle.octets.specs.Head.{stands_at, stands_within, behind}
use Rattle.octets.specs.Splice.Prefix.{Wrote, widen, wrote_nothing, wrote_then}
use Rattle.number.specs.Groups.{groups}
use Rattle.number.specs.Groups.Laws.{groups_some}
use Rattle.term.specs.Term.{Kind, variable, public, fresh, Term, leaf, app, Terms, nil, ◌&◌, tag_of, count, encode, encodes, symbols, symbolss}
use Rattle.term.specs.Term.Laws.{encode_some}
use Rattle.term.specs.Reader.Exact.{behind_tag}
use Rattle.message.specs.Substitution.{sub, subs}
use Rattle.message.specs.Parts.Entries.{Each}
use Rattle.canonical.specs.Loose.{beside, made, mades}
use Rattle.canonical.specs.Contract.{Job, Out}
use Rattle.canonical.specs.Inner.{LeafJob, Here}

-- ── a job of one term and more ──
pub each_small : (θ : ℕ → Term) (ts : Terms) → symbolss (subs θ ts) ≤ most_symbols → Each (λ t. symbols (sub θ t) ≤ most_symbols) ts
each_small θ nil h = tt
each_small θ (t & ts) h = (omega arith, each_small θ ts (omega arith))

module _ (arities vals starts src : List ℕ) (at k n o : ℕ) (θ : ℕ → Term) where
  module _ (t : Term) (us : Terms) (J : Job arities vals starts src at k n o θ (t & us)) where
    there_one : drop at src ≡ encode t ++ (encodes us ++ J.rest)
    there_one = J.there ∙ append_assoc (encode t) (encodes us) J.rest

    pub here_one : Here arities src at (at + length (encode t)) t
    here_one = record { formed = J.formed.0; range = J.range.0; stands = stands_at src at (encode t) _ there_one }

    pub inside_source : at + length (encode t) ≤ length src
    inside_source = stands_within here_one.stands (encode_some t)

    pub room_one : o + length (encode (sub θ t)) + length (encodes (subs θ us)) + term_room ≤ n
    room_one = omega (arith, J.room, length-append (encode (sub θ t)) (encodes (subs θ us)))

    pub next_job :
        (at' n' o' : ℕ) → at' ≡ at + length (encode t) → n' ≡ n → o' ≤ o + length (encode (sub θ t))
        → Job arities vals starts src at' (k - 1) n' o' θ us
    next_job at' n' o' p e l = record {
      table = J.table;
      many = omega (arith, J.many);
      formed = J.formed.1;
      range = J.range.1;
      rest = J.rest;
      there = ap (λ (i : ℕ). drop i src) p ∙ behind src at (encode t) (encodes us ++ J.rest) there_one;
      values = λ v c. J.values v (inr c);
      small = J.small.1;
      room = omega (arith, room_one);
      short = omega (arith, J.short);
      values_short = J.values_short;
    }

  pub args_job :
      (f : ℕ) (args us : Terms) → Job arities vals starts src at k n o θ (app f args & us) → (at' k' n' o' : ℕ) → at' ≡ at + length (groups f)
      → count args ≡ k' → n' ≡ n → o' ≡ o + length (groups f) → Job arities vals starts src at' k' n' o' θ args
  args_job f args us J at' k' n' o' p c e l = record {
    table = J.table;
    many = c;
    formed = J.formed.0.1;
    range = J.range.0.1;
    rest = encodes us ++ J.rest;
    there = ap (λ (i : ℕ). drop i src) p ∙ behind_tag src f args at _ (there_one (app f args) us J);
    values = λ v i. J.values v (inl i);
    small = each_small θ args (let s = J.small.0 in omega arith);
    room = omega (arith, room_one (app f args) us J, length-append (groups f) (encodes (subs θ args)));
    short = omega (arith, J.short);
    values_short = J.values_short;
  }

-- no term is left
pub none_done :
    (arities vals starts src : List ℕ) (at k around : ℕ) (out : List ℕ) (o : ℕ) → k ≡ 0
    → Promises₂ (Job arities vals starts src at k (length out) o) (λ (θ : ℕ → Term) (ts : Terms). Out (o + length (encodes (subs θ ts)) + term_room) at out o
    out at o
    (encodes ts) (encodes (mades around θ ts)))
none_done arities vals starts src at k around out o z θ nil J = record { read = omega arith; wrote = wrote_nothing _ o out }
none_done arities vals starts src at k around out o z θ (t & us) J = absurd (omega (arith, J.many))

-- ── by the first symbol ──
module _ (arities vals starts src : List ℕ) (at k n o : ℕ) (y : Symbol) (tag number next : ℕ)
    (F : Promises₂ (Here arities src at) (λ (e : ℕ) (t : Term). FirstAt t at y)) (more : k ≢ 0) where
  pub leaf_case :
      (P : Terms → Type 0) (θ : ℕ → Term) (ts : Terms) → y ≡ sy.Leaf tag number next → Job arities vals starts src at k n o θ ts
      → ((kd : Kind) (us : Terms) → tag ≡ tag_of kd → next ≡ at + length (encode (leaf kd number))
      → Job arities vals starts src at k n o θ (leaf kd number & us) → P (leaf kd number & us))
      → P ts
  leaf_case P θ nil b J c = absurd (more (sym J.many))
  leaf_case P θ (leaf kd m & us) b J c =
      let f : sy.Leaf tag number next ≡ sy.Leaf (tag_of kd) m (at + length (encode (leaf kd m))) =
      sym b ∙ F _ (leaf kd m) (here_one arities vals starts src at k n o θ (leaf kd m) us J) in
      let q : m ≡ number = cc in
      let d : next ≡ at + length (encode (leaf kd m)) = cc in
      subst (λ (i : ℕ). P (leaf kd i & us)) (sym q)
      (c kd us (cc) (d ∙ ap (λ (i : ℕ). at + length (encode (leaf kd i))) q)
      (subst (λ (i : ℕ). Job arities vals starts src at k n o θ (leaf kd i & us)) q J))
  leaf_case P θ (app g args & us) b J c =
      let f : sy.Leaf tag number next ≡ sy.Op g (count args) (at + length (groups g)) =
      sym b ∙ F _ (app g args) (here_one arities vals starts src at k n o θ (app g args) us J) in
      clash (cc)

  pub op_case :
      (P : Terms → Type 0) (θ : ℕ → Term) (ts : Terms) → y ≡ sy.Op tag number next → Job arities vals starts src at k n o θ ts
      → ((args us : Terms) → count args ≡ number → next ≡ at + length (groups tag)
      → Job arities vals starts src at k n o θ (app tag args & us) → P (app tag args & us))
      → P ts
  op_case P θ nil b J c = absurd (more (sym J.many))
  op_case P θ (leaf kd m & us) b J c =
      let f : sy.Op tag number next ≡ sy.Leaf (tag_of kd) m (at + length (encode (leaf kd m))) =
      sym b ∙ F _ (leaf kd m) (here_one arities vals starts src at k n o θ (leaf kd m) us J) in
      clash (cc)
  op_case P θ (app g args & us) b J c =
      let f : sy.Op tag number next ≡ sy.Op g (count args) (at + length (groups g)) =
      sym b ∙ F _ (app g args) (here_one arities vals starts src at k n o θ (app g args) us J) in
      let q : g ≡ tag = cc in
      let d : next ≡ at + length (groups g) = cc in
      subst (λ (i : ℕ). P (app i args & us)) (sym q)
      (c args us (cc) (d ∙ ap (λ (i : ℕ). at + length (groups i)) q)
      (subst (λ (i : ℕ). Job arities vals starts src at k n o θ (app i args & us)) q J))

module _ (arities vals starts src : List ℕ) (at k n o : ℕ) (y : Symbol) (next : ℕ)
    (F : Promises₂ (Here arities src at) (λ (e : ℕ) (t : Term). FirstAt t at y)) (more : k ≢ 0) where
  -- the place moves on, within the source
  pub ahead : place_behind y ≡ next → Asks₂ (Job arities vals starts src at k n o) → (at < next) × (at < length src)
  ahead d (θ, nil, J) = absurd (more (sym J.many))
  ahead d (θ, (leaf kd m & us), J) =
      let f = ap place_behind (F _ (leaf kd m) (here_one arities vals starts src at k n o θ (leaf kd m) us J)) in
      let l = encode_some (leaf kd m) in
      (omega (arith, f, d, l), omega (arith, l, inside_source arities vals starts src at k n o θ (leaf kd m) us J))
  ahead d (θ, (app g args & us), J) =
      let f = ap place_behind (F _ (app g args) (here_one arities vals starts src at k n o θ (app g args) us J)) in
      let l = encode_some (app g args) in
      (omega (arith, f, d, groups_some g), omega (arith, l, inside_source arities vals starts src at k n o θ (app g args) us J))

-- ── a leaf ──
leaf_made : (around : ℕ) (θ : ℕ → Term) (kd : Kind) (m : ℕ) → made around θ (leaf kd m) ≡ sub θ (leaf kd m)
leaf_made around θ variable m = refl
leaf_made around θ public m = refl
leaf_made around θ fresh m = refl

pub leaf_job :
    (arities vals starts src : List ℕ) (at k n o tag number : ℕ) (θ : ℕ → Term) (kd : Kind) (us : Terms) → tag ≡ tag_of kd
    → Job arities vals starts src at k n o θ (leaf kd number & us) → LeafJob vals starts n o tag number θ kd
leaf_job arities vals starts src at k n o tag number θ kd us t J = record {
  arities = arities;
  kind = t;
  range = J.range.0;
  values = λ v c. J.values v (inl c);
  room = let r = room_one arities vals starts src at k n o θ (leaf kd number) us J in omega arith;
}

module _ (arities vals starts src : List ℕ) (at k : ℕ) (out : List ℕ) (o : ℕ) (y : Symbol) (tag number next : ℕ)
    (F : Promises₂ (Here arities src at) (λ (e : ℕ) (t : Term). FirstAt t at y)) (more : k ≢ 0) (b : y ≡ sy.Leaf tag number next) where
  pub leaf_asks : Asks₂ (Job arities vals starts src at k (length out) o) → Asks₂ (LeafJob vals starts (length out) o tag number)
  leaf_asks (θ, ts, J) =
      leaf_case arities vals starts src at k (length out) o y tag number next F more
      (λ ts. (Asks₂ (LeafJob vals starts (length out) o tag number))) θ ts b J
      (λ kd us t p J. (θ, kd, leaf_job arities vals starts src at k (length out) o tag number θ kd us t J))

  module _ (out₁ : List ℕ) (p : ℕ) (same : length out₁ ≡ length out) (D : Promises₂ (LeafJob vals starts (length out) o tag number)
      (λ (θ : ℕ → Term) (k : Kind). Wrote p out o out₁ p (encode (sub θ (leaf k number))))) where
    pub rest_job :
        (θ : ℕ → Term) (kd : Kind) (us : Terms) → tag ≡ tag_of kd → next ≡ at + length (encode (leaf kd number))
        → Job arities vals starts src at k (length out) o θ (leaf kd number & us)
        → Job arities vals starts src next (k - 1) (length out₁) p θ us
    rest_job θ kd us t e J =
        let d = D θ kd (leaf_job arities vals starts src at k (length out) o tag number θ kd us t J) in
        next_job arities vals starts src at k (length out) o θ (leaf kd number) us J next (length out₁) p e same (omega (arith, d.ends))

    pub leaf_next : Asks₂ (Job arities vals starts src at k (length out) o) → Asks₂ (Job arities vals starts src next (k - 1) (length out₁) p)
    leaf_next (θ, ts, J) =
        leaf_case arities vals starts src at k (length out) o y tag number next F more
        (λ ts. (Asks₂ (Job arities vals starts src next (k - 1) (length out₁) p))) θ ts b J
        (λ kd us t e J. (θ, us, rest_job θ kd us t e J))

    pub leaf_done :
        (around rest : ℕ) → rest ≡ beside around → (out' : List ℕ) (at' o' : ℕ) → Promises₂ (Job arities vals starts src next (k - 1) (length out₁) p)
        (λ (θ : ℕ → Term) (ts : Terms). Out (p + length (encodes (subs θ ts)) + term_room) next out₁ p out' at' o' (encodes ts) (encodes (mades rest θ ts)))
        → Promises₂ (Job arities vals starts src at k (length out) o) (λ (θ : ℕ → Term) (ts : Terms). Out (o + length (encodes (subs θ ts)) + term_room) at out
        o out' at'
        o'
        (encodes ts) (encodes (mades around θ ts)))
    leaf_done around rest q out' at' o' M θ ts J =
        leaf_case arities vals starts src at k (length out) o y tag number next F more
        (λ ts. Out (o + length (encodes (subs θ ts)) + term_room) at out o out' at' o' (encodes ts) (encodes (mades around θ ts))) θ ts b J
        (λ kd us t e J.
        let d = D θ kd (leaf_job arities vals starts src at k (length out) o tag number θ kd us t J) in
        let m = subst (λ (j : ℕ). Out (p + length (encodes (subs θ us)) + term_room) next out₁ p out' at' o' (encodes us) (encodes (mades j θ us))) q
        (M θ us (rest_job θ kd us t e J)) in
        let w : ℕ = o + length (encodes (subs θ (leaf kd number & us))) + term_room in
        let l = length-append (encode (sub θ (leaf kd number))) (encodes (subs θ us)) in
        record {
          read = omega (arith, m.read, e, length-append (encode (leaf kd number)) (encodes us));
          wrote = subst (λ (x : Term). Wrote w out o out' o' (encode x ++ encodes (mades (beside around) θ us))) (sym (leaf_made around θ kd number))
              (wrote_then (widen w (omega (arith, d.ends, l)) d) (widen w (omega (arith, d.ends, l)) m.wrote));
        })
