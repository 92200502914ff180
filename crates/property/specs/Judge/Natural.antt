-- The judge sees of messages only which are the same: two kinds of messages, related so that the tests agree and the names correspond,
-- give the same judgement. No fitness is asked.
use Rattle.std.specs.Prelude.{◌≡◌, refl, Bool, true, false, not, ◌&&◌, ◌||◌, List, [], ◌∷◌, map, ℕ, suc, length, eqb, ltb}
use Rattle.std.proofs.Common.{ap, ap₂, subst}
use Rattle.lists.specs.Pairs.{Pairs, nothing, more, pairs_append, pairs_length, pairs_any, pairs_all}
use Rattle.property.specs.Formula.{Sort, msg, tmp, Term, Pattern, Atom, equal, before, together, action, Formula}
use Rattle.property.specs.Formula.{absurdity, is, isnt, both, either, exists, every}
use Rattle.property.specs.Fit.{is_var}
use Rattle.property.specs.Meaning.{Messages, Value, Fact, Entry, Trace, fact_under}
use Rattle.property.specs.Meaning.Alike.{messages_like, times_like, LikeValues, LikeFact, LikeTrace, time_like, term_like, terms_like}
use Rattle.property.specs.Judge.{entries_from, Bindings, same_all, same_fact, matches, first, found, extended, entries, test, judge}

-- the tests agree on messages that correspond, and so do the public names
pub record Natural (M N : Messages) (R : M.Msg → N.Msg → Type 0) : Type 0 where
  pub tests : {a b : M.Msg} {c d : N.Msg} → R a c → R b d → M.same a b ≡ N.same c d
  pub names : (n : ℕ) → R (M.name n) (N.name n)

-- ── entries that correspond ──
module _ {A B : Type 0} (R : A → B → Type 0) where
  pub record LikeEntry (e : Entry A) (k : Entry B) : Type 0 where
    pub node : e.node ≡ k.node
    pub fact : LikeFact R e.fact k.fact

  node_like :
      (k : ℕ) {l : List (Fact A)} {m : List (Fact B)} → Pairs (LikeFact R) l m
      → Pairs LikeEntry (map (λ f. record { node = k; fact = f }) l) (map (λ f. record { node = k; fact = f }) m)
  node_like k nothing = nothing
  node_like k (more r p) = more (record { node = refl; fact = r }) (node_like k p)

  entries_like : (k : ℕ) {tr : Trace A} {tr' : Trace B} → LikeTrace R tr tr' → Pairs LikeEntry (entries_from k tr) (entries_from k tr')
  entries_like k nothing = nothing
  entries_like k (more r p) = pairs_append (node_like k r) (entries_like (suc k) p)

  -- bindings that correspond
  abbrev pub LikeBindings : List (Value A ℕ) → List (Value B ℕ) → Type 0
  LikeBindings = LikeValues R ◌≡◌

module _ {M N : Messages} {R : M.Msg → N.Msg → Type 0} (nat : Natural M N R) where
  same_all_like : {l m : List M.Msg} {k n : List N.Msg} → Pairs R l k → Pairs R m n → same_all M l m ≡ same_all N k n
  same_all_like nothing nothing = refl
  same_all_like nothing (more r q) = refl
  same_all_like (more r p) nothing = refl
  same_all_like (more r p) (more s q) = ap₂ ◌&&◌ (nat.tests r s) (same_all_like p q)

  same_fact_like : {f g : Fact M.Msg} {f' g' : Fact N.Msg} → LikeFact R f f' → LikeFact R g g' → same_fact M f g ≡ same_fact N f' g'
  same_fact_like p q = ap₂ ◌&&◌ (ap₂ eqb p.symbol q.symbol) (same_all_like p.messages q.messages)

  matches_like :
      {b : Bindings M} {c : Bindings N} → LikeBindings R b c → (g : Pattern) (i : ℕ) {e : Entry M.Msg} {k : Entry N.Msg} → LikeEntry R e k
      → matches M b g i e ≡ matches N c g i k
  matches_like {b} {c} p g i q =
      ap₂ ◌&&◌ (ap₂ eqb (time_like R ◌≡◌ refl p i) q.node)
      (same_fact_like {f = fact_under M b g} {f' = fact_under N c g}
      (record { symbol = refl; messages = terms_like M N R ◌≡◌ nat.names p g.terms }) q.fact)

  first_like : (x : ℕ) (ts : List Term) {ms : List M.Msg} {ns : List N.Msg} → Pairs R ms ns → R (first M x ts ms) (first N x ts ns)
  first_like x [] p = nat.names 0
  first_like x (t ∷ ts) nothing = nat.names 0
  first_like x (t ∷ ts) (more {a = m} {b = n} {l = ms} {m = ns} r p) = go (is_var x t) (first_like x ts p)
    where
      go :
          (c : Bool) → R (first M x ts ms) (first N x ts ns)
          → R (elim c [ true ↦ m | false ↦ first M x ts ms ]) (elim c [ true ↦ n | false ↦ first N x ts ns ])
      go true h = r
      go false h = h

  found_like :
      (x : ℕ) (s : List Sort) (g : Pattern) {e : Entry M.Msg} {k : Entry N.Msg} → LikeEntry R e k
      → LikeBindings R (found M x s g e) (found N x s g k)
  found_like x [] g q = nothing
  found_like x (msg ∷ s) g q = more (messages_like (first_like x g.terms q.fact.messages)) (found_like (suc x) s g q)
  found_like x (tmp ∷ s) g q = more (times_like q.node) (found_like (suc x) s g q)

  extended_like :
      {b : Bindings M} {c : Bindings N} → LikeBindings R b c → (s : List Sort) (g : Pattern) {e : Entry M.Msg} {k : Entry N.Msg}
      → LikeEntry R e k → LikeBindings R (extended M b s g e) (extended N c s g k)
  extended_like {b} {c} p s g {e} {k} q =
      pairs_append p
      (subst (λ (n : ℕ). LikeBindings R (found M (length b) s g e) (found N n s g k)) (pairs_length p) (found_like (length b) s g q))

  module _ {tr : Trace M.Msg} {tr' : Trace N.Msg} (like : LikeTrace R tr tr') where
    all_entries : Pairs (LikeEntry R) (entries M tr) (entries N tr')
    all_entries = entries_like R 1 like

    test_like : {b : Bindings M} {c : Bindings N} → LikeBindings R b c → (a : Atom) → test M tr b a ≡ test N tr' c a
    test_like p (equal t u) = nat.tests (term_like M N R ◌≡◌ nat.names p t) (term_like M N R ◌≡◌ nat.names p u)
    test_like p (before i j) = ap₂ ltb (time_like R ◌≡◌ refl p i) (time_like R ◌≡◌ refl p j)
    test_like p (together i j) = ap₂ eqb (time_like R ◌≡◌ refl p i) (time_like R ◌≡◌ refl p j)
    test_like {b} {c} p (action g i) = pairs_any (matches M b g i) (matches N c g i) (λ e k q. matches_like p g i q) all_entries

    pub judge_like : (f : Formula) {b : Bindings M} {c : Bindings N} → LikeBindings R b c → judge M tr b f ≡ judge N tr' c f
    judge_like absurdity p = refl
    judge_like (is a) p = test_like p a
    judge_like (isnt a) p = ap not (test_like p a)
    judge_like (both f g) p = ap₂ ◌&&◌ (judge_like f p) (judge_like g p)
    judge_like (either f g) p = ap₂ ◌||◌ (judge_like f p) (judge_like g p)
    judge_like (exists s g i f) {b} {c} p =
        pairs_any (λ e. matches M (extended M b s g e) g i e && judge M tr (extended M b s g e) f)
        (λ e. matches N (extended N c s g e) g i e && judge N tr' (extended N c s g e) f)
        (λ e k q. ap₂ ◌&&◌ (matches_like (extended_like p s g q) g i q) (judge_like f (extended_like p s g q))) all_entries
    judge_like (every s g i f) {b} {c} p =
        pairs_all (λ e. not (matches M (extended M b s g e) g i e) || judge M tr (extended M b s g e) f)
        (λ e. not (matches N (extended N c s g e) g i e) || judge N tr' (extended N c s g e) f)
        (λ e k q. ap₂ ◌||◌ (ap not (matches_like (extended_like p s g q) g i q)) (judge_like f (extended_like p s g q))) all_entries
