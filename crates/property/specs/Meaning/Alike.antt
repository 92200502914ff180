-- Values that are alike: messages by one relation, times by another. What variables and terms stand for is then alike too.
use Rattle.std.specs.Prelude.{◌≡◌, List, [], ◌∷◌, map, ℕ, zero, suc}
use Rattle.lists.specs.Pairs.{Pairs, nothing, more}
use Rattle.property.specs.Formula.{Term, var, public}
use Rattle.property.specs.Meaning.{Messages, Value, message, time, Fact, Trace, message_at, time_at, term_under}

module _ {A B C D : Type 0} (R : A → B → Type 0) (Q : C → D → Type 0) where
  pub data LikeValue : Value A C → Value B D → Type 0 where
    messages_like : {a : A} {b : B} → R a b → LikeValue (message a) (message b)
    times_like : {c : C} {d : D} → Q c d → LikeValue (time c) (time d)

  abbrev pub LikeValues : List (Value A C) → List (Value B D) → Type 0
  LikeValues = Pairs LikeValue

  pub message_like :
      {d : A} {e : B} → R d e → {v : List (Value A C)} {w : List (Value B D)} → LikeValues v w → (x : ℕ) → R (message_at d v x) (message_at e w x)
  message_like r nothing x = r
  message_like r (more (messages_like q) p) zero = q
  message_like r (more (messages_like q) p) (suc x) = message_like r p x
  message_like r (more (times_like q) p) zero = r
  message_like r (more (times_like q) p) (suc x) = message_like r p x

  pub time_like :
      {d : C} {e : D} → Q d e → {v : List (Value A C)} {w : List (Value B D)} → LikeValues v w → (x : ℕ) → Q (time_at d v x) (time_at e w x)
  time_like r nothing x = r
  time_like r (more (messages_like q) p) zero = r
  time_like r (more (messages_like q) p) (suc x) = time_like r p x
  time_like r (more (times_like q) p) zero = q
  time_like r (more (times_like q) p) (suc x) = time_like r p x

-- facts: the same symbol, and messages that are related
module _ {A B : Type 0} (R : A → B → Type 0) where
  pub record LikeFact (f : Fact A) (g : Fact B) : Type 0 where
    pub symbol : f.symbol ≡ g.symbol
    pub messages : Pairs R f.messages g.messages

  abbrev pub LikeTrace : Trace A → Trace B → Type 0
  LikeTrace = Pairs (Pairs LikeFact)

-- terms, where the public names are related
module _ (M N : Messages) {C D : Type 0} (R : M.Msg → N.Msg → Type 0) (Q : C → D → Type 0) (names : (n : ℕ) → R (M.name n) (N.name n)) where
  pub term_like : {v : List (Value M.Msg C)} {w : List (Value N.Msg D)} → LikeValues R Q v w → (t : Term) → R (term_under M v t) (term_under N w t)
  term_like p (var x) = message_like R Q (names 0) p x
  term_like p (public n) = names n

  pub terms_like :
      {v : List (Value M.Msg C)} {w : List (Value N.Msg D)} → LikeValues R Q v w → (ts : List Term)
      → Pairs R (map (term_under M v) ts) (map (term_under N w) ts)
  terms_like p [] = nothing
  terms_like p (t ∷ ts) = more (term_like p t) (terms_like p ts)
