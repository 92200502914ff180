-- The power of a term to some others: to all of them as one product, and to a single factor.
use Rattle.std.specs.Prelude.{ℕ, ◌+◌, ◌≡◌, refl, Bool, length}
use Rattle.std.proofs.Math.Path.{sym, ap}
use Rattle.std.proofs.Common.{◌∙◌, arith, length-append}
use Rattle.std.proofs.Math.Bool.{false}
use Rattle.std.specs.Prelude.{Option}
use Rattle.lists.specs.Choice.{pick}
use Rattle.term.specs.Term.{Term, Terms, nil, ◌&◌, count, encode, encodes, Formed, Formeds}
use Rattle.message.specs.Functions.{exp}
use Rattle.message.specs.Product.{Exps, empty, ups, chain, quotient}
use Rattle.message.specs.Rules.{FitArities}
use Rattle.message.specs.Parts.{neg}
use Rattle.message.specs.Gather.{enter, sign, pour, pours, gather, multiplied, any, powered}
use Rattle.product.specs.Chain.Laws.{encode_two}

-- the power to the gathered factors l
abbrev power_of : Term → Exps → Term
power_of b l = pick (any (ups l)) (exp b (quotient (ups l) (ups (neg l)))) (pick (any (ups (neg l))) (exp b (quotient (ups l) (ups (neg l)))) b)

-- ── to a factor ──
pub powered_factor : (b y : Term) → ((l : Exps) → pour false y l ≡ enter y (sign false) l) → powered b (y & nil) ≡ exp b y
unfolding powered multiplied pour enter
powered_factor b y h = ap (power_of b) (h empty)

-- ── to one product ──
pour_chain : (m : Bool) (t : Term) (us : Terms) (l : Exps) → pour m (chain t us) l ≡ pours m (t & us) l
unfolding pour
pour_chain m t nil l = refl
pour_chain m t (u & us) l = pour_chain m u us (pour m t l)

module _ (t : Term) (us : Terms) where
  gather_chain : gather (t & us) ≡ gather (chain t us & nil)
  unfolding pour
  gather_chain = sym (pour_chain false t us empty)

  pub multiplied_chain : multiplied (t & us) ≡ multiplied (chain t us & nil)
  unfolding multiplied
  multiplied_chain = ap (λ (l : Exps). quotient (ups l) (ups (neg l))) gather_chain

  pub powered_chain : (b : Term) → powered b (t & us) ≡ powered b (chain t us & nil)
  unfolding powered multiplied
  powered_chain b = ap (power_of b) gather_chain

-- a tag between each two
pub chain_long : (t : Term) (us : Terms) → length (encode (chain t us)) ≡ length (encodes (t & us)) + count us
chain_long t nil = omega (arith, length-append (encode t) (encodes nil))
chain_long t (u & us) =
    ap length (encode_two 12 (omega arith) t (chain u us))
    ∙ omega (arith, length-append (encode t) (encode (chain u us)), length-append (encode t) (encodes (u & us)), chain_long u us)

pub chain_formed : (ar : ℕ → Option ℕ) → FitArities ar → (t : Term) (us : Terms) → Formeds ar (t & us) → Formed ar (chain t us)
chain_formed ar g t nil w = w.0
chain_formed ar g t (u & us) w = (g.mul_arity, (w.0, (chain_formed ar g u us w.1, tt)))
