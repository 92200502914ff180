-- "Equality is the least congruence of document 003, figure 2"; document 02, Change 4: "Message equality is from then on the congruence of all twelve
-- equations". What a reader must believe of equality is in this file.
use Rattle.std.specs.Prelude.{ℕ}
use Rattle.std.specs.Prelude.{Option}
use Rattle.term.specs.Term.{Term, app, Terms, nil, ◌&◌, Formed}
use Rattle.message.specs.Functions.{one, enc, dec, pair, fst, snd, exp, inv, mul, aenc, adec, pk, sign, verify, yes}
-- its laws
pub mod Laws
-- it is the least
pub mod Least
-- and so it is on messages alone
pub mod Messages
-- between terms of document 01's functions it is what the ten equations alone make it
pub mod Older

-- figure 2, equations (1) to (10), each side as it stands there
pub data Figure2 : Term → Term → Type 0 where
  dec_enc : (m k : Term) → Figure2 (dec (enc m k) k) m
  fst_pair : (x y : Term) → Figure2 (fst (pair x y)) x
  snd_pair : (x y : Term) → Figure2 (snd (pair x y)) y
  mul_assoc : (x y z : Term) → Figure2 (mul x (mul y z)) (mul (mul x y) z)
  mul_comm : (x y : Term) → Figure2 (mul x y) (mul y x)
  mul_one : (x : Term) → Figure2 (mul x one) x
  mul_inv : (x : Term) → Figure2 (mul x (inv x)) one
  inv_inv : (x : Term) → Figure2 (inv (inv x)) x
  exp_exp : (x y z : Term) → Figure2 (exp (exp x y) z) (exp x (mul y z))
  exp_one : (x : Term) → Figure2 (exp x one) x

-- "The equations are adec(aenc(m,pk(k)),k)=m and verify(sign(m,k),m,pk(k))=true": the figure's ten and these two
pub data Twelve : Term → Term → Type 0 where
  figure : {t u : Term} → Figure2 t u → Twelve t u
  adec_aenc : (m k : Term) → Twelve (adec (aenc m (pk k)) k) m
  verify_sign : (m k : Term) → Twelve (verify (sign m k) m (pk k)) yes

-- the least congruence, on the terms that are well formed under an arity for each tag, that holds the equations E; every term on
-- the way is well formed
mutual
  pub data Congruence (ar : ℕ → Option ℕ) (E : Term → Term → Type 0) : Term → Term → Type 0 where
    equation : {t u : Term} → Formed ar t → Formed ar u → E t u → Congruence ar E t u
    reflexive : {t : Term} → Formed ar t → Congruence ar E t t
    symmetric : {t u : Term} → Congruence ar E t u → Congruence ar E u t
    transitive : {t u v : Term} → Congruence ar E t u → Congruence ar E u v → Congruence ar E t v
    congruent : {f : ℕ} {ts us : Terms} → Formed ar (app f ts) → Congruences ar E ts us → Congruence ar E (app f ts) (app f us)

  -- argument by argument, of any number
  pub data Congruences (ar : ℕ → Option ℕ) (E : Term → Term → Type 0) : Terms → Terms → Type 0 where
    same_none : Congruences ar E nil nil
    same_more : {t u : Term} {ts us : Terms} → Congruence ar E t u → Congruences ar E ts us → Congruences ar E (t & ts) (u & us)

-- "Two messages count as equal exactly when the paper's ten equations make them equal", and from Change 4 on all twelve
abbrev pub Same : (ℕ → Option ℕ) → Term → Term → Type 0
Same ar t u = Congruence ar Twelve t u
