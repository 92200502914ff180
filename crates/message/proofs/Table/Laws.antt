-- The table's rows are fit for the proofs, its equations and those of products are the twelve, and no rule of it applies exactly where no dec, fst,
-- snd, adec or verify equation does.
use Rattle.std.specs.Prelude.{ℕ, zero, suc, ◌≡◌, refl, ◌≢◌, Bool}
use Rattle.std.proofs.Common.{sym, ◌∙◌, ap, subst, inl, inr, arith, ne_eqb}
use Rattle.std.proofs.Common.{Option, Some}
use Rattle.term.specs.Tags.{one_tag, dec_tag, fst_tag, snd_tag, exp_tag, inv_tag, mul_tag, adec_tag, verify_tag}
use Rattle.lists.specs.Choice.{pick, cut_eq, clash}
use Rattle.term.specs.Term.{Term, app, nil, ◌&◌}
use Rattle.message.specs.Functions.{enc, pair, aenc, pk, sign, yes}
use Rattle.message.specs.Equations.{Figure2, Twelve, figure, adec_aenc, verify_sign, dec_enc, fst_pair, snd_pair}
use Rattle.message.specs.Equations.{mul_assoc, mul_comm, mul_one, mul_inv, inv_inv, exp_exp, exp_one}
use Rattle.message.specs.Substitution.{sub}
use Rattle.message.specs.Canonical.{Settled}
use Rattle.message.specs.Rules.{Rule, Ordinary, a_variable, a_constant, FitRule, FitArities, Theory, Tabled, reduce}
use Rattle.message.specs.Rules.{assoc, comm, unit, cancel, double, tower, first, Irreducible}
use Rattle.message.specs.Table.{Table, end, row, lookup, x, y, table, rules}

-- ── what holds of every row ──
abbrev Rows : (ℕ → Rule → Type 0) → Table → Type 0
Rows P end = Unit {0}
Rows P (row g ts u rows) = P g (record { args = ts; result = u }) × Rows P rows

of_row : (P : ℕ → Rule → Type 0) (rows : Table) → Rows P rows → (f : ℕ) (r : Rule) → lookup rows f ≡ Some r → P f r
of_row P end ps f r e = clash (cc)
of_row P (row g ts u rows) ps f r e =
    cut_eq _ _ _ f g e
    (λ p q. let s : record { args = ts; result = u } ≡ r = cc in
    subst (λ (z : Rule). P f z) s (subst (λ (i : ℕ). P i (record { args = ts; result = u })) (sym p) ps.0))
    (λ p q. of_row P rows ps.1 f r q)

-- a tag without a row
abbrev Absent : ℕ → Table → Type 0
Absent f end = Unit {0}
Absent f (row g ts u rows) = (f ≢ g) × Absent f rows

absent : (f : ℕ) (rows : Table) → Absent f rows → lookup rows f ≡ Option.None
absent f end a = refl
absent f (row g ts u rows) a =
    ap (λ (b : Bool). pick b (Some (record { args = ts; result = u })) (lookup rows f)) (ne_eqb f g a.0) ∙ absent f rows a.1

-- no row has the tag
pub record Ruleless (f : ℕ) : Type 0 where
  pub no_dec : f ≢ dec_tag
  pub no_fst : f ≢ fst_tag
  pub no_snd : f ≢ snd_tag
  pub no_adec : f ≢ adec_tag
  pub no_verify : f ≢ verify_tag

pub no_rule : (f : ℕ) → Ruleless f → rules f ≡ Option.None
no_rule f r = absent f table (r.no_dec, (r.no_fst, (r.no_snd, (r.no_adec, (r.no_verify, tt)))))

-- ── the rows are fit ──
pub ordinary : (f : ℕ) → f ≢ one_tag → f ≢ exp_tag → f ≢ inv_tag → f ≢ mul_tag → Ordinary f
ordinary f a b c d = record { no_one = a; no_exp = b; no_inv = c; no_mul = d }

enc_ordinary : Ordinary 4
enc_ordinary = ordinary 4 (omega arith) (omega arith) (omega arith) (omega arith)

pair_ordinary : Ordinary 7
pair_ordinary = ordinary 7 (omega arith) (omega arith) (omega arith) (omega arith)

module _ (ar : ℕ → Option ℕ) (g : FitArities ar) where
  fit_adec : FitRule ar rules 30 (record { args = aenc x (pk y) & y & nil; result = x })
  fit_adec = record {
    head = ordinary 30 (omega arith) (omega arith) (omega arith) (omega arith);
    args = (
      (
        ordinary 29 (omega arith) (omega arith) (omega arith) (omega arith),
        refl,
        (tt, ((ordinary 31 (omega arith) (omega arith) (omega arith) (omega arith), refl, (tt, tt)), tt)),
      ),
      (tt, tt),
    );
    result = a_variable;
    bound = λ v o. inl (inl o);
  }

  fit_verify : FitRule ar rules 33 (record { args = sign x y & x & pk y & nil; result = yes })
  fit_verify = record {
    head = ordinary 33 (omega arith) (omega arith) (omega arith) (omega arith);
    args = (
      (ordinary 32 (omega arith) (omega arith) (omega arith) (omega arith), refl, (tt, (tt, tt))),
      (tt, ((ordinary 31 (omega arith) (omega arith) (omega arith) (omega arith), refl, (tt, tt)), tt)),
    );
    result = a_constant {f = 34} (omega arith) (ordinary 34 (omega arith) (omega arith) (omega arith) (omega arith)) refl g.true_arity;
    bound = λ v o. absurd o;
  }

  fit_dec : FitRule ar rules 5 (record { args = enc x y & y & nil; result = x })
  fit_dec = record {
    head = ordinary 5 (omega arith) (omega arith) (omega arith) (omega arith);
    args = ((enc_ordinary, refl, (tt, (tt, tt))), (tt, tt));
    result = a_variable;
    bound = λ v o. inl (inl o);
  }

  fit_fst : FitRule ar rules 8 (record { args = pair x y & nil; result = x })
  fit_fst = record {
    head = ordinary 8 (omega arith) (omega arith) (omega arith) (omega arith);
    args = ((pair_ordinary, refl, (tt, (tt, tt))), tt);
    result = a_variable;
    bound = λ v o. inl (inl o);
  }

  fit_snd : FitRule ar rules 9 (record { args = pair x y & nil; result = y })
  fit_snd = record {
    head = ordinary 9 (omega arith) (omega arith) (omega arith) (omega arith);
    args = ((pair_ordinary, refl, (tt, (tt, tt))), tt);
    result = a_variable;
    bound = λ v o. inl (inr (inl o));
  }

  pub rows_fit : (f : ℕ) (r : Rule) → rules f ≡ Some r → FitRule ar rules f r
  rows_fit f r e = of_row (FitRule ar rules) table (fit_dec, (fit_fst, (fit_snd, (fit_adec, (fit_verify, tt))))) f r e

  -- the theory of the table, for an arity of each tag
  abbrev pub theory : Theory
  theory = record { arity = ar; rule = rules; arities = g; fit = rows_fit }

-- ── the table's equations and those of products are the twelve ──
abbrev pub values : Term → Term → ℕ → Term
values a b zero = a
values a b (suc n) = b

ten_tabled : (t u : Term) → Figure2 t u → Tabled rules t u
ten_tabled t u (dec_enc m k) = reduce {f = 5} {r = record { args = enc x y & y & nil; result = x }} refl (values m k)
ten_tabled t u (fst_pair a b) = reduce {f = 8} {r = record { args = pair x y & nil; result = x }} refl (values a b)
ten_tabled t u (snd_pair a b) = reduce {f = 9} {r = record { args = pair x y & nil; result = y }} refl (values a b)
ten_tabled t u (mul_assoc a b c) = assoc a b c
ten_tabled t u (mul_comm a b) = comm a b
ten_tabled t u (mul_one a) = unit a
ten_tabled t u (mul_inv a) = cancel a
ten_tabled t u (inv_inv a) = double a
ten_tabled t u (exp_exp a b c) = tower a b c
ten_tabled t u (exp_one a) = first a

pub twelve_tabled : (t u : Term) → Twelve t u → Tabled rules t u
twelve_tabled t u (figure e) = ten_tabled t u e
twelve_tabled t u (adec_aenc m k) = reduce {f = 30} {r = record { args = aenc x (pk y) & y & nil; result = x }} refl (values m k)
twelve_tabled t u (verify_sign m k) = reduce {f = 33} {r = record { args = sign x y & x & pk y & nil; result = yes }} refl (values m k)

abbrev InTwelve : ℕ → Rule → Type 0
InTwelve f r = (θ : ℕ → Term) → Twelve (sub θ (app f r.args)) (sub θ r.result)

pub tabled_twelve : (t u : Term) → Tabled rules t u → Twelve t u
tabled_twelve t u (reduce {f = f} {r = r} e θ) =
    of_row InTwelve table (
      λ η. figure (dec_enc (η 0) (η 1)),
      (
        λ η. figure (fst_pair (η 0) (η 1)),
        (λ η. figure (snd_pair (η 0) (η 1)), (λ η. adec_aenc (η 0) (η 1), (λ η. verify_sign (η 0) (η 1), tt))),
      ),
    ) f r e θ
tabled_twelve t u (assoc a b c) = figure (mul_assoc a b c)
tabled_twelve t u (comm a b) = figure (mul_comm a b)
tabled_twelve t u (unit a) = figure (mul_one a)
tabled_twelve t u (cancel a) = figure (mul_inv a)
tabled_twelve t u (double a) = figure (inv_inv a)
tabled_twelve t u (tower a b c) = figure (exp_exp a b c)
tabled_twelve t u (first a) = figure (exp_one a)

-- ── the table's rules are the words of the canonical form ──
pub settled_irreducible : (t : Term) → Settled t → Irreducible rules t
settled_irreducible t s = record {
  no_rule = of_row (λ f r. (θ : ℕ → Term) → t ≢ sub θ (app f r.args)) table (
    λ η. s.no_dec (η 0) (η 1),
    (
      λ η. s.no_fst (η 0) (η 1),
      (
        λ η. s.no_snd (η 0) (η 1),
        (λ η. s.no_adec (η 0) (η 1), (λ η. s.no_verify (η 0) (η 1), tt)),
      ),
    ),
  );
  no_exp = s.no_exp;
  no_exp_one = s.no_exp_one;
}

pub irreducible_settled : (t : Term) → Irreducible rules t → Settled t
irreducible_settled t i = record {
  no_dec = λ m k. i.no_rule 5 (record { args = enc x y & y & nil; result = x }) refl (values m k);
  no_fst = λ a b. i.no_rule 8 (record { args = pair x y & nil; result = x }) refl (values a b);
  no_snd = λ a b. i.no_rule 9 (record { args = pair x y & nil; result = y }) refl (values a b);
  no_adec = λ m k. i.no_rule 30 (record { args = aenc x (pk y) & y & nil; result = x }) refl (values m k);
  no_verify = λ m k. i.no_rule 33 (record { args = sign x y & x & pk y & nil; result = yes }) refl (values m k);
  no_exp = i.no_exp;
  no_exp_one = i.no_exp_one;
}
