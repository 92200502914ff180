-- The first of some terms, the others, the arguments of a term, terms behind others.
use Rattle.std.specs.Prelude.{ℕ, ◌+◌, ◌≤◌, ◌<◌, ◌≡◌, refl, List, [], ◌++◌, length, drop}
use Rattle.std.proofs.Common.{ap, sym, ◌∙◌, subst, append-nil, append_assoc, arith}
use Rattle.std.specs.Prelude.{Option}
use Rattle.octets.specs.Head.{Bytes, Stands, stands_at, stands_within, stands_join, behind}
use Rattle.term.specs.Term.{Term, leaf, app, Terms, nil, ◌&◌, count, encode, encodes, symbols, symbolss, Formeds, InRanges}
use Rattle.term.specs.Arity.{arity}
use Rattle.number.specs.Groups.{groups}
use Rattle.term.specs.Term.Laws.{encode_some}
use Rattle.term.specs.Reader.{term}
use Rattle.term.specs.Reader.Exact.{term_back, behind_tag}
use Rattle.term.specs.Walk.{bytes_of}
use Rattle.factors.specs.Laid.{Laid, OneAt, also}

module _ {arities src : List ℕ} {at : ℕ} where
  -- ── the first and the others ──
  pub first_of : {t : Term} {us : Terms} → Laid arities src at (t & us) → OneAt arities src at (at + length (encode t)) t
  first_of {t} {us} L = record {
    formed = L.formed.0;
    range = L.range.0;
    there = stands_at src at (encode t) _ (L.there.there ∙ append_assoc (encode t) (encodes us) _);
  }

  pub others_of : {t : Term} {us : Terms} → Laid arities src at (t & us) → Laid arities src (at + length (encode t)) us
  others_of {t} {us} L = record {
    formed = L.formed.1;
    range = L.range.1;
    there = stands_at src (at + length (encode t)) (encodes us) _
        (behind src at (encode t) _ (L.there.there ∙ append_assoc (encode t) (encodes us) _));
  }

  -- ── one term ──
  module _ {e : ℕ} {t : Term} (O : OneAt arities src at e t) where
    pub one_after : at < e
    one_after = omega (arith, O.there.ends, encode_some t)

    pub one_within : e ≤ length src
    one_within = stands_within O.there (encode_some t)

    pub laid_one : Laid arities src at (t & nil)
    laid_one = record {
      formed = (O.formed, tt);
      range = (O.range, tt);
      there = stands_at src at (encode t ++ []) (drop e src) (O.there.there ∙ ap (λ (l : List ℕ). l ++ drop e src) (sym (append-nil (encode t))));
    }

    -- what the code reads there
    pub one_bytes : Bytes src → bytes_of (term src arities at) ≡ encode t
    one_bytes bytes = ap bytes_of (term_back src arities bytes t at (drop e src) O.formed O.range O.there.there)

  -- one more behind
  pub laid_more : {e : ℕ} {t : Term} {us : Terms} → OneAt arities src at e t → Laid arities src e us → Laid arities src at (t & us)
  laid_more {e} {t} {us} O L = record {
    formed = (O.formed, L.formed);
    range = (O.range, L.range);
    there =
        let j = stands_join O.there L.there in
        stands_at src at (encode t ++ encodes us) _ j.there;
  }

-- the arguments of a term
pub args_of :
    {arities src : List ℕ} {at e f : ℕ} {ts : Terms} → OneAt arities src at e (app f ts) → Laid arities src (at + length (groups f)) ts
args_of {src = src} {at} {e} {f} {ts} O = record {
  formed = O.formed.1;
  range = O.range.1;
  there = stands_at src (at + length (groups f)) (encodes ts) (drop e src) (behind_tag src f ts at (drop e src) O.there.there);
}

-- ── some terms and others behind them ──
pub also_count : (ts us : Terms) → count (also ts us) ≡ count ts + count us
also_count nil us = omega arith
also_count (t & ts) us = omega (arith, also_count ts us)

pub also_symbols : (ts us : Terms) → symbolss (also ts us) ≡ symbolss ts + symbolss us
also_symbols nil us = omega arith
also_symbols (t & ts) us = omega (arith, also_symbols ts us)

pub also_bytes : (ts us : Terms) → encodes (also ts us) ≡ encodes ts ++ encodes us
also_bytes nil us = refl
also_bytes (t & ts) us = ap (λ (x : List ℕ). encode t ++ x) (also_bytes ts us) ∙ sym (append_assoc (encode t) (encodes ts) (encodes us))

also_formed : (ar : ℕ → Option ℕ) (ts us : Terms) → Formeds ar ts → Formeds ar us → Formeds ar (also ts us)
also_formed ar nil us a b = b
also_formed ar (t & ts) us a b = (a.0, also_formed ar ts us a.1 b)

also_range : (ts us : Terms) → InRanges ts → InRanges us → InRanges (also ts us)
also_range nil us a b = b
also_range (t & ts) us a b = (a.0, also_range ts us a.1 b)

pub laid_also :
    {arities src : List ℕ} {at e : ℕ} (ts us : Terms) → Laid arities src at ts → at + length (encodes ts) ≡ e → Laid arities src e us
    → Laid arities src at (also ts us)
laid_also {arities} {src} {at} {e} ts us A q B = record {
  formed = also_formed (arity arities) ts us A.formed B.formed;
  range = also_range ts us A.range B.range;
  there =
      let j = stands_join A.there (subst (λ (i : ℕ). Stands src i (encodes us) (i + length (encodes us))) (sym q) B.there) in
      stands_at src at (encodes (also ts us)) (drop (at + length (encodes ts) + length (encodes us)) src) (rw (also_bytes ts us) j.there);
}

-- a term has a symbol, and so have some terms each
pub some_symbol : (t : Term) → 0 < symbols t
some_symbol (leaf k n) = omega arith
some_symbol (app f ts) = omega arith

pub count_symbols : (ts : Terms) → count ts ≤ symbolss ts
count_symbols nil = omega arith
count_symbols (t & ts) = omega (arith, some_symbol t, count_symbols ts)
