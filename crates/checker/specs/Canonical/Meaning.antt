-- What the call writes, in document 01's words: where it passes, the files hold a fit protocol and a term, and the output begins with the
-- encoding of the one canonical message that the paper's equations make equal to it; its length is the answer.
use Rattle.std.specs.Prelude.{ℕ, ◌≤◌, List, [], ◌≡◌, refl, length}
use Rattle.std.proofs.Common.{sym, ◌∙◌, arith}
use Rattle.lists.specs.Choice.{by_size}
use Rattle.octets.specs.Head.{Bytes}
use Rattle.octets.specs.Splice.{splice}
use Rattle.term.specs.Term.{Term, encode, Formed}
use Rattle.term.specs.Arity.{arity, tag_arities}
use Rattle.message.specs.Equations.{Same}
use Rattle.message.specs.Canonical.{Canonical}
use Rattle.message.specs.Substitution.{Ground}
use Rattle.message.specs.Canon.{canon}
use Rattle.message.proofs.Theorems.{canon_same, canon_is_canonical, canon_is_formed, canon_is_ground, canonical_same, declared}
use Rattle.message.specs.Equations as equations
use Rattle.rewriting.specs.Table.{Ruling, passed, refused, and_then}
use Rattle.rewriting.specs.Table.Laws.{refused_passed, passed_inj}
use Rattle.checker.specs.Answer.{work_need}
use Rattle.checker.specs.Passing.{less_yes, less_no}
use Rattle.checker.specs.Files.{protocol_limit, term_limit}
use Rattle.checker.specs.Canonical.{term_of, need, room_ruling, canonical_outcome, canonical_output}
use Rattle.checker.specs.Canonical.Cases.{work_short, protocol_over, term_over, sized, output_written}
use Rattle.checker.specs.Canonical.Files.{Encodes, taken, forms}

module _ (protocol term output : List ℕ) (work : ℕ) where
  pub record FormWritten (n : ℕ) : Type 0 where
    -- the term that the files hold
    pub held : Term
    pub files : Encodes protocol term held
    -- its canonical form
    pub form : Term
    pub is_ground : Ground form
    pub formed : Formed (arity (tag_arities files.is.functions)) form
    pub canonical : Canonical form
    pub same : Same (arity (tag_arities files.is.functions)) held form
    -- the answer and the output
    pub long : n ≡ length (encode form)
    pub room : n ≤ length output
    pub left : canonical_output protocol term output work ≡ splice output 0 (encode form)

  abbrev Outcome : Ruling ℕ
  Outcome = canonical_outcome protocol term (length output) work

  never : {C : Type 0} (n m k : ℕ) → Outcome ≡ passed n → Outcome ≡ refused m k → C
  never n m k e f = absurd (refused_passed m k n (sym f ∙ e))

  module _ (protocol_bytes : Bytes protocol) (bytes : Bytes term) (n : ℕ) (e : Outcome ≡ passed n) where
    of_term : (t : Term) → term_of protocol term ≡ passed t → room_ruling (length output) t ≡ passed n → FormWritten n
    of_term t i r =
        let f = taken protocol term protocol_bytes bytes t i in
        let ar = arity (tag_arities f.is.functions) in
        let g = declared f.is.functions in
        by_size (length output) (need t)
        (λ l. absurd (refused_passed 15 (need t) n (sym (less_yes 15 (need t) (length output) (need t) [] (passed (need t)) l) ∙ r)))
        (λ l. let m : need t ≡ n = passed_inj (need t) n (sym (less_no 15 (need t) (length output) (need t) [] (passed (need t)) l) ∙ r) in
        record {
          held = t;
          files = f;
          form = canon t;
          is_ground = canon_is_ground ar g t f.file.is_ground;
          formed = canon_is_formed ar g t f.file.formed;
          canonical = canon_is_canonical ar g t f.file.formed;
          same = canon_same ar g t f.file.formed;
          long = sym m;
          room = omega (arith, m);
          left = sym (output_written protocol term output (encode (canon t)) work n e (forms protocol term protocol_bytes bytes t i));
        })

    of_ruling : (r : Ruling Term) → term_of protocol term ≡ r → and_then r (room_ruling (length output)) ≡ passed n → FormWritten n
    of_ruling (passed t) i q = of_term t i q
    of_ruling (refused m k) i q = absurd (refused_passed m k n q)

    pub written_meaning : FormWritten n
    written_meaning =
        by_size work work_need
        (λ l. never n 1 0 e (work_short protocol term (length output) work l))
        (λ long. by_size protocol_limit (length protocol)
        (λ l. never n 2 1 e (protocol_over protocol term (length output) work long l))
        (λ p. by_size term_limit (length term)
        (λ l. never n 2 4 e (term_over protocol term (length output) work long p l))
        (λ t. of_ruling (term_of protocol term) refl (sym (sized protocol term (length output) work long p t) ∙ e))))

-- the canonical form is the only one
pub one_form :
    (ar : List ℕ) (t u v : Term) → Formed (arity (tag_arities ar)) u → Formed (arity (tag_arities ar)) v → Canonical u → Canonical v
    → Same (arity (tag_arities ar)) t u → Same (arity (tag_arities ar)) t v → u ≡ v
one_form ar t u v f g c d p q =
    canonical_same (arity (tag_arities ar)) (declared ar) u v f g c d (equations.transitive (equations.symmetric p) q)
