-- Terms as messages of the judge: all terms, also those that are no messages. The test of canonical bytes is an equivalence on all of them.
use Rattle.std.specs.Prelude.{true, ◌≡◌}
use Rattle.lists.specs.Reflects.{reflects_exactly}
use Rattle.term.specs.Term.{public, Term, leaf}
use Rattle.steps.specs.Facts.{same_term}
use Rattle.steps.specs.Facts.Laws.{term_refl, term_sym, term_trans}
use Rattle.property.specs.Meaning.{Messages}

abbrev pub terms : Messages
terms = record {
  Msg = Term;
  Same = λ t u. same_term t u ≡ true;
  name = leaf public;
  same = same_term;
  decides = λ t u. reflects_exactly (same_term t u) ((λ h. h), (λ h. h));
  itself = term_refl;
  turned = λ {a} {b} h. term_sym a b h;
  joined = λ {a} {b} {c} h k. term_trans a b c h k;
}
