-- What term_end tells where a term stands; where none does, nothing is promised.
use mathlib.Core.Path.{sym, ◌∙◌}
use Rattle.canonical.proofs.Parts.{end_is, end_none}
use Rattle.canonical.proofs.end_of.Goals as goal

pub returns-in-Some : goal.returns-in-Some
returns-in-Some c =
    end_is c.args.arities.now c.args.src.now (λ i. (c.type_inv.src i).fits) c.args.at _ _
    (sym c.term_end.ensures ∙ c.in-Some.is)

pub returns-in-None : goal.returns-in-None
returns-in-None c =
    end_none c.args.arities.now c.args.src.now (λ i. (c.type_inv.src i).fits) c.args.at
    (sym c.term_end.ensures ∙ c.in-None.is) _
