-- The symbol that symbol_at tells is the term's first.
use Rattle.canonical.specs.First.{first_of}
use Rattle.canonical.proofs.first.Goals as goal

pub returns : goal.returns
returns c =
    λ e t h. rw (c.unwrap_or.ensures, c.symbol_at.ensures)
    (first_of c.args.src.now c.args.arities.now c.args.at t e _ h.formed h.range h.stands)
