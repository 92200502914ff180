-- The tables are long enough for the file.
use Rattle.checker.proofs.checking.check_within.Goals as goal

pub check_with-requires : goal.check_with-requires
check_with-requires c =
    λ d. (d.requires.0, d.requires.1, d.requires.2.nodes, d.requires.2.edges, d.requires.3)
