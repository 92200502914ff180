-- A message has no variable, so no value is looked for, and filled in it is itself.
use Rattle.canonical.proofs.Messages.{message_ready, message_canon}
use Rattle.canonical.proofs.canonical_term.Goals as goal

pub canonical_into-n-requires : goal.canonical_into-n-requires
canonical_into-n-requires c =
    message_ready _ _ _ _ c.requires.2 _ c.requires.0 c.requires.1

pub returns : goal.returns
returns c =
    message_canon _ _ _ _ _ _ _ _ c.requires.0 c.requires.1 c.canonical_into-n.ensures
