-- The chains are empty and long enough, so the classes made over them are what is promised.
use Rattle.std.proofs.Common.{ℕ, ◌*◌, length, sym, subst}
use Rattle.std.proofs.lemmas.List.{length-replicate}
use Rattle.lists.specs.Lists.Laws.{zeros_at}
use Rattle.trace.specs.Tables.{stride}
use Rattle.trace.specs.Chains.{HeadsBehind}
use Rattle.trace.specs.Classes.Exact.{classes_made}
use Rattle.trace.proofs.classes.class_with.Goals as goal

pub class_places-requires : goal.class_places-requires
class_places-requires c =
    λ d. (
      d.requires.0,
      d.requires.1,
      d.requires.2,
      subst (λ (n : ℕ). HeadsBehind n (stride * length d.args.entries.now)) (sym (length-replicate {A = ℕ} c.row.SIZE 0)) d.requires.3,
      λ i. zeros_at _ i,
    )

pub returns : goal.returns
returns c =
    λ d P xs r. classes_made r (d.class_places.ensures P xs r)
