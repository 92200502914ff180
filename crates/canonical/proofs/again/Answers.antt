-- The part lent is the first term's bytes, and the other part is the second's.
use mathlib.Core.Path.{ap₂, ◌∙◌}
use mathlib.Core.List.{List}
use Prim.Native.Nat.{ℕ}
use Rattle.octets.specs.Head.{stands_part}
use Rattle.octets.specs.Compare.{compare_bytes, is_equal}
use Rattle.canonical.proofs.Parts.{bytes_are}
use Rattle.canonical.proofs.again.Goals as goal

pub returns : goal.returns
returns c =
    λ x h e y k. c.same_bytes.ensures ∙ ap₂ (λ (a b : List ℕ). is_equal (compare_bytes a b)) (stands_part h.stands)
    (c.term_part.ensures ∙ bytes_are c.args.arities.now c.args.src.now (λ i. (c.type_inv.src i).fits) c.args.at y e
    k)
