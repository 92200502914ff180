-- The form's bytes are the message's exactly if the form is the message, since bytes tell terms apart.
use mathlib.Core.Path.{ap₂, ◌∙◌}
use mathlib.Core.List.{List}
use Prim.Native.Nat.{ℕ}
use Rattle.octets.specs.Compare.{compare_bytes, is_equal}
use Rattle.canonical.proofs.Messages.{canon_within, canon_long, canon_part, decides_canonical}
use Rattle.canonical.proofs.is_canonical.Goals as goal

pub canonical_term-n-requires : goal.canonical_term-n-requires
canonical_term-n-requires c =
    let (t, m) = c.requires.2 in
    (c.requires.0, c.requires.1, (t, m.is))

pub slice_bounds-same_bytes-end : goal.slice_bounds-same_bytes-end
slice_bounds-same_bytes-end c =
    let (t, m) = c.requires.2 in
    canon_within _ _ _ _ _ c.canonical_term-n.ensures (t, m.is)

pub slice_bounds-same_bytes-end-2 : goal.slice_bounds-same_bytes-end-2
slice_bounds-same_bytes-end-2 c =
    let (t, m) = c.requires.2 in
    canon_long _ _ _ _ _ c.canonical_term-n.ensures (t, m.is)

pub returns : goal.returns
returns c =
    λ t m. decides_canonical _ _ _ t _ m.is (c.same_bytes.ensures ∙ ap₂ (λ (a b : List ℕ). is_equal (compare_bytes a b))
    (canon_part _ _ _ _ _ c.canonical_term-n.ensures t m.is) m.whole)
