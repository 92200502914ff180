-- What the library pastes is a splice.
use Prim.Native.Nat.{◌+◌, ◌-◌, ◌≤◌}
use native.Mathlib.Omega.{arith}
use mathlib.Core.Path.{◌≡◌, ap, ◌∙◌}
use lib.ListN.{length, drop, length-drop}
use lib.Seq.{paste}
use Rattle.octets.specs.Splice.Laws.{paste_splice}
use Rattle.octets.proofs.copy_within.Goals as goal

pub returns : goal.returns
returns c =
    let a = c.args in
    let source = drop a.from a.out.now in
    let size : a.from + a.len - a.from ≡ a.len = omega arith in
    let room : a.len ≤ length source = simp length-drop (omega arith) in
    c.copy_within.ensures.after
    ∙ ap (paste a.out.now a.to source) size
    ∙ paste_splice a.out.now a.to source a.len room
