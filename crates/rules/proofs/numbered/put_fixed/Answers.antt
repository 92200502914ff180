-- The literal of each number is its rule's encoding, by computation.
use Rattle.rules.specs.Numbered.Writing.{put_as, put_copied}
use Rattle.rules.specs.Numbered.Bytes.{bytes_0, bytes_1, bytes_2, bytes_3, bytes_4}
use mathlib.Core.Path.{◌≡◌, sym}
use native.Mathlib.Omega.{arith}
use Rattle.rules.proofs.numbered.put_fixed.Goals as goal

pub returns-in-0 : goal.returns-in-0
returns-in-0 c =
    let k : c.args.n ≡ 0 = omega arith in
    put_as _ _ (sym (bytes_0 c.args.n k))
    (put_copied _ _ 0 _ _ (omega arith) c.copy_into.ensures.next c.copy_into.ensures.wrote)

pub returns-in-1 : goal.returns-in-1
returns-in-1 c =
    let k : c.args.n ≡ 1 = omega arith in
    put_as _ _ (sym (bytes_1 c.args.n k))
    (put_copied _ _ 0 _ _ (omega arith) c.copy_into-in-1.ensures.next c.copy_into-in-1.ensures.wrote)

pub returns-in-2 : goal.returns-in-2
returns-in-2 c =
    let k : c.args.n ≡ 2 = omega arith in
    put_as _ _ (sym (bytes_2 c.args.n k))
    (put_copied _ _ 0 _ _ (omega arith) c.copy_into-in-2.ensures.next c.copy_into-in-2.ensures.wrote)

pub returns-in-3 : goal.returns-in-3
returns-in-3 c =
    let k : c.args.n ≡ 3 = omega arith in
    put_as _ _ (sym (bytes_3 c.args.n k))
    (put_copied _ _ 0 _ _ (omega arith) c.copy_into-in-3.ensures.next c.copy_into-in-3.ensures.wrote)

pub returns-in_default : goal.returns-in_default
returns-in_default c =
    let k : c.args.n ≡ 4 = omega arith in
    put_as _ _ (sym (bytes_4 c.args.n k))
    (put_copied _ _ 0 _ _ (omega arith) c.copy_into-in_default.ensures.next c.copy_into-in_default.ensures.wrote)
