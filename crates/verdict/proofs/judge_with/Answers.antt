-- The tables are long enough for n, and the verdict by them is the one promised.
use Rattle.std.proofs.Common.{ℕ, arith}
use Rattle.std.proofs.lemmas.List.{length-replicate}
use Rattle.verdict.specs.Judged.Joined.{posed_tabled}
use Rattle.verdict.proofs.judge_with.Goals as goal

pub make_tables-requires : goal.make_tables-requires
make_tables-requires c =
    λ d.
    let (P, xs, φ, q) = d.requires.0 in
    let l = d.requires.2 in (
      (P, xs, q.right),
      d.requires.1,
      omega (arith, l.many, length-replicate {A = ℕ} c.row.STARTS 0),
      omega (arith, l.known, length-replicate {A = ℕ} c.row.SYMBOLS 0),
      omega (arith, l.wide, length-replicate {A = ℕ} c.row.CLASSES 0),
    )

pub verdict_of-requires : goal.verdict_of-requires
verdict_of-requires c =
    λ d.
    let (P, xs, φ, q) = d.requires.0 in
    let l = d.requires.2 in (
      P,
      xs,
      φ,
      posed_tabled q (d.make_tables.ensures P xs q.right) (omega (arith, l.many, d.make_tables.auto.starts, length-replicate {A = ℕ} c.row.STARTS 0))
          (omega (arith, l.known, d.make_tables.auto.symbols, length-replicate {A = ℕ} c.row.SYMBOLS 0))
          (omega (arith, l.wide, d.make_tables.auto.classes, length-replicate {A = ℕ} c.row.CLASSES 0)),
    )

pub returns : goal.returns
returns c =
    λ d P xs φ q.
    let l = d.requires.2 in
    d.verdict_of.ensures P xs φ (posed_tabled q (d.make_tables.ensures P xs q.right) (omega (arith, l.many, d.make_tables.auto.starts, length-replicate {A = ℕ} c.row.STARTS 0))
    (omega (arith, l.known, d.make_tables.auto.symbols, length-replicate {A = ℕ} c.row.SYMBOLS 0))
    (omega (arith, l.wide, d.make_tables.auto.classes, length-replicate {A = ℕ} c.row.CLASSES 0)))
