-- By the tag: a function that has a row is made by it, and every other function stays.
use native.Mathlib.Omega.{arith}
use mathlib.Core.Path.{◌≡◌}
use Rattle.canonical.proofs.Rules.{row_asks, row_done, dec_row, fst_row, snd_row, adec_row, verify_row}
use Rattle.canonical.proofs.Closing.{as_tag, by_tag, free_done}
use Rattle.canonical.proofs.reduce.Goals as goal

pub by_rule-requires : goal.by_rule-requires
by_rule-requires c =
    let k : c.args.tag ≡ 5 = omega arith in row_asks _ _ _ _ 5 _ _ (dec_row _) (as_tag _ _ _ _ _ 5 k c.requires.2)

pub by_rule-requires-in-8 : goal.by_rule-requires-in-8
by_rule-requires-in-8 c =
    let k : c.args.tag ≡ 8 = omega arith in row_asks _ _ _ _ 8 _ _ (fst_row _) (as_tag _ _ _ _ _ 8 k c.requires.2)

pub by_rule-requires-in-9 : goal.by_rule-requires-in-9
by_rule-requires-in-9 c =
    let k : c.args.tag ≡ 9 = omega arith in row_asks _ _ _ _ 9 _ _ (snd_row _) (as_tag _ _ _ _ _ 9 k c.requires.2)

pub by_rule-requires-in-30 : goal.by_rule-requires-in-30
by_rule-requires-in-30 c =
    let k : c.args.tag ≡ 30 = omega arith in row_asks _ _ _ _ 30 _ _ (adec_row _) (as_tag _ _ _ _ _ 30 k c.requires.2)

pub by_rule-requires-in-33 : goal.by_rule-requires-in-33
by_rule-requires-in-33 c =
    let k : c.args.tag ≡ 33 = omega arith in row_asks _ _ _ _ 33 _ _ (verify_row _) (as_tag _ _ _ _ _ 33 k c.requires.2)

pub returns-in-5 : goal.returns-in-5
returns-in-5 c =
    let k : c.args.tag ≡ 5 = omega arith in by_tag _ _ _ _ _ 5 k _ _
    (row_done _ _ _ _ 5 _ _ (dec_row _) _ _ c.by_rule.ensures)

pub returns-in-8 : goal.returns-in-8
returns-in-8 c =
    let k : c.args.tag ≡ 8 = omega arith in by_tag _ _ _ _ _ 8 k _ _
    (row_done _ _ _ _ 8 _ _ (fst_row _) _ _ c.by_rule-in-8.ensures)

pub returns-in-9 : goal.returns-in-9
returns-in-9 c =
    let k : c.args.tag ≡ 9 = omega arith in by_tag _ _ _ _ _ 9 k _ _
    (row_done _ _ _ _ 9 _ _ (snd_row _) _ _ c.by_rule-in-9.ensures)

pub returns-in-30 : goal.returns-in-30
returns-in-30 c =
    let k : c.args.tag ≡ 30 = omega arith in by_tag _ _ _ _ _ 30 k _ _
    (row_done _ _ _ _ 30 _ _ (adec_row _) _ _ c.by_rule-in-30.ensures)

pub returns-in-33 : goal.returns-in-33
returns-in-33 c =
    let k : c.args.tag ≡ 33 = omega arith in by_tag _ _ _ _ _ 33 k _ _
    (row_done _ _ _ _ 33 _ _ (verify_row _) _ _ c.by_rule-in-33.ensures)

pub returns-in_default : goal.returns-in_default
returns-in_default c =
    free_done _ _ _ _ _ c.requires (record {
      no_dec = λ z. omega (arith, z);
      no_fst = λ z. omega (arith, z);
      no_snd = λ z. omega (arith, z);
      no_adec = λ z. omega (arith, z);
      no_verify = λ z. omega (arith, z);
    })
