-- Five writes to sections that lie apart; one theorem over all of them says what stands there at the end.
use Rattle.prepared.specs.Filling.Whole.{laid_slots, laid_symbols, laid_flags, laid_file, body_laid}
use native.Mathlib.Omega.{arith}
use Rattle.prepared.proofs.filling.lay.Goals as goal

pub copy_into-requires : goal.copy_into-requires
copy_into-requires c =
    let n = laid_slots c.requires.1 in omega arith

pub put_padded-requires : goal.put_padded-requires
put_padded-requires c =
    (omega (arith, c.copy_into.auto), laid_symbols c.requires.1)

pub put_linears-requires : goal.put_linears-requires
put_linears-requires c =
    (omega (arith, c.copy_into.auto, c.put_padded.auto), laid_flags c.requires.1)

pub enter_rules-requires : goal.enter_rules-requires
enter_rules-requires c =
    (omega (arith, c.copy_into.auto, c.put_padded.auto, c.put_linears.auto), laid_slots c.requires.1, c.requires.1.source)

pub copy_into-requires-2 : goal.copy_into-requires-2
copy_into-requires-2 c =
    let n = laid_file c.requires.1 in omega (arith, c.copy_into.auto, c.put_padded.auto, c.put_linears.auto, c.enter_rules.auto)

pub returns : goal.returns
returns c =
    λ l. body_laid l c.args.p.now _ _ _ _ _ c.requires.0 c.copy_into.ensures.wrote c.put_padded.ensures c.put_linears.ensures
    (c.enter_rules.ensures l.source) (omega (arith, c.enter_rules.auto)) c.copy_into-2.ensures.wrote
    (λ k. (c.type_inv.p k).fits)
