-- The three counted lists one behind the other: each fault is the file's; where all read, the end of the file decides.
use Rattle.protocol.specs.Figures.{most_own, most_rules, arity_limit}
use Rattle.protocol.specs.Index.Laws.{no_functions, no_symbols, no_rules, leftover, entries}
use Rattle.protocol.specs.Index.Fill.{told_value, told_fault}
use Rattle.protocol.specs.Index.{Slotted, Tabled, Placed}
use Rattle.protocol.specs.Protocol.{empty_rule, own, rule}
use Rattle.number.specs.Reading.{below, counted}
use Prim.Native.Nat.{◌+◌, ◌≤◌}
use lib.ListN.{take, length-take}
use native.Mathlib.Omega.{arith}
use Rattle.protocol.proofs.index.read_protocol.Goals as goal

pub returns-in_err-e : goal.returns-in_err-e
returns-in_err-e c =
    rw c.from_residual.ensures (no_functions _ (told_fault (counted c.args.file.now 16 (below c.args.file.now arity_limit) 0) (Slotted c.functions.new.arities)
    c.in_err-e.was c.functions.ensures.told))

pub returns-in_err-no : goal.returns-in_err-no
returns-in_err-no c =
    rw c.from_residual-in_err-no.ensures (no_symbols _ _ _ _ (told_value (counted c.args.file.now 16 (below c.args.file.now arity_limit) 0) (Slotted c.functions.new.arities)
    c.in_ok-e.was c.functions.ensures.told) (told_fault (counted c.args.file.now most_own (own c.args.file.now)
    c.in_ok-e.e)
    (Tabled c.symbols.new.ars c.symbols.new.flags) c.in_err-no.was c.symbols.ensures.told))

pub slice_bounds-text-end : goal.slice_bounds-text-end
slice_bounds-text-end c =
    let b : c.in_ok-no.no ≤ 32 = (told_value (counted c.args.file.now most_own (own c.args.file.now)
    c.in_ok-e.e)
    (Tabled c.symbols.new.ars c.symbols.new.flags) c.in_ok-no.was c.symbols.ensures.told).says.few in
    omega (arith, c.symbols.auto)

pub slice_bounds-text-end-2 : goal.slice_bounds-text-end-2
slice_bounds-text-end-2 c =
    let b : c.in_ok-no.no ≤ 32 = (told_value (counted c.args.file.now most_own (own c.args.file.now) c.in_ok-e.e)
    (Tabled c.symbols.new.ars c.symbols.new.flags) c.in_ok-no.was c.symbols.ensures.told).says.few in
    simp length-take (omega (arith, c.symbols.auto))

pub returns-in_err-nr : goal.returns-in_err-nr
returns-in_err-nr c =
    rw c.from_residual-in_err-nr.ensures (no_rules _ _ _ _ (told_value (counted c.args.file.now 16 (below c.args.file.now arity_limit) 0) (Slotted c.functions.new.arities)
    c.in_ok-e.was c.functions.ensures.told) _ _ _ _ (told_value (counted c.args.file.now most_own (own c.args.file.now)
    c.in_ok-e.e) (Tabled c.symbols.new.ars c.symbols.new.flags) c.in_ok-no.was c.symbols.ensures.told)
    (told_fault (counted c.args.file.now most_rules (rule c.args.file.now c.functions.new.arities
    (take (c.in_ok-no.no + 4) c.symbols.new.ars)) c.in_ok-no.f)
    (Placed (rule c.args.file.now c.functions.new.arities (take (c.in_ok-no.no + 4) c.symbols.new.ars)) empty_rule
    c.rules.new.places) c.in_err-nr.was c.rules.ensures.told))

pub returns-then-g-file : goal.returns-then-g-file
returns-then-g-file c =
    entries _ _ _ _ (told_value (counted c.args.file.now 16 (below c.args.file.now arity_limit) 0) (Slotted c.functions.new.arities)
    c.in_ok-e.was
    c.functions.ensures.told) _ _ _ _ (told_value (counted c.args.file.now most_own (own c.args.file.now) c.in_ok-e.e)
    (Tabled c.symbols.new.ars c.symbols.new.flags) c.in_ok-no.was c.symbols.ensures.told) _ _ _
    (told_value (counted c.args.file.now most_rules (rule c.args.file.now c.functions.new.arities
    (take (c.in_ok-no.no + 4) c.symbols.new.ars)) c.in_ok-no.f)
    (Placed (rule c.args.file.now c.functions.new.arities (take (c.in_ok-no.no + 4) c.symbols.new.ars)) empty_rule
    c.rules.new.places) c.in_ok-nr.was c.rules.ensures.told) (λ i. (c.type_inv.file i).fits)
    c.if-g-file.true

pub returns : goal.returns
returns c =
    leftover _ _ _ _ (told_value (counted c.args.file.now 16 (below c.args.file.now arity_limit) 0) (Slotted c.functions.new.arities)
    c.in_ok-e.was c.functions.ensures.told) _ _ _ _ (told_value (counted c.args.file.now most_own (own c.args.file.now)
    c.in_ok-e.e) (Tabled c.symbols.new.ars c.symbols.new.flags) c.in_ok-no.was c.symbols.ensures.told) _ _ _
    (told_value (counted c.args.file.now most_rules (rule c.args.file.now c.functions.new.arities
    (take (c.in_ok-no.no + 4) c.symbols.new.ars)) c.in_ok-no.f)
    (Placed (rule c.args.file.now c.functions.new.arities (take (c.in_ok-no.no + 4) c.symbols.new.ars)) empty_rule
    c.rules.new.places) c.in_ok-nr.was c.rules.ensures.told) c.if-g-file.false
