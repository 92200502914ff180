-- The entries list all actions, so the classes made of them are those of the trace; then symbols take their places.
use Rattle.trace.specs.Tables.Made.{tables_made}
use Rattle.trace.specs.Entries.Laws.{all_listed, taken, total_of}
use Rattle.trace.specs.Entries.Symbols.{symbols_before}
use Rattle.trace.specs.Entries.{SymbolsTo}
use Rattle.trace.specs.Classes.{ClassesAre}
use Rattle.trace.specs.Tables.{stride}
use Rattle.std.proofs.Common.{ℕ, ◌*◌, ◌++◌, drop, subst, sym}
use native.Mathlib.Omega.{arith}
use borrow.Author.Rules.{rules}
use Rattle.trace.proofs.tables.make_tables.Goals as goal

pub slice_bounds-listed-end : goal.slice_bounds-listed-end
slice_bounds-listed-end c =
    let (P, xs, r) = c.requires.0 in
    omega (arith, total_of r (c.enter_nodes-total.ensures c.args.s.now P xs r), c.requires.3)

pub slice_bounds-listed-end-2 : goal.slice_bounds-listed-end-2
slice_bounds-listed-end-2 c =
    let (P, xs, r) = c.requires.0 in
    sym (taken r (c.enter_nodes-total.ensures c.args.s.now P xs r) (search rules))

pub class_arguments-requires : goal.class_arguments-requires
class_arguments-requires c =
    let (P, xs, r) = c.requires.0 in
    let e = c.enter_nodes-total.ensures c.args.s.now P xs r in
    ((P, xs, all_listed r e (search rules)), c.requires.1, omega (arith, taken r e (search rules), total_of r e, c.requires.4))

pub put_symbols-requires : goal.put_symbols-requires
put_symbols-requires c =
    let (P, xs, r) = c.requires.0 in
    let e = c.enter_nodes-total.ensures c.args.s.now P xs r in
    (c.args.s.now, P, xs, all_listed r e (search rules))

pub returns : goal.returns
returns c =
    λ P xs r.
    let e = c.enter_nodes-total.ensures c.args.s.now P xs r in
    let l = all_listed r e (search rules) in
    let z = taken r e (search rules) in
    tables_made e
    (subst (λ (m : ℕ). SymbolsTo (c.put_symbols.new.symbols ++ drop c.enter_nodes-total.result c.enter_nodes-total.new.entries) m P xs) z
    (symbols_before _ (c.put_symbols.ensures c.args.s.now P xs l) (search rules)))
    (subst (λ (m : ℕ). ClassesAre c.class_arguments.new.classes (stride * m) P xs) z (c.class_arguments.ensures P xs l))
