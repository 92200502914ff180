-- The count of new variables: more than 16 in scope is a fault, else sorts and guard follow; or it does not read.
use Rattle.property.specs.Walk.Heads.{sorts_by, scoped_by, scoped_stops, scoped_many, scoped_fault}
use Rattle.property.specs.Walk.{as_sorts, head_from, HeadIs, GuardIs}
use Rattle.property.specs.Layout.{sort_at}
use Rattle.number.specs.Reading.{as_read, many}
use Rattle.std.proofs.lemmas.Slice.{take-put_mid}
use borrow.Rule.Slice.PartMut.{put_mid}
use Rattle.std.proofs.Common.{List, map, take, length, ◌≡◌, ◌≤◌, ◌+◌, ◌-◌, arith, Option, ℕ, refl, subst}
use mathlib.Core.Path.{ap, sym, ◌∙◌}
use Rattle.property.proofs.heads.see_head.Goals as goal

pub returns-in_err-k : goal.returns-in_err-k
returns-in_err-k g c =
    λ ars t. rw c.from_residual.ensures
    (scoped_fault c.args.file.bytes.now ars c.args.at c.args.n (ap as_read (sym c.in_err-k.was) ∙ c.below.ensures))

pub returns-then-m-gt-MOST_SCOPE : goal.returns-then-m-gt-MOST_SCOPE
returns-then-m-gt-MOST_SCOPE g c =
    λ ars t. scoped_many c.args.file.bytes.now ars c.args.at c.args.n (ap as_read (sym c.in_ok-k.was) ∙ c.below.ensures)
    c.if-m-gt-MOST_SCOPE.true

pub returns-in_err-e : goal.returns-in_err-e
returns-in_err-e g c =
    λ ars t. rw c.from_residual-in_err-e.ensures
    (scoped_stops c.args.file.bytes.now ars c.args.at c.args.n (ap as_read (sym c.in_ok-k.was) ∙ c.below.ensures)
    (let m : length c.read_sorts.new.sorts ≡ c.in_ok-k.k = omega arith in
    ap (λ (o : Option ℕ). as_sorts o (map g.S.AsSort.meaning c.read_sorts.new.sorts)) (sym c.in_err-e.was) ∙ c.read_sorts.ensures
    ∙ ap (λ (n : ℕ). many (sort_at c.args.file.bytes.now) n c.in_ok-k.i) m))

pub returns : goal.returns
returns g c =
    let new = put_mid c.args.n (c.args.n + c.in_ok-k.k - c.args.n) c.args.sorts.now c.read_sorts.new.sorts in
    let short : c.args.n ≤ length c.args.sorts.now = omega (arith, c.requires) in
    let m : length c.read_sorts.new.sorts ≡ c.in_ok-k.k = omega arith in
    let before = map g.S.AsSort.meaning c.args.sorts.now in
    let after = map g.S.AsSort.meaning new in
    let wide = take-put_mid c.args.n (c.args.n + c.in_ok-k.k - c.args.n) c.args.sorts.now c.read_sorts.new.sorts
    (c.args.n + length c.read_sorts.new.sorts) refl short in
    λ ars t. scoped_by c.args.file.bytes.now ars c.args.at c.args.n c.see_new.result before after
    (ap as_read (sym c.in_ok-k.was) ∙ c.below.ensures) c.if-m-gt-MOST_SCOPE.false
    (subst (λ (k : ℕ). HeadIs (head_from c.args.file.bytes.now ars k c.in_ok-k.i) c.args.n before after c.see_new.result) m
    (sorts_by c.args.file.bytes.now ars g.S.AsSort.meaning c.in_ok-k.i c.args.n c.args.sorts.now new c.read_sorts.new.sorts short wide c.see_new.result
    (ap (λ (o : Option ℕ). as_sorts o (map g.S.AsSort.meaning c.read_sorts.new.sorts)) (sym c.in_ok-e.was) ∙ c.read_sorts.ensures)
    (subst (λ (l : List _). GuardIs c.args.file.bytes.now ars c.in_ok-e.e (map g.S.AsSort.meaning l) c.args.n c.see_new.result)
    (ap (λ (k : ℕ). take (c.args.n + k) new) (sym m) ∙ wide) (c.see_new.ensures ars t))))
