-- The classes of all places tell which arguments have the same canonical form, and which are public names.
use Rattle.std.specs.Prelude.{ℕ, ◌+◌, ◌*◌, ◌%◌, ◌≤◌, ◌<◌, List, Bool, ◌↔◌, ◌≡◌, refl, length, get_or}
use Rattle.std.proofs.Math.Path.{ap}
use Rattle.std.proofs.Common.{sym, ◌∙◌, arith, lt-ltb}
use Rattle.lists.specs.Choice.{pick, by_size}
use Rattle.term.specs.Term.{variable, public, fresh, Term, leaf, app, encode}
use Rattle.message.specs.Canon.{canon}
use Rattle.protocol.specs.Protocol.{Protocol}
use Rattle.steps.specs.Nodes.{Node}
use Rattle.facts.specs.Marks.{from_below}
use Rattle.trace.specs.Tables.{base, stride}
use Rattle.trace.specs.Chains.{Classed}
use Rattle.trace.specs.Numbers.{form_number, argument_number, NumberedTo}
use Rattle.trace.specs.Classes.{action_at, term_at, key_at, IsPlace, Ready}
use Rattle.trace.specs.Entries.{ListedAll}
use Rattle.trace.specs.Classes.{ClassesAre}
use Rattle.trace.specs.Classes.Places.{ready_few}

-- ── a number from base on is a public name's ──
form_public : (t : Term) → base ≤ form_number t → (n : ℕ) × (t ≡ leaf public n)
form_public (leaf variable n) l = absurd (omega (arith, l, from_below 0 (omega arith) (encode (leaf variable n))))
form_public (leaf public n) l = (n, refl)
form_public (leaf fresh n) l = absurd (omega (arith, l, from_below 0 (omega arith) (encode (leaf fresh n))))
form_public (app f ts) l = absurd (omega (arith, l, from_below 0 (omega arith) (encode (app f ts))))

form_same : (t u : Term) → base ≤ form_number t → form_number t ≡ form_number u → t ≡ u
form_same t u l e =
    let (m, a) = form_public t l in
    let (n, b) = form_public u (omega (arith, l, e)) in
    let z : m ≡ n = omega (arith, sym (ap form_number a) ∙ e ∙ ap form_number b) in
    a ∙ ap (leaf public) z ∙ sym b

-- ── the classes, by canonical forms ──
module _ {raw classes chains : List ℕ} {m : ℕ} {P : Protocol} {xs : List Node} (few : m ≤ base) (t : NumberedTo raw m P xs)
    (c : Classed (key_at P xs) raw classes chains m) where
  first_number : (q : ℕ) → q < m → IsPlace P xs q → get_or raw q 0 ≡ form_number (key_at P xs q)
  unfolding argument_number key_at
  first_number q l i =
      t.each q l
      ∙ ap (λ (b : Bool). pick b (form_number (canon (term_at P xs q))) base) (lt-ltb (q % stride) (length (action_at P xs q).terms) i.argument)

  class_exact :
      (q r : ℕ) → q < m → r < m → IsPlace P xs q → IsPlace P xs r
      → (get_or classes q 0 ≡ get_or classes r 0) ↔ (key_at P xs q ≡ key_at P xs r)
  class_exact q r l n i j =
      let a = first_number q l i in
      let b = first_number r n j in
      by_size (get_or raw q 0) base
      (λ u. by_size (get_or raw r 0) base
      (λ v. c.same q r l n u v)
      (λ v. (
        λ e. absurd (omega (arith, e, c.low q l u, c.named r v, few)),
        λ e. absurd (omega (arith, u, v, a, b, ap form_number e)),
      )))
      (λ u. by_size (get_or raw r 0) base
      (λ v. (
        λ e. absurd (omega (arith, e, c.low r n v, c.named q u, few)),
        λ e. absurd (omega (arith, u, v, a, b, ap form_number e)),
      ))
      (λ v. (
        λ e. form_same (key_at P xs q) (key_at P xs r) (omega (arith, u, a)) (sym a ∙ sym (c.named q u) ∙ e ∙ c.named r v ∙ b),
        λ e. c.named q u ∙ a ∙ ap form_number e ∙ sym b ∙ sym (c.named r v),
      )))

  class_name : (q n : ℕ) → q < m → IsPlace P xs q → (get_or classes q 0 ≡ base + n) ↔ (key_at P xs q ≡ leaf public n)
  class_name q n l i =
      let a = first_number q l i in
      by_size (get_or raw q 0) base
      (λ u. (λ e. absurd (omega (arith, e, c.low q l u, few)), λ e. absurd (omega (arith, u, a, ap form_number e))))
      (λ u. (
        λ e. form_same (key_at P xs q) (leaf public n) (omega (arith, u, a)) (sym a ∙ sym (c.named q u) ∙ e),
        λ e. c.named q u ∙ a ∙ ap form_number e,
      ))

  classes_are : ClassesAre classes m P xs
  classes_are = record { same = class_exact; named = class_name }

-- ── what the parts of the code ask of each other ──
pub ready :
    {p s nodes entries raw : List ℕ} {total : ℕ} {P : Protocol} {xs : List Node} → ListedAll p s nodes entries total P xs
    → NumberedTo raw (stride * total) P xs → Ready p s nodes entries raw total P xs
ready a t = record { all = a; numbered = t }

pub classes_none : {classes : List ℕ} {total : ℕ} {P : Protocol} {xs : List Node} → total ≡ 0 → ClassesAre classes (stride * total) P xs
classes_none z = record { same = λ q r l. absurd (omega (arith, z, l)); named = λ q n l. absurd (omega (arith, z, l)) }

pub classes_made :
    {p s nodes entries raw classes chains : List ℕ} {total : ℕ} {P : Protocol} {xs : List Node} → Ready p s nodes entries raw total P xs
    → Classed (key_at P xs) raw classes chains (stride * total) → ClassesAre classes (stride * total) P xs
classes_made r c = classes_are (omega (arith, ready_few r)) r.numbered c
