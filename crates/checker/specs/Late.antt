-- The work area is all zeros after every answer that is no refusal 1.
use Rattle.std.specs.Prelude.{ℕ, List, [], ◌∷◌, Bool, ◌≡◌, refl, length, replicate}
use Rattle.std.specs.Prelude.{Option, Some, None}
use Rattle.std.proofs.Common.{ap, arith, ne_eqb}
use Rattle.lists.specs.Choice.{pick}
use Rattle.number.specs.Reading.{Read, got, fault}
use Rattle.rewriting.specs.Table.{Ruling, passed, refused, Pass, and_then, or_refuse, ruling_then}
use Rattle.rewriting.specs.Table.Passes.{least_pass}
use Rattle.protocol.specs.Protocol as files
use Rattle.rules.specs.Fit.{fits}
use Rattle.checker.specs.Answer.{work_after}
use Rattle.checker.specs.Files.{protocol_item, layout, fit_ruling, protocol_ruling}

-- refused, but not with 1
abbrev pub Late : {A : Type 0} → Ruling A → Type 0
Late (passed a) = Unit {0}
Late (refused n k) = n ≡ 1 → ⊥

pub late_then : {A B : Type 0} (r : Ruling A) (f : A → Ruling B) → Late r → ((a : A) → Late (f a)) → Late (and_then r f)
late_then (passed a) f l h = h a
late_then (refused n k) f l h = l

pub late_refuse : {A : Type 0} (n : ℕ) (o : Option ℕ) (r : Ruling A) → (n ≡ 1 → ⊥) → Late r → Late (or_refuse n o r)
late_refuse n None r h l = l
late_refuse n (Some k) r h l = h

pub late_pass : {A : Type 0} (p : Pass) (ps : List Pass) (r : Ruling A) → (p.cause.number ≡ 1 → ⊥) → Late (ruling_then ps r) → Late (ruling_then (p ∷ ps) r)
late_pass p ps r h l = late_refuse p.cause.number p.found (ruling_then ps r) h l

pub late_layout : {A : Type 0} (item : ℕ) (r : Read A) → Late (layout item r)
late_layout item (got x e) = tt
late_layout item fault = λ e. omega arith

pub late_work : {A : Type 0} (r : Ruling A) (work : List ℕ) → Late r → work_after r work ≡ replicate (length work) 0
late_work (passed a) work l = refl
late_work (refused n k) work l =
    ap (λ (b : Bool). pick b work (replicate (length work) 0)) (ne_eqb n 1 l)

pub late_protocol : (protocol : List ℕ) → Late (protocol_ruling protocol)
late_protocol protocol =
    late_then (layout protocol_item (files.protocol protocol)) fit_ruling (late_layout protocol_item (files.protocol protocol))
    (λ p. late_pass (least_pass 4 (λ k r. fits r) p.rules) [] (passed p) (λ e. omega arith) tt)
