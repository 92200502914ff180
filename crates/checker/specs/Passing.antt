-- The pass of a bound, from the comparison that the code makes: refused below it, else what follows.
use Rattle.std.specs.Prelude.{ℕ, ◌≤◌, ◌<◌, List, ◌∷◌, Bool, cond, ◌≡◌}
use Rattle.std.specs.Prelude.{Some, None}
use Rattle.std.proofs.Common.{ap, lt-ltb, le-ltb}
use Rattle.rewriting.specs.Table.{Ruling, refused, Pass, or_refuse, ruling_then}
use Rattle.rewriting.specs.Table.Passes.{less_pass}

module _ {A : Type 0} (n i m l : ℕ) (ps : List Pass) (r : Ruling A) where
  pub less_yes : m < l → ruling_then (less_pass n i m l ∷ ps) r ≡ refused n i
  less_yes h = ap (λ (b : Bool). or_refuse n (cond b (Some i) None) (ruling_then ps r)) (lt-ltb m l h)

  pub less_no : l ≤ m → ruling_then (less_pass n i m l ∷ ps) r ≡ ruling_then ps r
  less_no h = ap (λ (b : Bool). or_refuse n (cond b (Some i) None) (ruling_then ps r)) (le-ltb m l h)
