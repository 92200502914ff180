-- Two kinds of times: the natural numbers, and the integers, which are document 01's "whole numbers".
use Rattle.std.specs.Prelude.{◌≡◌, Bool, false, ℕ, ◌<◌, eqb, ℤ, pos, negsuc, ◌<ℤ◌}
use Rattle.std.proofs.Common.{ap, arith, ltb→lt, lt→ltb}
use Rattle.std.specs.Int.Signed.{lt_z_yes}
use Rattle.lists.specs.Reflects.{Reflects, wrong, reflects_iff, reflects_eq}
use Rattle.property.specs.Meaning.{Times}

abbrev pub naturals : Times
naturals =
    record {
      Time = ℕ;
      node = λ n. n;
      Before = ◌<◌;
      alike = eqb;
      decides = reflects_eq;
      apart = λ p. p;
      earlier = λ p. p;
      earlier_back = λ p. p;
    }

abbrev eq_z : ℤ → ℤ → Bool
eq_z (pos a) (pos b) = eqb a b
eq_z (pos a) (negsuc b) = false
eq_z (negsuc a) (pos b) = false
eq_z (negsuc a) (negsuc b) = eqb a b

pub eq_z_decides : (a b : ℤ) → Reflects (a ≡ b) (eq_z a b)
eq_z_decides (pos a) (pos b) = reflects_iff (ap pos) (λ p. cc) (reflects_eq a b)
eq_z_decides (pos a) (negsuc b) = wrong (λ p. let z : ◌≡◌ {A = ℕ} 0 1 = cc in omega arith)
eq_z_decides (negsuc a) (pos b) = wrong (λ p. let z : ◌≡◌ {A = ℕ} 0 1 = cc in omega arith)
eq_z_decides (negsuc a) (negsuc b) = reflects_iff (ap negsuc) (λ p. cc) (reflects_eq a b)

pub node_apart : (m n : ℕ) → pos m ≡ pos n → m ≡ n
node_apart m n p = cc

abbrev pub integers : Times
integers =
    record {
      Time = ℤ;
      node = pos;
      Before = ◌<ℤ◌;
      alike = eq_z;
      decides = eq_z_decides;
      apart = λ {m} {n} p. node_apart m n p;
      earlier = λ {m} {n} p. lt_z_yes (lt→ltb m n p);
      earlier_back = λ {m} {n} p. ltb→lt m n p.lt;
    }
