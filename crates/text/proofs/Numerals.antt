-- A number has at most 20 decimal digits.
use mathlib.Core.Bool.{Bool, true, false, cond}
use Prim.Native.Nat.{ℕ, zero, suc, ◌+◌, ◌/◌, ◌≤◌}
use native.Mathlib.Omega.{arith}
use lib.Dec.{ltb}
use Rattle.text.specs.Numbers.{width_in, width_of}

either : (b : Bool) {m n k : ℕ} → m ≤ k → n ≤ k → cond b m n ≤ k
either true p q = p
either false p q = q

width_in_lem : (k n : ℕ) → width_in k n ≤ k + 1
unfolding width_in
width_in_lem zero n = omega arith
width_in_lem (suc k) n = either (ltb n 10) (omega arith) (omega (arith, width_in_lem k (n / 10)))

pub width_fits : (n : ℕ) → width_of n ≤ 20
unfolding width_of
width_fits n = width_in_lem 19 n
