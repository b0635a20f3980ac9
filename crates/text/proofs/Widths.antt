-- A number has one decimal digit more than the whole part of its logarithm.
use mathlib.Core.Path.{◌≡◌, sym, ap}
use Prim.Native.Nat.{ℕ, zero, suc, ◌+◌, ◌*◌, ◌/◌, ◌^◌, ◌<◌, ◌≤◌, max}
use native.Mathlib.Nat.{pow-suc, pow-zero}
use native.Mathlib.Omega.{arith}
use borrow.Author.Tests.{lt-ltb, le-ltb}
use Rattle.text.specs.Numbers.{width_in, width_of}

above_zero : (w : ℕ) → 1 ≤ 10 ^ w
above_zero zero = omega (arith, pow-zero 10)
above_zero (suc w) = omega (arith, pow-suc 10 w, above_zero w)

in_log : (k w n : ℕ) → w ≤ k → 10 ^ w ≤ n → n < 10 * 10 ^ w → width_in k n ≡ suc w
unfolding width_in
in_log zero w n f p q = let z : w ≡ 0 = omega arith in ap suc (sym z)
in_log (suc k) zero n f p q = rw (lt-ltb n 10 (omega (arith, pow-zero 10)))
in_log (suc k) (suc w) n f p q =
    rw (le-ltb n 10 (omega (arith, pow-suc 10 w, above_zero w)), in_log k w (n / 10) (omega arith) (omega (arith, pow-suc 10 w)) (omega (arith, pow-suc 10 w)))

-- 0 has one digit, as 1 has
pub width_log : (n w : ℕ) → w < 20 → 10 ^ w ≤ max n 1 → max n 1 < 10 * 10 ^ w → w + 1 ≡ width_of n
unfolding width_of width_in
width_log zero w f p q = omega (arith, in_log 19 w 1 (omega arith) p q)
width_log (suc n) w f p q = omega (arith, in_log 19 w (suc n) (omega arith) (omega arith) (omega arith))
