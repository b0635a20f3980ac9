-- How the square root of a double is worked out, in whole numbers, from its bit pattern. What a square root is, is said in `Nearest.antt`, and
-- `proofs/Right.antt` proves that this gives it.
use Rattle.std.specs.Prelude.{ℕ, zero, suc, ◌+◌, ◌-◌, ◌*◌, ◌/◌, ◌%◌, ◌^◌, true, false, cond, leb, ltb, Float}
use Rattle.std.specs.Int.Count.{count_leading_zeros}
use Rattle.std.specs.Float.{nan, inf, fin, binary64}
use Rattle.std.specs.Float.Ieee.{of_bits, to_bits}
use Rattle.float.specs.Words.{bits}

-- 2 ^ 52: the weight of the exponent's field in a bit pattern, and of the leading digit in a significand of 53 digits
abbrev pub lead : ℕ
lead = 4503599627370496

-- One binary digit more: from r, the root of n / 4, to the root of n.
abbrev pub grow : ℕ → ℕ → ℕ
grow n r = cond (leb ((2 * r + 1) * (2 * r + 1)) n) (2 * r + 1) (2 * r)

-- The root, cut to a whole number, of an n below 4 ^ d, digit by digit.
unfoldable pub isqrt : ℕ → ℕ → ℕ
isqrt zero n = 0
isqrt (suc d) n = grow n (isqrt d (n / 4))

-- A number above zero with the pattern b is significand b * 2 ^ (exponent b - 2094), where the significand has all its 53 digits.
-- Below `lead` the pattern is the significand of a subnormal number, which is moved up until it has 53 digits.
unfoldable pub significand : ℕ → ℕ
unfolding count_leading_zeros
significand b = cond (ltb b lead) (b * 2 ^ (count_leading_zeros 64 b - 11)) (b % lead + lead)

unfoldable pub exponent : ℕ → ℕ
unfolding count_leading_zeros
exponent b = cond (ltb b lead) (1031 - count_leading_zeros 64 b) (b / lead + 1019)

-- The significand, doubled where the exponent is odd: what is left of the exponent is even, and its half is the root's.
unfoldable pub radicand : ℕ → ℕ
unfolding significand exponent
radicand b = significand b * 2 ^ (exponent b % 2)

-- The pattern of the root: half the exponent, and the radicand's root to 54 digits, of which the last is rounded away.
unfoldable pub root_bits : ℕ → ℕ
unfolding radicand exponent isqrt
root_bits b = (exponent b / 2 + 1) * lead + (isqrt 54 (radicand b * 2 ^ 54) + 1) / 2

-- `x.sqrt()`
unfoldable pub sqrt_of : Float → Float
unfolding root_bits of_bits to_bits
sqrt_of nan = nan
sqrt_of (inf s) = cond s nan (inf false)
sqrt_of (fin s zero e) = fin s zero e
sqrt_of (fin true (suc m) e) = nan
sqrt_of (fin false (suc m) e) = bits (root_bits (to_bits binary64 (fin false (suc m) e)))
