-- Document 01's words on `min`, `max` and `clamp`, and what `is_finite` tests.
use mathlib.Core.Path.{◌≡◌, refl}
use lib.Ieee.{Float, nan, inf, fin, is_nan, lt, neg, of_bits, binary64}
use Rattle.float.specs.Words.{plus_zero, minus_zero, one}
use Rattle.float.specs.Singles.{abs_of, is_finite, least_of, greatest_of, clamp_of}

-- One NaN gives the other operand.
pub least_of_nan : (x : Float) → (least_of nan x ≡ x) × (least_of x nan ≡ x)
unfolding least_of is_nan lt
least_of_nan nan = (refl, refl)
least_of_nan (inf s) = (refl, refl)
least_of_nan (fin s m e) = (refl, refl)

pub greatest_of_nan : (x : Float) → (greatest_of nan x ≡ x) × (greatest_of x nan ≡ x)
unfolding greatest_of is_nan lt
greatest_of_nan nan = (refl, refl)
greatest_of_nan (inf s) = (refl, refl)
greatest_of_nan (fin s m e) = (refl, refl)

-- Of the two zeros, which are equal, the first operand is taken.
pub first_zero
    : (least_of plus_zero minus_zero ≡ plus_zero)
    × (least_of minus_zero plus_zero ≡ minus_zero)
    × (greatest_of plus_zero minus_zero ≡ plus_zero)
    × (greatest_of minus_zero plus_zero ≡ minus_zero)
unfolding least_of greatest_of is_nan lt neg of_bits
first_zero = (refl, refl, refl, refl)

-- `clamp` keeps a NaN, and `clamp(0.0, 1.0)` a -0.0.
pub clamp_keeps_nan : (low high : Float) → clamp_of nan low high ≡ nan
unfolding clamp_of lt
clamp_keeps_nan low nan = refl
clamp_keeps_nan low (inf s) = refl
clamp_keeps_nan low (fin s m e) = refl

pub clamp_keeps_minus_zero : clamp_of minus_zero plus_zero one ≡ minus_zero
unfolding clamp_of lt neg of_bits
clamp_keeps_minus_zero = refl

-- Bounds that cross, which the source refuses: the upper one wins.
pub upper_bound_wins : clamp_of plus_zero one (neg one) ≡ neg one
unfolding clamp_of lt neg of_bits
upper_bound_wins = refl

-- the numbers are those whose absolute value is below infinity
pub below_infinity : (x : Float) → lt (abs_of x) (of_bits binary64 0x7FF0000000000000) ≡ is_finite x
unfolding is_finite abs_of lt of_bits
below_infinity nan = refl
below_infinity (inf s) = refl
below_infinity (fin s m e) = refl
