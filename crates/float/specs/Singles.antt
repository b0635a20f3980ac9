-- What the source asks of single floats, each with the Rust's method that it stands for.
-- `to_bits` and `from_bits` are not here: they are `to_bits` and `of_bits` of `lib.Ieee`, which writes 7FF8000000000000 for a NaN.
use Rattle.std.specs.Prelude.{ℕ, zero, suc, ◌/◌, ◌%◌, ◌≡◌, refl, Bool, true, false, cond, eqb, Float}
use Rattle.std.specs.Float.{nan, inf, fin}
use Rattle.std.specs.Float.Ieee.{mul, lt, is_nan, of_bits, of_int}
use Rattle.float.specs.Words.{◌⊗◌, count, one}

-- `x.abs()`: the sign is cleared, and a NaN stays.
unfoldable pub abs_of : Float → Float
abs_of nan = nan
abs_of (inf s) = inf false
abs_of (fin s m e) = fin false m e

-- `x.is_finite()`: neither infinite nor a NaN.
unfoldable pub is_finite : Float → Bool
is_finite nan = false
is_finite (inf s) = false
is_finite (fin s m e) = true

-- `a.min(b)`: one NaN gives the other operand. Of two equal operands, as the two zeros are, the first is taken.
unfoldable pub least_of : Float → Float → Float
least_of a b = cond (is_nan a) b (cond (lt b a) b a)

-- `a.max(b)`: the same with the order turned.
unfoldable pub greatest_of : Float → Float → Float
greatest_of a b = cond (is_nan a) b (cond (lt a b) b a)

-- x, or the lower bound where x is below it.
abbrev pub at_least : Float → Float → Float
at_least low x = cond (lt x low) low x

-- x, or the upper bound where x is above it.
abbrev pub at_most : Float → Float → Float
at_most high x = cond (lt high x) high x

-- `x.clamp(low, high)`: a NaN stays, and so does a -0.0 at a bound of 0.0. Rust refuses bounds that cross or that are NaN; here any are taken.
unfoldable pub clamp_of : Float → Float → Float → Float
clamp_of x low high = at_most high (at_least low x)

-- Multiply the result by the base if p is odd.
abbrev pub next_result : ℕ → Float → Float → Float
next_result p result base = cond (eqb (p % 2) 1) (result ⊗ base) result

-- Square the base if p, halved already, is still not 0.
abbrev pub next_base : ℕ → Float → Float
next_base p base = cond (eqb p 0) base (base ⊗ base)

-- The rule for powers, while p is not 0. The first argument is a number of turns, and never too few.
unfoldable pub power_from : ℕ → Float → Float → ℕ → Float
power_from zero result base p = result
power_from (suc turns) result base p = cond (eqb p 0) result (power_from turns (next_result p result base) (next_base (p / 2) base) (p / 2))

-- `x.powi(p)`: the rule from the result 1. A p of 32 bits is 0 after at most 32 halvings.
unfoldable pub power_of : Float → ℕ → Float
unfolding power_from
power_of x p = power_from 32 one x p

-- Some powers, by computing.
pub worked_powers
    : (power_of (count 3) 5 ≡ count 243)
    × (power_of (count 2) 11 ≡ count 2048)
    × (power_of nan 0 ≡ one)
    × (power_of (count 2) 4294967295 ≡ inf false)
unfolding power_of mul of_bits of_int
worked_powers = (refl, refl, refl, refl)
