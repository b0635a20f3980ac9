-- Floats are the doubles of IEEE 754, with one NaN. Infix names for the four operations, each rounded once, and the numbers that the source names.
use Rattle.std.specs.Prelude.{ℕ, ◌≡◌, refl, pos, Float}
use Rattle.std.specs.Float.Ieee.{add, sub, mul, div, neg, of_bits, of_int}
use Rattle.std.specs.Float.{binary64}

infixl 60 ◌⊕◌
infixl 60 ◌⊖◌
infixl 70 ◌⊗◌
infixl 70 ◌⊘◌
abbrev pub ◌⊕◌ : Float → Float → Float
a ⊕ b = add binary64 a b

abbrev pub ◌⊖◌ : Float → Float → Float
a ⊖ b = sub binary64 a b

abbrev pub ◌⊗◌ : Float → Float → Float
a ⊗ b = mul binary64 a b

abbrev pub ◌⊘◌ : Float → Float → Float
a ⊘ b = div binary64 a b

-- `n as f64`, of a whole number
abbrev pub count : ℕ → Float
count n = of_int binary64 (pos n)

-- the number whose bits these are
abbrev pub bits : ℕ → Float
bits b = of_bits binary64 b

-- `0.0`, and `-0.0`, from which `.sum()` starts
abbrev pub plus_zero : Float
plus_zero = bits 0

abbrev pub minus_zero : Float
minus_zero = neg plus_zero

-- `x.powi(2)`
abbrev pub square : Float → Float
square x = x ⊗ x

-- `1.0`, `2.0`, `3.0`: the whole numbers, by their bits
abbrev pub one : Float
one = bits 0x3FF0000000000000

abbrev pub two : Float
two = bits 0x4000000000000000

abbrev pub three : Float
three = bits 0x4008000000000000

pub whole : (plus_zero ≡ count 0) × (one ≡ count 1) × (two ≡ count 2) × (three ≡ count 3)
unfolding of_bits of_int
whole = (refl, refl, refl, refl)

-- `f64::MAX`
abbrev pub largest : Float
largest = bits 0x7FEFFFFFFFFFFFFF

-- `1e-14` and `1e-15`, as the compiler reads them
abbrev pub tiny : Float
tiny = bits 0x3D06849B86A12B9B

abbrev pub tinier : Float
tinier = bits 0x3CD203AF9EE75616
