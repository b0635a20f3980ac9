-- What a square root is, said with no algorithm, by IEEE 754: the nearest double, and of two that are equally near the one with the even pattern.
-- The patterns of the doubles above zero are numbered in order of size. So r, with the pattern p, is nearest to the root of x where that root lies between the
-- midpoint below r, to the pattern p - 1, and the midpoint above it, to p + 1: where x lies between the squares of the two midpoints.
-- All of it is said in whole numbers: doubles in units of 2 ^ -1074, the smallest one, and squares in units of 2 ^ -2148.
use Rattle.std.specs.Prelude.{◌≡◌, ℕ, zero, suc, ◌+◌, ◌-◌, ◌*◌, ◌/◌, ◌%◌, ◌^◌, ◌≤◌, ◌<◌, true, false, Float}
use Rattle.std.specs.Float.{nan, inf, fin}
use Rattle.std.specs.Float.Ieee.{up, down}
use Rattle.float.specs.Words.{bits}

-- The pattern of the infinity: the finite numbers above zero have the patterns from 1 up to it.
abbrev pub infinity : ℕ
infinity = 0x7FF0000000000000

-- The size of a finite number in units of 2 ^ -1074. The division leaves no rest where a double holds the number.
unfoldable pub size : Float → ℕ
size nan = 0
size (inf s) = 0
size (fin s m e) = m * up e * 2 ^ 1074 / down e

-- The size of the number whose pattern is p.
abbrev pub at : ℕ → ℕ
at p = size (bits p)

-- Twice the midpoint between it and the next number, since the midpoint itself may be no whole number of units.
abbrev pub midpoint : ℕ → ℕ
midpoint p = at p + at (p + 1)

abbrev pub square : ℕ → ℕ
square a = a * a

-- Four times x, in units of 2 ^ -2148: what the squares of twice the midpoints are held against.
abbrev pub fourfold : Float → ℕ
fourfold x = 4 * (size x * 2 ^ 1074)

-- r is the double nearest to the root of x. Where that root is a midpoint itself, r's pattern is even.
pub record Closest (x r : Float) : Type 0 where
  pub pattern : ℕ
  pub is : r ≡ bits pattern
  pub positive : 0 < pattern
  pub finite : pattern + 1 < infinity
  pub low : square (midpoint (pattern - 1)) ≤ fourfold x
  pub high : fourfold x ≤ square (midpoint pattern)
  pub even_low : square (midpoint (pattern - 1)) ≡ fourfold x → pattern % 2 ≡ 0
  pub even_high : fourfold x ≡ square (midpoint pattern) → pattern % 2 ≡ 0

-- r is the square root of x: of a zero that zero, below zero a NaN, and of a finite number above zero the nearest double.
abbrev pub IsRoot : Float → Float → Type 0
IsRoot nan r = r ≡ nan
IsRoot (inf true) r = r ≡ nan
IsRoot (inf false) r = r ≡ inf false
IsRoot (fin s zero e) r = r ≡ fin s zero e
IsRoot (fin true (suc m) e) r = r ≡ nan
IsRoot (fin false (suc m) e) r = Closest (fin false (suc m) e) r
