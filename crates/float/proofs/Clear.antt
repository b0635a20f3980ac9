-- Floats whose sign is clear: the NaN, +0.0 and what is above it. They are neither below zero nor -0.0. Sums, products and quotients of such are such, and so is every square.
use Prim.Native.Nat.{ℕ, zero, suc, ◌+◌, ◌-◌, ◌*◌, ◌^◌}
use mathlib.Core.Path.{◌≡◌, refl, sym, ap, ◌∙◌}
use mathlib.Core.Bool.{Bool, true, false, cond, true≢false}
use native.Mathlib.Nat.{zero-mul}
use native.Mathlib.Omega.{arith}
use borrow.Author.Tests.{ltb-true, le-ltb}
use lib.Dec.{ltb, eqb}
use lib.Ieee.{Float, nan, inf, fin, binary64, up, down, unlike, odd, units, round, neg, sum, add, mul, div, lt, of_int, of_bits}
use lib.Ieee.Fits.{round_is}
use Rattle.float.specs.Words.{◌⊕◌, ◌⊗◌, ◌⊘◌, count, plus_zero, minus_zero}

-- the sign; the one NaN has none
abbrev pub signed : Float → Bool
signed nan = false
signed (inf s) = s
signed (fin s m e) = s

abbrev pub Clear : Float → Type 0
Clear x = signed x ≡ false

-- ---- what a clear sign says
pub not_below : (x : Float) → Clear x → lt x plus_zero ≡ false
unfolding lt of_bits
not_below nan c = refl
not_below (inf s) c = c
not_below (fin true m e) c = absurd (true≢false c)
not_below (fin false m e) c = le-ltb (m * up e * 1) (0 * 1 * down e) (omega arith)

pub not_minus_zero : (x : Float) → Clear x → x ≡ minus_zero → ⊥
unfolding neg of_bits
not_minus_zero x c e = true≢false (sym (ap signed e) ∙ c)

pub zero_clear : Clear plus_zero
unfolding of_bits
zero_clear = refl

-- ---- rounding keeps the sign
either : (b : Bool) (x y : Float) → Clear x → Clear y → Clear (cond b x y)
either true x y c d = c
either false x y c d = d

odd_clear : (d q k l : ℕ) → Clear (odd d false q k l)
unfolding odd
odd_clear d zero k l = refl
odd_clear d (suc q) k l = refl

units_clear : (q k : ℕ) → Clear (units binary64 false q k)
unfolding units
units_clear q k = either (ltb (q * 2 ^ k) (2 ^ 2098)) _ (inf false) (odd_clear 54 q k 1074) refl

pub round_clear : (a c : ℕ) → Clear (round binary64 false a c)
round_clear a c = ap signed (round_is binary64 false a c) ∙ units_clear _ _

-- ---- the operations
pub count_clear : (n : ℕ) → Clear (count n)
unfolding of_int
count_clear n = round_clear n 1

pub plus_clear : (x y : Float) → Clear x → Clear y → Clear (x ⊕ y)
unfolding add sum
plus_clear nan y c d = refl
plus_clear (inf s) nan c d = refl
plus_clear (inf true) (inf t) c d = absurd (true≢false c)
plus_clear (inf false) (inf true) c d = refl
plus_clear (inf false) (inf false) c d = refl
plus_clear (inf s) (fin t n k) c d = c
plus_clear (fin s m e) nan c d = refl
plus_clear (fin s m e) (inf t) c d = d
plus_clear (fin true m e) (fin t n k) c d = absurd (true≢false c)
plus_clear (fin false m e) (fin true n k) c d = absurd (true≢false d)
plus_clear (fin false m e) (fin false n k) c d = round_clear (m * up e * down k + n * up k * down e) (down e * down k)

-- -0.0, from which `.sum()` starts, is gone after the first such number
from_zero : (a b c : ℕ) → a ≡ 0 → Clear (sum binary64 true a false b c)
unfolding sum
from_zero a b c e = go (ltb a b) (ltb b a) refl
  where
    go : (t u : Bool) → ltb b a ≡ u → Clear (cond t (round binary64 false (b - a) c) (round binary64 u (a - b) c))
    go true u p = round_clear (b - a) c
    go false true p = absurd (omega (arith, ltb-true b a p))
    go false false p = round_clear (a - b) c

pub start_clear : (y : Float) → Clear y → Clear (minus_zero ⊕ y)
unfolding add neg of_bits
start_clear nan d = refl
start_clear (inf t) d = d
start_clear (fin true n k) d = absurd (true≢false d)
start_clear (fin false n k) d = from_zero (0 * 1 * down k) (n * up k * 1) (1 * down k) (zero-mul (down k))

alike : (s t : Bool) → s ≡ t → unlike s t ≡ false
alike true true e = refl
alike true false e = e
alike false true e = sym e
alike false false e = refl

-- a sign that is like another's, and what is rounded with it
round_alike : (s t : Bool) (a c : ℕ) → s ≡ t → Clear (round binary64 (unlike s t) a c)
round_alike s t a c e = rw (alike s t e) (round_clear a c)

-- of two floats with the same sign, and so of one with itself
pub times_clear : (x y : Float) → signed x ≡ signed y → Clear (x ⊗ y)
unfolding mul
times_clear nan y e = refl
times_clear (inf s) nan e = refl
times_clear (inf s) (inf t) e = alike s t e
times_clear (inf s) (fin t n d) e = either (eqb n 0) nan _ refl (alike s t e)
times_clear (fin s m k) nan e = refl
times_clear (fin s m k) (inf t) e = either (eqb m 0) nan _ refl (alike s t e)
times_clear (fin s m k) (fin t n d) e = round_alike s t (m * up k * (n * up d)) (down k * down d) e

pub over_clear : (x y : Float) → Clear x → Clear y → Clear (x ⊘ y)
unfolding div
over_clear nan y c d = refl
over_clear (inf s) nan c d = refl
over_clear (inf s) (inf t) c d = refl
over_clear (inf s) (fin t n k) c d = alike s t (c ∙ sym d)
over_clear (fin s m e) nan c d = refl
over_clear (fin s m e) (inf t) c d = alike s t (c ∙ sym d)
over_clear (fin s m e) (fin t n k) c d = either (eqb n 0) _ _ (either (eqb m 0) nan _ refl (alike s t (c ∙ sym d))) (round_alike s t (m * up e * down k) (n * up k * down e) (c ∙ sym d))
