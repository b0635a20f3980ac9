-- The cases of `sqrt`: what each test of the code says of x, and what `sqrt_of` is there.
use mathlib.Core.Path.{◌≡◌, refl, sym, ap, ◌∙◌, subst}
use Prim.Native.Nat.{ℕ, zero, suc, ◌+◌, ◌-◌, ◌*◌, ◌/◌, ◌%◌, ◌^◌, ◌≤◌, ◌<◌}
use native.Mathlib.Nat.{zero-lt-suc, eq-zero-or-pos, zero-mul, mul-pos, mul_right_comm, mul-lt-mul_of_pos_right, div-lt_iff_lt-mul}
use native.Mathlib.Omega.{arith}
use mathlib.Core.Logic.{inl, inr}
use mathlib.Core.Bool.{Bool, true, false, not, ◌&&◌, false≢true, true≢false}
use lib.IntN.{ℤ, pos}
use lib.Dec.{T, ltb, leb, eqb, ltb→lt}
use lib.Pow.{pow-add, pow_pos}
use lib.Ieee.{Float, nan, inf, fin, binary64, up, down, size, lt, eq, is_nan, fits, nan_bits, of_bits, to_bits}
use lib.Ieee.Digits.{size-le}
use lib.Ieee.Fits.{and_r, down_pos, up_pos, kept-lt}
use lib.Ieee.Bits.{of_bits-to_bits}
use borrow.Author.Tests.{ltb-true, ltb-false, eqb-true}
use Rattle.float.specs.Words.{bits, plus_zero}
use Rattle.float.proofs.Nans.{is_nan_lem}
use Rattle.float.proofs.Tested.{handed_out}
use Rattle.float.proofs.Patterns.{pattern_number}
use Rattle.root.specs.Root.{sqrt_of, root_bits}
use Rattle.root.specs.Nearest.{infinity}
use Rattle.root.proofs.Scaled.{root_bits_is, long_range, exponent_range}

-- A NaN.
pub root_nan : (x : Float) → is_nan x ≡ true → bits 0x7FF8000000000000 ≡ sqrt_of x
unfolding sqrt_of
root_nan x h = handed_out ∙ ap sqrt_of (is_nan_lem x h)

-- A number below zero.
below : (x : Float) → lt x plus_zero ≡ true → nan ≡ sqrt_of x
unfolding sqrt_of lt of_bits
below nan h = refl
below (inf true) h = refl
below (inf false) h = absurd (false≢true h)
below (fin true zero e) h = absurd (omega (arith, ltb-true 0 (0 * up e * 1 + 0 * 1 * down e) h))
below (fin true (suc m) e) h = refl
below (fin false m e) h = absurd (omega (arith, ltb-true (m * up e * 1) (0 * 1 * down e) h))

pub root_below : (x : Float) → lt x plus_zero ≡ true → bits 0x7FF8000000000000 ≡ sqrt_of x
root_below x h = handed_out ∙ below x h

-- A zero of either sign.
and_left : (a b : Bool) → (a && b) ≡ true → a ≡ true
and_left true b h = refl
and_left false b h = h

size_pos : (m : ℕ) (e : ℤ) → 0 < suc m * up e
size_pos m e = mul-pos (zero-lt-suc m) (up_pos e)

not_level : (m : ℕ) (e : ℤ) (b : Bool) → (eqb (suc m * up e * 1) (0 * 1 * down e) && b) ≡ true → ⊥
not_level m e b h = omega (arith, size_pos m e, eqb-true (suc m * up e * 1) (0 * 1 * down e) (and_left _ b h))

pub root_zero : (x : Float) → eq x plus_zero ≡ true → x ≡ sqrt_of x
unfolding sqrt_of eq of_bits
root_zero nan h = refl
root_zero (inf true) h = absurd (false≢true h)
root_zero (inf false) h = refl
root_zero (fin s zero e) h = refl
root_zero (fin true (suc m) e) h = absurd (not_level m e _ h)
root_zero (fin false (suc m) e) h = absurd (not_level m e _ h)

-- The infinity.
of_infinity : (bits infinity ≡ inf false) × (inf false ≡ sqrt_of (inf false))
unfolding of_bits sqrt_of
of_infinity = (refl, refl)

pub root_infinity : (x : Float) → T (fits binary64 x) → to_bits binary64 x ≡ infinity → x ≡ sqrt_of x
root_infinity x t h =
    let e : x ≡ inf false = sym (of_bits-to_bits binary64 x t) ∙ ap bits h ∙ of_infinity.0 in
    e ∙ of_infinity.1 ∙ ap sqrt_of (sym e)

-- the same, of a double as the check knows it
pub infinity_itself : (x : Float) → fits binary64 x ≡ true → to_bits binary64 x ≡ 9218868437227405312 → x ≡ sqrt_of x
infinity_itself x f h = root_infinity x (subst T (sym f) tt) h

-- What is left is a finite number above zero.
abbrev pub Above : Float → Type 0
Above x = (m : ℕ) × (e : ℤ) × (x ≡ fin false (suc m) e)

zero_level : (s : Bool) (e : ℤ) → eq (fin s zero e) plus_zero ≡ true
unfolding eq of_bits
zero_level true e = rw (zero-mul (up e), zero-mul (down e))
zero_level false e = rw (zero-mul (up e), zero-mul (down e))

pub is_above : (x : Float) → is_nan x ≡ false → lt x plus_zero ≡ false → eq x plus_zero ≡ false → (to_bits binary64 x ≡ infinity → ⊥) → Above x
unfolding lt eq of_bits to_bits is_nan
is_above nan a b c d = absurd (true≢false a)
is_above (inf true) a b c d = absurd (true≢false b)
is_above (inf false) a b c d = absurd (d refl)
is_above (fin s zero e) a b c d = absurd (true≢false (sym (zero_level s e) ∙ c))
is_above (fin true (suc m) e) a b c d = absurd (omega (arith, size_pos m e, ltb-false 0 (suc m * up e * 1 + 0 * 1 * down e) b))
is_above (fin false (suc m) e) a b c d = (m, e, refl)

pub root_above : (x : Float) → Above x → sqrt_of x ≡ bits (root_bits (to_bits binary64 x))
unfolding sqrt_of
root_above x (m, e, p) = ap sqrt_of p ∙ ap (λ (y : Float). bits (root_bits (to_bits binary64 y))) (sym p)

-- The pattern of such a number, and of its root.
not_zero : (x : Float) → T (fits binary64 x) → Above x → 0 < to_bits binary64 x
unfolding of_bits
not_zero x t (m, e, p) = elim (eq-zero-or-pos (to_bits binary64 x)) [
  | inl z ↦
      let q : fin false (suc m) e ≡ fin false 0 (pos 0) = sym p ∙ sym (of_bits-to_bits binary64 x t) ∙ ap bits z in
      let d : suc m ≡ 0 = cc in
      absurd (omega arith)
  | inr q ↦ q
]

field_lt : (z d : ℕ) → z ≤ 2098 → d < 9007199254740992 → 0 + (z - 53) * 4503599627370496 + d < infinity
field_lt z d h k = omega arith

finite_lt : (m : ℕ) (e : ℤ) → T (fits binary64 (fin false (suc m) e)) → to_bits binary64 (fin false (suc m) e) < infinity
unfolding fits to_bits
finite_lt m e t =
    let A = eqb (suc m % 2) 1 in
    let B = ltb (suc m) (2 ^ 53) in
    let C = leb (down e) (2 ^ 1074) in
    let D = ltb (suc m * up e) (2 ^ 1024 * down e) in
    let n = suc m * up e * 2 ^ 1074 / down e in
    let small : n < 2 ^ 2098 =
    (div-lt_iff_lt-mul (down_pos e)).1
    (subst (λ (x : ℕ). suc m * up e * 2 ^ 1074 < x)
    (mul_right_comm (2 ^ 1024) (down e) (2 ^ 1074) ∙ ap (λ (x : ℕ). x * down e) (sym (pow-add 2 1024 1074)))
    (mul-lt-mul_of_pos_right (ltb→lt (suc m * up e) (2 ^ 1024 * down e) (and_r (A && B && C) D t)) (pow_pos 1074))) in
    field_lt (size n) (n / 2 ^ (size n - 53)) (size-le n 2098 small) (kept-lt 53 n)

pub bits_range : (x : Float) → T (fits binary64 x) → Above x → (0 < to_bits binary64 x) × (to_bits binary64 x < infinity)
bits_range x t (m, e, p) =
    (not_zero x t (m, e, p), subst (λ (y : Float). to_bits binary64 y < infinity) (sym p) (finite_lt m e (subst (λ (y : Float). T (fits binary64 y)) p t)))

pub root_lt_infinity : (b : ℕ) → 0 < b → b < infinity → root_bits b < infinity
root_lt_infinity b p h = omega (arith, root_bits_is b, exponent_range b p h, long_range b p)

pub root_no_nan : (r : ℕ) → r < infinity → T (not (nan_bits binary64 r))
root_no_nan r h = pattern_number r (omega arith)
