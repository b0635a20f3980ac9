-- `abs_of` by bit patterns: it clears the sign bit, and nothing else.
use Prim.Native.Nat.{ℕ, zero, suc, ◌+◌, ◌%◌}
use mathlib.Core.Path.{◌≡◌, refl, sym, ap, subst, ◌∙◌}
use mathlib.Core.Bool.{Bool, true, false, not}
use native.Mathlib.Omega.{arith}
use lib.IntN.{ℤ}
use lib.Dec.{T}
use lib.Ieee.{Float, nan, inf, fin, binary64, fits, is_nan, nan_bits, of_bits, to_bits}
use lib.Ieee.Bits.{of_bits-to_bits, to_bits-lt, nan_bits_is}
use lib.Ieee.Fits.{inf-fits}
use Rattle.float.specs.Singles.{abs_of}

abbrev sign : ℕ
sign = 0x8000000000000000

-- A negative number has the sign bit more than the number without the sign, and nothing else.
signed : (m : ℕ) (e : ℤ) → to_bits binary64 (fin true m e) ≡ sign + to_bits binary64 (fin false m e)
unfolding to_bits
signed m e = regroup _ _
  where
    regroup : (a b : ℕ) → sign + a + b ≡ sign + (0 + a + b)
    regroup a b = omega arith

infinite : (s : Bool) → to_bits binary64 (inf s) % sign ≡ to_bits binary64 (inf false)
unfolding to_bits
infinite true = refl
infinite false = refl

either_sign : (s t : Bool) (m : ℕ) (e : ℤ) → T (fits binary64 (fin s m e)) → T (fits binary64 (fin t m e))
unfolding fits
either_sign s t zero e h = h
either_sign s t (suc m) e h = h

abs_fits : (x : Float) → T (fits binary64 x) → T (fits binary64 (abs_of x))
unfolding abs_of
abs_fits nan f = f
abs_fits (inf s) f = inf-fits binary64 false
abs_fits (fin s m e) f = either_sign s false m e f

-- The pattern of x without its sign bit.
pub sign_cleared : (x : Float) → T (fits binary64 x) → is_nan x ≡ false → to_bits binary64 x % sign ≡ to_bits binary64 (abs_of x)
unfolding is_nan abs_of
sign_cleared nan f n = cc
sign_cleared (inf s) f n = infinite s
sign_cleared (fin true m e) f n = omega (arith, signed m e, to_bits-lt binary64 (fin true m e) f)
sign_cleared (fin false m e) f n = omega (arith, signed m e, to_bits-lt binary64 (fin true m e) (either_sign false true m e f))

number : (x : Float) → is_nan x ≡ false → is_nan (abs_of x) ≡ false
unfolding is_nan abs_of
number nan n = n
number (inf s) n = refl
number (fin s m e) n = refl

module _ (x : Float) (f : T (fits binary64 x)) (n : is_nan x ≡ false) where
  pub cleared : of_bits binary64 (to_bits binary64 x % sign) ≡ abs_of x
  cleared = ap (of_bits binary64) (sign_cleared x f n) ∙ of_bits-to_bits binary64 (abs_of x) (abs_fits x f)

  -- This is what `f64::from_bits` asks.
  pub cleared_no_nan : T (not (nan_bits binary64 (to_bits binary64 x % sign)))
  cleared_no_nan = subst (λ (b : Bool). T (not b)) (sym (nan_bits_is binary64 (to_bits binary64 x % sign) ∙ ap is_nan cleared ∙ number x n)) tt
