-- The patterns of the NaNs are those above an infinity's, the sign bit left aside.
use Prim.Native.Nat.{ℕ, ◌%◌, ◌<◌, ◌≤◌}
use mathlib.Core.Path.{◌≡◌, sym, subst, ◌∙◌}
use mathlib.Core.Bool.{Bool, not}
use lib.Dec.{T}
use lib.Ieee.{nan, binary64, of_bits, nan_bits}
use lib.Ieee.Bits.{nan_bits_is, nan_bits_above}
use borrow.Author.Tests.{lt-ltb, le-ltb}
use Rattle.float.proofs.Nans.{is_nan_lem}
use Rattle.float.proofs.Tested.{handed_out}

module _ (n : ℕ) where
  pub pattern_nan : 0x7FF0000000000000 < n % 0x8000000000000000 → nan ≡ of_bits binary64 n
  pattern_nan h = is_nan_lem (of_bits binary64 n) (sym (nan_bits_is binary64 n) ∙ nan_bits_above binary64 n ∙ lt-ltb 0x7FF0000000000000 (n % 0x8000000000000000) h)

  -- such a pattern's float is the NaN that the code hands out
  pub pattern_handed : 0x7FF0000000000000 < n % 0x8000000000000000 → of_bits binary64 0x7FF8000000000000 ≡ of_bits binary64 n
  pattern_handed h = handed_out ∙ pattern_nan h

  -- This is what `f64::from_bits` asks.
  pub pattern_number : n % 0x8000000000000000 ≤ 0x7FF0000000000000 → T (not (nan_bits binary64 n))
  pattern_number h = subst (λ (b : Bool). T (not b)) (sym (nan_bits_above binary64 n ∙ le-ltb 0x7FF0000000000000 (n % 0x8000000000000000) h)) tt
