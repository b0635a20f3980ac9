-- What the test for a NaN says of x.
use mathlib.Core.Path.{◌≡◌, refl, ap, ◌∙◌}
use mathlib.Core.Bool.{true}
use lib.Ieee.{Float, nan, is_nan, binary64, of_bits, to_bits}
use Rattle.float.specs.Singles.{abs_of}
use Rattle.float.proofs.Nans.{is_nan_lem}

-- The NaN that the code hands out.
pub handed_out : of_bits binary64 0x7FF8000000000000 ≡ nan
unfolding of_bits
handed_out = refl

module _ (x : Float) where
  pub is_tested : is_nan x ≡ true → of_bits binary64 0x7FF8000000000000 ≡ x
  is_tested h = handed_out ∙ is_nan_lem x h

  pub no_sign : is_nan x ≡ true → of_bits binary64 0x7FF8000000000000 ≡ abs_of x
  unfolding abs_of
  no_sign h = rw (← is_nan_lem x h) handed_out

  pub nan_word : is_nan x ≡ true → 0x7FF8000000000000 ≡ to_bits binary64 x
  unfolding to_bits
  nan_word h = ap (to_bits binary64) (is_nan_lem x h)
