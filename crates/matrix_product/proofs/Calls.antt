-- The ends of the calls: b, d, f are what the tests of the sizes said; x and y the memory after each step.
use Prim.Native.Nat.{ℕ}
use mathlib.Core.Path.{◌≡◌}
use mathlib.Core.Bool.{Bool, true, false}
use mathlib.Core.List.{List}
use lib.ListN.{length}
use lib.Ieee.{Float}
use Rattle.base.specs.Limits.{most_conditions}
use Rattle.matrix_places.specs.Places.{most_contrasts, refuses}
use Rattle.matrix_product.specs.Product.{times, times_turned, blank, csc, matrix_multiply_csc}

module _ (p k : ℕ) (c s out : List Float) {b : Bool} (e : b ≡ refuses most_contrasts p k (length c)) where
  pub csc_first : b ≡ true → (out, false) ≡ matrix_multiply_csc p k c s out
  unfolding matrix_multiply_csc
  csc_first h = rw (← e, h)

  module _ (h : b ≡ false) {d : Bool} (e' : d ≡ refuses most_conditions k k (length s)) where
    pub csc_second : d ≡ true → (out, false) ≡ matrix_multiply_csc p k c s out
    unfolding matrix_multiply_csc
    csc_second h' = rw (← e, h, ← e', h')

    module _ (h' : d ≡ false) {f : Bool} (e'' : f ≡ refuses most_contrasts p p (length out)) where
      pub csc_third : f ≡ true → (out, false) ≡ matrix_multiply_csc p k c s out
      unfolding matrix_multiply_csc
      csc_third h'' = rw (← e, h, ← e', h', ← e'', h'')

      pub csc_taken : {x y : List Float} → f ≡ false → x ≡ times p k k c s blank → y ≡ times_turned p k p x c out → (y, true) ≡ matrix_multiply_csc p k c s out
      unfolding matrix_multiply_csc csc
      csc_taken h'' u v = rw (← e, h, ← e', h', ← e'', h'', v, u)
