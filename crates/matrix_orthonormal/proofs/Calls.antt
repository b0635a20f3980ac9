-- The ends of the call: b is what the test of the sizes said; x, y the memory after each step. The last step makes NaNs canonical and leaves it as it was.
use Prim.Native.Nat.{ℕ}
use mathlib.Core.Path.{◌≡◌}
use mathlib.Core.Bool.{Bool, true, false}
use mathlib.Core.List.{List}
use lib.ListN.{length}
use lib.Ieee.{Float}
use Rattle.matrix_places.specs.Places.{most_contrasts, refuses}
use Rattle.matrix_orthonormal.specs.Orthonormal.{orthonormal_rows, orthonormalize}

module _ (p k : ℕ) (c : List Float) {b : Bool} (e : b ≡ refuses most_contrasts p k (length c)) where
  pub orthonormal_refused : b ≡ true → (c, false) ≡ orthonormalize p k c
  unfolding orthonormalize
  orthonormal_refused h = rw (← e, h)

  pub orthonormal_taken : {x y : List Float} → b ≡ false → x ≡ orthonormal_rows p k c → y ≡ x → (y, true) ≡ orthonormalize p k c
  unfolding orthonormalize
  orthonormal_taken h q r = rw (← e, h, r, q)
