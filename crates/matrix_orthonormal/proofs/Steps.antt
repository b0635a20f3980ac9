-- The ways through one row, each from what the code worked out step by step.
use Prim.Native.Nat.{ℕ, ◌*◌}
use mathlib.Core.Path.{◌≡◌, ap, ◌∙◌}
use mathlib.Core.Bool.{true, false}
use mathlib.Core.List.{List}
use lib.Ieee.{Float, lt}
use Rattle.float.specs.Words.{tinier}
use Rattle.root.specs.Root.{sqrt_of}
use Rattle.matrix_places.specs.Places.{less_row, over_row}
use Rattle.matrix_orthonormal.specs.Orthonormal.{row_dot, project_row, project_rows, normalize_row, orthonormal_row}

module _ (k i : ℕ) (c : List Float) where
  -- f is the projection, x the row without it
  pub row_projected : (j : ℕ) {f : Float} {x : List Float} → f ≡ row_dot k i j c → x ≡ less_row (j * k) (i * k) f 0 k c → x ≡ project_row k i j c
  unfolding project_row
  row_projected j e q = q ∙ ap (λ (g : Float). less_row (j * k) (i * k) g 0 k c) e

  -- s is the sum of squares and d its root
  module _ {s d : Float} (e : s ≡ row_dot k i i c) (g : d ≡ sqrt_of s) where
    pub row_divided : {x : List Float} → lt tinier d ≡ true → x ≡ over_row (i * k) d k c → x ≡ normalize_row k i c
    unfolding normalize_row
    row_divided h q = rw (← e, ← g, h) q

    pub row_left : lt tinier d ≡ false → c ≡ normalize_row k i c
    unfolding normalize_row
    row_left h = rw (← e, ← g, h)

  pub row_done : {x y : List Float} → x ≡ project_rows k i c → y ≡ normalize_row k i x → y ≡ orthonormal_row k i c
  unfolding orthonormal_row
  row_done e q = q ∙ ap (normalize_row k i) e
