-- The ways through one column and one round, each from what the code worked out step by step.
use Prim.Native.Nat.{ℕ, ◌+◌, ◌*◌}
use mathlib.Core.Path.{◌≡◌}
use mathlib.Core.Bool.{true, false}
use mathlib.Core.List.{List}
use lib.ListN.{set}
use lib.Ieee.{Float, lt}
use Rattle.float.specs.Words.{minus_zero, tinier}
use Rattle.root.specs.Root.{sqrt_of}
use Rattle.matrix_places.specs.Places.{dot}
use Rattle.matrix_product.specs.Product.{times}
use Rattle.matrix_eigen.specs.Qr.{blank_column, column_of, column_dot, less_column, project, projections, put_column, new_column, normalize, remains, qr_column, qr_columns}
use Rattle.matrix_eigen.specs.Values.{zeros, qr_here, round}

module _ (n j : ℕ) where
  pub column_projected : (a q v r : List Float) (i : ℕ) {f : Float} {x : List Float} → f ≡ column_dot n q i a j → x ≡ less_column n q i f v → (x, set r (i * n + j) f) ≡ project n a q j i (v, r)
  unfolding project
  column_projected a q v r i e p = rw (p, e)

  module _ (v q r : List Float) {s d : Float} (e : s ≡ dot minus_zero v 0 1 v 0 1 n) (g : d ≡ sqrt_of s) where
    pub column_put : {x : List Float} → lt tinier d ≡ true → x ≡ put_column n v j d q → (x, set r (j * n + j) d) ≡ normalize n j v (q, r)
    unfolding normalize new_column
    column_put h p = rw (← e, ← g, h, ← p)

    pub column_left : lt tinier d ≡ false → (q, set r (j * n + j) d) ≡ normalize n j v (q, r)
    unfolding normalize new_column
    column_left h = rw (← e, ← g, h)

  -- v is the column of a, w what the projections leave of it
  pub column_done : (a q r : List Float) {v w x y z : List Float}
      → v ≡ column_of n a j blank_column → (w, z) ≡ projections n a q j (v, r) → (x, y) ≡ normalize n j w (q, z) → (x, y) ≡ qr_column n a j (q, r)
  unfolding qr_column remains
  column_done a q r e f g = rw (← e, ← f) g

pub round_done : (n : ℕ) (m : List Float) {q r x : List Float} → (q, r) ≡ qr_columns n m (zeros, zeros) → x ≡ times n n n r q m → x ≡ round n m
unfolding round qr_here
round_done n m e p = rw (← e) p
