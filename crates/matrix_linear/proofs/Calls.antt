-- The ends of the three calls: too many rows, or no room for them, or the call's steps were taken one after another.
use Prim.Native.Nat.{ℕ, ◌+◌, ◌*◌, ◌<◌, ◌≤◌}
use mathlib.Core.Path.{◌≡◌, ap}
use mathlib.Core.Bool.{cond}
use mathlib.Core.List.{List}
use borrow.Author.Tests.{le-leb, lt-leb}
use lib.Ieee.{Float}
use lib.ListN.{length, set}
use Rattle.float.specs.Words.{bits, one}
use Rattle.float.proofs.Tested.{handed_out}
use Rattle.matrix_linear.specs.Rows.{most_rows, room}
use Rattle.matrix_linear.specs.Skips.{taken_with, not_taken}
use Rattle.matrix_linear.specs.Inner.{all_counted}
use Rattle.matrix_linear.specs.System.{column, forward, backward, solve_linear_system}
use Rattle.matrix_linear.specs.Inverse.{zero_right, unit_row, unit, full_column, full_columns, matrix_inverse}
use Rattle.matrix_linear.specs.Determinant.{det_of, matrix_determinant}
use Rattle.matrix_linear.specs.declared.Elimination.{Elimination}

module _ {A : Type 0} (n w : ℕ) (m : List Float) (yes other : A) where
  refused_many : {x : A} → most_rows < n → x ≡ other → x ≡ cond (room n w m) yes other
  refused_many h e = rw (lt-leb n most_rows h) e

  refused_short : {x : A} → n ≤ most_rows → length m < n * w → x ≡ other → x ≡ cond (room n w m) yes other
  refused_short h k e = rw (le-leb n most_rows h, lt-leb (n * w) (length m) k) e

  accepted : {x : A} → n ≤ most_rows → n * w ≤ length m → x ≡ yes → x ≡ cond (room n w m) yes other
  accepted h k e = rw (le-leb n most_rows h, le-leb (n * w) (length m) k) e

-- x, y, z are the memory after each step; the last makes NaNs canonical and leaves it as it was
module _ (n : ℕ) (m : List Float) where
  -- r is what a call says that took nothing, and k the columns that were skipped
  pub solve_many : {r : Elimination} → most_rows < n → r ≡ not_taken → (m, r) ≡ solve_linear_system n m
  unfolding solve_linear_system
  solve_many h e = refused_many n (n + 1) m _ _ h (ap (λ (x : Elimination). (m, x)) e)

  pub solve_short : {r : Elimination} → n ≤ most_rows → length m < n * (n + 1) → r ≡ not_taken → (m, r) ≡ solve_linear_system n m
  unfolding solve_linear_system
  solve_short h l e = refused_short n (n + 1) m _ _ h l (ap (λ (x : Elimination). (m, x)) e)

  pub solve_taken : {x y z : List Float} {k : ℕ} → n ≤ most_rows → n * (n + 1) ≤ length m → (x, k) ≡ all_counted (column n (n + 1)) n (n + 1) m → y ≡ backward n x → z ≡ y → (z, taken_with k) ≡ solve_linear_system n m
  unfolding solve_linear_system forward
  solve_taken h l p q r = accepted n (n + 1) m _ _ h l (rw (r, q) (ap (λ (s : List Float × ℕ). (backward n s.0, taken_with s.1)) p))

  pub inverse_many : {r : Elimination} → most_rows < n → r ≡ not_taken → (m, r) ≡ matrix_inverse n m
  unfolding matrix_inverse
  inverse_many h e = refused_many n (2 * n) m _ _ h (ap (λ (x : Elimination). (m, x)) e)

  pub inverse_short : {r : Elimination} → n ≤ most_rows → length m < n * (2 * n) → r ≡ not_taken → (m, r) ≡ matrix_inverse n m
  unfolding matrix_inverse
  inverse_short h l e = refused_short n (2 * n) m _ _ h l (ap (λ (x : Elimination). (m, x)) e)

  pub inverse_taken : {x y z : List Float} {k : ℕ} → n ≤ most_rows → n * (2 * n) ≤ length m → x ≡ unit n m → (y, k) ≡ all_counted (full_column n (2 * n)) n (2 * n) x → z ≡ y
      → (z, taken_with k) ≡ matrix_inverse n m
  unfolding matrix_inverse full_columns
  inverse_taken h l p q r = accepted n (2 * n) m _ _ h l (rw (r, ← p) (ap (λ (s : List Float × ℕ). (s.0, taken_with s.1)) q))

  pub determinant_many : most_rows < n → (m, bits 0x7FF8000000000000) ≡ matrix_determinant n m
  unfolding matrix_determinant
  determinant_many h = refused_many n n m _ _ h (ap (λ (x : Float). (m, x)) handed_out)

  pub determinant_short : n ≤ most_rows → length m < n * n → (m, bits 0x7FF8000000000000) ≡ matrix_determinant n m
  unfolding matrix_determinant
  determinant_short h k = refused_short n n m _ _ h k (ap (λ (x : Float). (m, x)) handed_out)

  pub determinant_taken : {x y : List Float} {d r : Float} → n ≤ most_rows → n * n ≤ length m → (x, d) ≡ det_of n m → y ≡ x → r ≡ d → (y, r) ≡ matrix_determinant n m
  unfolding matrix_determinant
  determinant_taken h k p q s = accepted n n m _ _ h k (rw (q, s) p)

-- row i of the unit matrix, once its other places are 0
pub unit_put : (n i : ℕ) (m x : List Float) → x ≡ zero_right n i m → set x (i * (2 * n) + n + i) one ≡ unit_row n i m
unfolding unit_row
unit_put n i m x e = ap (λ (s : List Float). set s (i * (2 * n) + n + i) one) e

-- the same memory, and beside it what is the same number
pub beside : {m : List Float} {d r : Float} → d ≡ r → ◌≡◌ {A = List Float × Float} (m, d) (m, r)
beside {m} e = ap (λ (x : Float). (m, x)) e
