-- What fits passes the guards of the solver and of the inverses: none of them leaves a matrix as it was, and each counts the columns that it skips.
use Prim.Native.Nat.{ℕ, ◌+◌, ◌*◌, ◌≤◌}
use mathlib.Core.Path.{◌≡◌, ap}
use mathlib.Core.Bool.{true}
use mathlib.Core.List.{List}
use native.Mathlib.Omega.{arith}
use borrow.Author.Tests.{le-leb}
use lib.ListN.{length}
use lib.Ieee.{Float}
use Rattle.base.specs.Limits.{most_cells, most_levels}
use Rattle.matrix_linear.specs.declared.Elimination.{Elimination}
use Rattle.matrix_linear.specs.Rows.{room}
use Rattle.matrix_linear.specs.Skips.{taken_with}
use Rattle.matrix_linear.specs.System.{forward, skipped_count, backward, solve_linear_system}
use Rattle.matrix_linear.specs.Inverse.{unit, full_columns, skipped_inverse_count, matrix_inverse}
use Rattle.twoway_normal.proofs.Sizes.{cells_most}
use Rattle.twoway_type3.specs.Answer.{cross_products, beta, inverse, solved_skips}
use Rattle.twoway_type3.specs.Inner.{most_columns}
use Rattle.twoway_type3.specs.Matrices.{left_half}
use Rattle.twoway_type3.specs.Wald.{block_of, cov_inv, cov_skips}
use Rattle.twoway_type3.proofs.Chains.{half_length}

-- as many rows as may be, in as many places as they take
room_there : (n w : ℕ) (m : List Float) → n ≤ most_cells → length m ≡ n * w → room n w m ≡ true
room_there n w m h e = rw (le-leb n most_cells h, le-leb (n * w) (length m) (omega arith))

-- a system is worked out
system_worked : (n : ℕ) (m : List Float) → n ≤ most_cells → length m ≡ n * (n + 1) → solve_linear_system n m ≡ (backward n (forward n (n + 1) m), taken_with (skipped_count n (n + 1) m))
unfolding solve_linear_system
system_worked n m h e = rw (room_there n (n + 1) m h e)

-- an inverse is worked out
inverse_worked : (n from w : ℕ) (m : List Float) → n ≤ most_cells
    → matrix_inverse n (left_half n from w m) ≡ (full_columns n (2 * n) (unit n (left_half n from w m)), taken_with (skipped_inverse_count n (left_half n from w m)))
unfolding matrix_inverse
inverse_worked n from w m h = rw (room_there n (2 * n) (left_half n from w m) h (half_length n from w m))

-- a and b levels; m is a system of as many places as theirs
module _ (m : List Float) (a b : ℕ) (most_a : a ≤ most_levels) (most_b : b ≤ most_levels) (whole : length m ≡ a * b * (a * b + 1)) where
  solved : solve_linear_system (a * b) m ≡ (backward (a * b) (forward (a * b) (a * b + 1) m), taken_with (skipped_count (a * b) (a * b + 1) m))
  solved = system_worked (a * b) m (cells_most a b most_a most_b) whole

  inverted : matrix_inverse (a * b) (cross_products m a b) ≡ (full_columns (a * b) (2 * (a * b)) (unit (a * b) (cross_products m a b)), taken_with (skipped_inverse_count (a * b) (cross_products m a b)))
  inverted = inverse_worked (a * b) 0 (a * b + 1) m (cells_most a b most_a most_b)

  -- the coefficients come from elimination and back substitution
  pub beta_there : beta m a b ≡ backward (a * b) (forward (a * b) (a * b + 1) m)
  unfolding beta
  beta_there = ap (λ (x : List Float × Elimination). x.0) solved

  -- the inverse of X'X from Gauss and Jordan
  pub inverse_there : inverse m a b ≡ full_columns (a * b) (2 * (a * b)) (unit (a * b) (cross_products m a b))
  unfolding inverse
  inverse_there = ap (λ (x : List Float × Elimination). x.0) inverted

  -- and the counts of both from their matrices
  pub skips_there : solved_skips m a b ≡ record { solver = skipped_count (a * b) (a * b + 1) m; inverse = skipped_inverse_count (a * b) (cross_products m a b) }
  unfolding solved_skips
  skips_there = rw (solved, inverted)

-- so do those of an effect's block
module _ (p s n : ℕ) (m : List Float) (h : n ≤ most_columns) where
  block : matrix_inverse n (block_of p s n m) ≡ (full_columns n (2 * n) (unit n (block_of p s n m)), taken_with (skipped_inverse_count n (block_of p s n m)))
  block = inverse_worked n (s * (2 * p) + (p + s)) (2 * p) m (omega arith)

  pub block_there : cov_inv p s n m ≡ full_columns n (2 * n) (unit n (block_of p s n m))
  unfolding cov_inv
  block_there = ap (λ (x : List Float × Elimination). x.0) block

  pub block_skips_there : cov_skips p s n m ≡ skipped_inverse_count n (block_of p s n m)
  unfolding cov_skips
  block_skips_there = ap (λ (x : List Float × Elimination). x.1.skipped) block
