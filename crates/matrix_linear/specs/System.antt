-- `solve_linear_system`: n rows of n + 1 places, the right sides last.
use Rattle.std.specs.Prelude.{ℕ, ◌+◌, ◌*◌, ◌-◌, Bool, cond, List, set, Float}
use Rattle.base.specs.Loop.{loop}
use Rattle.float.specs.Words.{◌⊖◌, ◌⊗◌, ◌⊘◌, plus_zero}
use Rattle.matrix_linear.specs.Rows.{at, room, pivoted, skips, clear_below}
use Rattle.matrix_linear.specs.Skips.{skipped_in, skipped_of, one_more, taken_with, not_taken}
use Rattle.matrix_linear.specs.declared.Elimination.{Elimination}

-- the column is cleared below row col, unless the pivot is too small: then nothing is done
unfoldable pub cleared : ℕ → ℕ → ℕ → List Float → List Float
cleared n w col m = cond (skips m (col * w + col)) m (clear_below n w col m)

-- one column: the pivot's row comes up first, and then the pivot is looked at
unfoldable pub column : ℕ → ℕ → ℕ → List Float → List Float
column n w col m = cleared n w col (pivoted n w col m)

-- elimination, column by column
unfoldable pub forward : ℕ → ℕ → List Float → List Float
forward n w m = loop 0 n (column n w) m

-- is column col of n rows of w places skipped in it?
abbrev pub skipped_column : ℕ → ℕ → ℕ → List Float → Bool
skipped_column n w col m = skipped_in (column n w) n w col m

-- how many columns are
abbrev pub skipped_count : ℕ → ℕ → List Float → ℕ
skipped_count n w m = skipped_of (column n w) n w m

-- `x[i] -= aug[i][j] * x[j]`
abbrev pub back_at : List Float → ℕ → ℕ → ℕ → Float → Float
back_at m n i j x = x ⊖ at m (i * (n + 1) + j) ⊗ at m (j * (n + 1) + n)

-- the right side of row i less the row's products with the values below, which are known
unfoldable pub back_sum : ℕ → ℕ → List Float → Float
back_sum n i m = loop (i + 1) n (back_at m n i) (at m (i * (n + 1) + n))

-- x[i]: +0.0 where the divisor is too small
unfoldable pub back_value : ℕ → ℕ → List Float → Float
back_value n i m = cond (skips m (i * (n + 1) + i)) plus_zero (back_sum n i m ⊘ at m (i * (n + 1) + i))

-- x[n - 1 - k] takes the place of its right side
unfoldable pub back_row : ℕ → ℕ → List Float → List Float
back_row n k m = set m ((n - 1 - k) * (n + 1) + n) (back_value n (n - 1 - k) m)

-- back substitution, from the last row up
unfoldable pub backward : ℕ → List Float → List Float
backward n m = loop 0 n (back_row n) m

-- how many divisors of back substitution are too small
unfoldable pub small_divisors : ℕ → ℕ → List Float → ℕ
small_divisors n w m = loop 0 n (λ i. one_more (skips m (i * w + i))) 0

-- the memory after the call, whether the rows were taken, and how many columns were skipped
unfoldable pub solve_linear_system : ℕ → List Float → List Float × Elimination
solve_linear_system n m = cond (room n (n + 1) m) (backward n (forward n (n + 1) m), taken_with (skipped_count n (n + 1) m)) (m, not_taken)
