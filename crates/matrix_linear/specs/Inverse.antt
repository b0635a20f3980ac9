-- `matrix_inverse`: n rows of 2 n places, the matrix on the left, the unit matrix and then the inverse on the right.
use Rattle.std.specs.Prelude.{ℕ, ◌+◌, ◌*◌, Bool, cond, List, eqb, set, Float}
use Rattle.base.specs.Loop.{loop}
use Rattle.float.specs.Words.{plus_zero, one}
use Rattle.matrix_places.specs.Places.{at, less_row, over_row}
use Rattle.matrix_linear.specs.Rows.{room, pivoted, skips}
use Rattle.matrix_linear.specs.Skips.{skipped_in, skipped_of, taken_with, not_taken}
use Rattle.matrix_linear.specs.declared.Elimination.{Elimination}

-- place j behind p becomes +0.0
abbrev pub zero_at : ℕ → ℕ → List Float → List Float
zero_at p j m = set m (p + j) plus_zero

-- the right half of row i becomes +0.0
unfoldable pub zero_right : ℕ → ℕ → List Float → List Float
zero_right n i m = loop 0 n (zero_at (i * (2 * n) + n)) m

-- and its place on the diagonal 1
unfoldable pub unit_row : ℕ → ℕ → List Float → List Float
unit_row n i m = set (zero_right n i m) (i * (2 * n) + n + i) one

-- the right half becomes the unit matrix
unfoldable pub unit : ℕ → List Float → List Float
unit n m = loop 0 n (unit_row n) m

-- a row r other than col, less m[r][col] times row col in all its columns
unfoldable pub clear_other : ℕ → ℕ → ℕ → List Float → List Float
clear_other w col r m = cond (eqb r col) m (less_row (col * w) (r * w) (at m (r * w + col)) 0 w m)

-- all rows but col, one after another
unfoldable pub clear_others : ℕ → ℕ → ℕ → List Float → List Float
clear_others n w col m = loop 0 n (clear_other w col) m

-- row col is divided by its pivot
unfoldable pub scaled : ℕ → ℕ → List Float → List Float
scaled w col m = over_row (col * w) (at m (col * w + col)) w m

-- the column is cleared in all other rows, unless the pivot is too small: then nothing is done
unfoldable pub reduced : ℕ → ℕ → ℕ → List Float → List Float
reduced n w col m = cond (skips m (col * w + col)) m (clear_others n w col (scaled w col m))

-- one column: the pivot's row comes up first, and then the pivot is looked at
unfoldable pub full_column : ℕ → ℕ → ℕ → List Float → List Float
full_column n w col m = reduced n w col (pivoted n w col m)

-- all columns
unfoldable pub full_columns : ℕ → ℕ → List Float → List Float
full_columns n w m = loop 0 n (full_column n w) m

-- is column col skipped in the inversion of n rows?
abbrev pub skipped_inverse : ℕ → ℕ → List Float → Bool
skipped_inverse n col m = skipped_in (full_column n (2 * n)) n (2 * n) col (unit n m)

-- how many columns are
abbrev pub skipped_inverse_count : ℕ → List Float → ℕ
skipped_inverse_count n m = skipped_of (full_column n (2 * n)) n (2 * n) (unit n m)

-- the memory after the call, whether the rows were taken, and how many columns were skipped
unfoldable pub matrix_inverse : ℕ → List Float → List Float × Elimination
matrix_inverse n m = cond (room n (2 * n) m) (full_columns n (2 * n) (unit n m), taken_with (skipped_inverse_count n m)) (m, not_taken)
