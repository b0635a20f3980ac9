-- What the code keeps between its steps. No public contract cites these words.
use Rattle.std.specs.Prelude.{ℕ, ◌+◌, ◌*◌, cond, List, Float}
use Rattle.base.specs.Loop.{loop}
use Rattle.matrix_linear.specs.Rows.{pivoted, skips}
use Rattle.matrix_linear.specs.Skips.{pivot_skips, one_more, skipped_of}

-- one column, and beside the matrix how many were skipped; `by` is what is done in a column
abbrev pub counted : (ℕ → List Float → List Float) → ℕ → ℕ → ℕ → List Float × ℕ → List Float × ℕ
counted by n w col s = (by col s.0, one_more (pivot_skips n w col s.0) s.1)

-- all columns, and how many of them are skipped
abbrev pub all_counted : (ℕ → List Float → List Float) → ℕ → ℕ → List Float → List Float × ℕ
all_counted by n w m = (loop 0 n by m, skipped_of by n w m)

-- one column: the pivot's row comes up first, and then the pivot is looked at; unless it is too small `clear` goes on. `column` and `full_column` are this, each with what it clears
abbrev pub column_by : (ℕ → ℕ → ℕ → List Float → List Float) → ℕ → ℕ → ℕ → List Float → List Float
column_by clear n w col m = cond (skips (pivoted n w col m) (col * w + col)) (pivoted n w col m) (clear n w col (pivoted n w col m))
