-- The normal equations: X'X and, behind each of its rows, that of X'y.
use Rattle.std.specs.Prelude.{ℕ, ◌+◌, ◌*◌, List, length, get_or, Float}
use Rattle.std.specs.Float.{nan}
use Rattle.base.specs.Loop.{loop}
use Rattle.float.specs.Words.{◌⊕◌, ◌⊗◌, plus_zero}
use Rattle.matrix_places.specs.Places.{at}
use Rattle.twoway_normal.specs.Coding.{design_row}
use Rattle.twoway_normal.specs.Tables.{table}

module _ (values : List Float) (us vs : List ℕ) (a b : ℕ) where
  -- row i of the design matrix, with the value behind it
  unfoldable pub row_of : ℕ → List Float
  row_of i = design_row a b (get_or us i 0) (get_or vs i 0) (get_or values i nan)

  -- `t += x[i][j] * x[i][k]`, and in the last column `t += x[i][j] * values[i]`
  abbrev pub product_of : ℕ → ℕ → ℕ → Float → Float
  product_of j k i t = t ⊕ at (row_of i) j ⊗ at (row_of i) k

  -- row j, column k: from +0.0, over the readings in their order
  unfoldable pub normal_at : ℕ → ℕ → Float
  normal_at j k = loop 0 (length values) (product_of j k) plus_zero

  -- a * b rows
  unfoldable pub normal_system : List Float
  normal_system = table (a * b) (a * b + 1) normal_at
