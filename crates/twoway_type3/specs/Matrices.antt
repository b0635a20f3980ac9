-- A square block of a flat matrix, laid out for its inversion.
use Rattle.std.specs.Prelude.{ℕ, ◌+◌, ◌*◌, cond, List, leb, Float}
use Rattle.float.specs.Words.{plus_zero}
use Rattle.matrix_linear.specs.Rows.{at}
use Rattle.twoway_normal.specs.Tables.{table}

-- row i, column j of n rows of 2 n places: on the left a square block of m, whose rows begin at `from` and lie w apart, on the right +0.0
unfoldable pub half_of : ℕ → ℕ → ℕ → List Float → ℕ → ℕ → Float
half_of n from w m i j = cond (leb n j) plus_zero (at m (from + (i * w + j)))

-- all of them: what an inversion starts from
unfoldable pub left_half : ℕ → ℕ → ℕ → List Float → List Float
left_half n from w m = table n (2 * n) (half_of n from w m)
