-- `compute_wald_ss`: the sum of squares of an effect with the n columns from s on, of p columns. `beta` is the solved system, whose last column is read, and
-- `inverse` the rows of which the right half is the inverse of X'X.
use Rattle.std.specs.Prelude.{ℕ, ◌+◌, ◌*◌, List, Float}
use Rattle.base.specs.Loop.{loop}
use Rattle.float.specs.Words.{◌⊕◌, ◌⊗◌, plus_zero}
use Rattle.matrix_linear.specs.Rows.{at}
use Rattle.matrix_linear.specs.Inverse.{matrix_inverse}
use Rattle.twoway_type3.specs.Matrices.{left_half}
use Rattle.twoway_type3.specs.declared.wald.Effect.{Effect}

-- `ss += beta_effect[i] * cov_inv[i][j] * beta_effect[j]`
abbrev pub wald_at : ℕ → ℕ → ℕ → List Float → List Float → ℕ → ℕ → Float → Float
wald_at p s n beta cov i j ss = ss ⊕ at beta ((s + i) * (p + 1) + p) ⊗ at cov (i * (2 * n) + n + j) ⊗ at beta ((s + j) * (p + 1) + p)

unfoldable pub wald_row : ℕ → ℕ → ℕ → List Float → List Float → ℕ → Float → Float
wald_row p s n beta cov i ss = loop 0 n (wald_at p s n beta cov i) ss

unfoldable pub wald_sum : ℕ → ℕ → ℕ → List Float → List Float → Float
wald_sum p s n beta cov = loop 0 n (wald_row p s n beta cov) plus_zero

-- the effect's block of the inverse, on the left of its rows
abbrev pub block_of : ℕ → ℕ → ℕ → List Float → List Float
block_of p s n inverse = left_half n (s * (2 * p) + (p + s)) (2 * p) inverse

-- the block inverted itself
unfoldable pub cov_inv : ℕ → ℕ → ℕ → List Float → List Float
cov_inv p s n inverse = (matrix_inverse n (block_of p s n inverse)).0

-- how many columns that skipped
unfoldable pub cov_skips : ℕ → ℕ → ℕ → List Float → ℕ
cov_skips p s n inverse = (matrix_inverse n (block_of p s n inverse)).1.skipped

-- the sum of squares, and the columns that were skipped on the way to it
abbrev pub wald_ss : ℕ → ℕ → ℕ → List Float → List Float → Effect
wald_ss p s n beta inverse = record { ss = wald_sum p s n beta (cov_inv p s n inverse); skipped = cov_skips p s n inverse }
