-- The covariances of k conditions. The readings xs are n rows of k, one row a subject: subject s's reading under condition j stands at s * k + j. The conditions' means are ms.
use Rattle.std.specs.Prelude.{ℕ, ◌+◌, ◌*◌, ◌-◌, List, Float, set, replicate}
use Rattle.base.specs.Loop.{loop}
use Rattle.float.specs.Words.{◌⊕◌, ◌⊖◌, ◌⊗◌, ◌⊘◌, count, plus_zero}
use Rattle.matrix_places.specs.Places.{at}

-- `sum += (subject[i] - condition_means[i]) * (subject[j] - condition_means[j])`
abbrev pub cov_step : List Float → List Float → ℕ → ℕ → ℕ → ℕ → Float → Float
cov_step xs ms k i j s t = t ⊕ (at xs (s * k + i) ⊖ at ms i) ⊗ (at xs (s * k + j) ⊖ at ms j)

-- over all subjects, from +0.0
unfoldable pub cov_sum : ℕ → ℕ → List Float → List Float → ℕ → ℕ → Float
cov_sum n k xs ms i j = loop 0 n (cov_step xs ms k i j) plus_zero

-- `sum / (n - 1) as f64`
unfoldable pub covariance : ℕ → ℕ → List Float → List Float → ℕ → ℕ → Float
covariance n k xs ms i j = cov_sum n k xs ms i j ⊘ count (n - 1)

-- `cov_matrix[i][j]`
abbrev pub cov_at : ℕ → ℕ → List Float → List Float → ℕ → ℕ → List Float → List Float
cov_at n k xs ms i j out = set out (i * k + j) (covariance n k xs ms i j)

-- row i, of k places
unfoldable pub cov_row : ℕ → ℕ → List Float → List Float → ℕ → List Float → List Float
cov_row n k xs ms i out = loop 0 k (cov_at n k xs ms i) out

-- k such rows
unfoldable pub cov_rows : ℕ → ℕ → List Float → List Float → List Float → List Float
cov_rows n k xs ms out = loop 0 k (cov_row n k xs ms) out

-- room for 12 rows of 12 places
unfoldable pub no_covariances : List Float
no_covariances = replicate 144 plus_zero

-- the matrix, row after row
unfoldable pub cov_matrix : ℕ → ℕ → List Float → List Float → List Float
cov_matrix n k xs ms = cov_rows n k xs ms no_covariances
