-- The covariance of the conditions, seen through orthonormal differences of neighbours: C S C'.
use Rattle.std.specs.Prelude.{ℕ, ◌+◌, ◌*◌, ◌-◌, Bool, false, cond, ◌&&◌, List, eqb, leb, Float, length, set}
use Rattle.std.specs.Float.Ieee.{neg}
use Rattle.base.specs.Limits.{most_subjects, most_conditions}
use Rattle.base.specs.Loop.{loop}
use Rattle.float.specs.Words.{one}
use Rattle.matrix_orthonormal.specs.Orthonormal.{orthonormalize}
use Rattle.matrix_product.specs.Product.{blank, matrix_multiply_csc}
use Rattle.repeated_contrasts.specs.Covariance.{cov_matrix}

-- `c[i][i] = 1.0; c[i][i + 1] = -1.0`: condition i less the next one
unfoldable pub contrast_row : ℕ → ℕ → List Float → List Float
contrast_row k i c = set (set c (i * k + i) one) (i * k + (i + 1)) (neg one)

-- one row less than conditions
unfoldable pub contrast_rows : ℕ → List Float → List Float
contrast_rows k c = loop 0 (k - 1) (contrast_row k) c

-- the k - 1 differences of neighbours, +0.0 in all other places
unfoldable pub contrasts : ℕ → List Float
contrasts k = contrast_rows k blank

-- the same, orthonormal
unfoldable pub orthonormal_contrasts : ℕ → List Float
orthonormal_contrasts k = (orthonormalize (k - 1) k (contrasts k)).0

-- C S C' to the first places of out
unfoldable pub through_contrasts : ℕ → ℕ → List Float → List Float → List Float → List Float × Bool
through_contrasts n k xs ms out = matrix_multiply_csc (k - 1) k (orthonormal_contrasts k) (cov_matrix n k xs ms) out

-- the sizes that are taken: 2 to 64 subjects, 2 to 12 conditions, a reading for each of both, a mean for each condition, and room
unfoldable pub fits : ℕ → ℕ → ℕ → ℕ → ℕ → Bool
fits n k readings means room =
    leb 2 n && (leb n most_subjects && (leb 2 k && (leb k most_conditions
    && (eqb readings (n * k) && (leb k means && leb ((k - 1) * (k - 1)) room)))))

-- the memory after the call, and whether the sizes were taken
unfoldable pub contrast_covariance : ℕ → ℕ → List Float → List Float → List Float → List Float × Bool
contrast_covariance n k xs ms out = cond (fits n k (length xs) (length ms) (length out)) (through_contrasts n k xs ms out) (out, false)
