-- Worked numbers: the subjects {1, 3} and {5, 9}, with the means 3 and 6.
use Rattle.std.specs.Prelude.{◌≡◌, refl, true, false, List, [], ◌∷◌, Float}
use Rattle.std.specs.Float.Ieee.{add, sub, mul, div, neg, lt, of_bits, to_bits, of_int}
use Rattle.base.specs.Loop.{loop, turns}
use Rattle.float.specs.Words.{count, bits, plus_zero}
use Rattle.root.specs.Root.{isqrt, significand, exponent, radicand, root_bits, sqrt_of}
use Rattle.matrix_places.specs.Places.{refuses, dot, less_row, over_row}
use Rattle.matrix_orthonormal.specs.Orthonormal.{project_row, project_rows, normalize_row, orthonormal_row, orthonormal_rows, orthonormalize}
use Rattle.matrix_product.specs.Product.{product_row, product, blank, csc, matrix_multiply_csc}
use Rattle.repeated_contrasts.specs.Covariance.{cov_sum, covariance, cov_row, cov_rows, no_covariances, cov_matrix}
use Rattle.repeated_contrasts.specs.Contrasts.{contrast_row, contrast_rows, contrasts, orthonormal_contrasts, through_contrasts, fits, contrast_covariance}

abbrev xs : List Float
xs = count 1 ∷ count 3 ∷ count 5 ∷ count 9 ∷ []

abbrev ms : List Float
ms = count 3 ∷ count 6 ∷ []

-- the variances are 8 and 18, the covariance is 12
covariances_worked : (covariance 2 2 xs ms 0 0 ≡ count 8) × (covariance 2 2 xs ms 1 1 ≡ count 18) × (covariance 2 2 xs ms 0 1 ≡ count 12) × (covariance 2 2 xs ms 1 0 ≡ count 12)
unfolding covariance cov_sum loop turns add sub mul div of_bits of_int
covariances_worked = (refl, refl, refl, refl)

-- half of 8 - 2 * 12 + 18 is 1; rounded on the way it becomes 1.0000000000000004
contrast_worked : contrast_covariance 2 2 xs ms (plus_zero ∷ []) ≡ (bits 0x3FF0000000000002 ∷ [], true)
unfolding contrast_covariance fits through_contrasts orthonormal_contrasts contrasts contrast_rows contrast_row cov_matrix cov_rows cov_row no_covariances covariance cov_sum matrix_multiply_csc csc product product_row blank orthonormalize orthonormal_rows orthonormal_row normalize_row project_rows project_row over_row less_row refuses dot sqrt_of root_bits radicand significand exponent isqrt loop turns add sub mul div neg lt of_bits to_bits of_int
contrast_worked = refl

-- one subject, one condition, a reading too few, no room
refused_worked : (contrast_covariance 1 2 (count 1 ∷ count 3 ∷ []) ms (plus_zero ∷ []) ≡ (plus_zero ∷ [], false))
    × (contrast_covariance 2 1 ms ms (plus_zero ∷ []) ≡ (plus_zero ∷ [], false))
    × (contrast_covariance 2 2 (count 1 ∷ count 3 ∷ count 5 ∷ []) ms (plus_zero ∷ []) ≡ (plus_zero ∷ [], false))
    × (contrast_covariance 2 2 xs ms [] ≡ ([], false))
unfolding contrast_covariance fits
refused_worked = (refl, refl, refl, refl)
