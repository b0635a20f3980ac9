-- The matrices keep their room: each step sets places and leaves as many as there were.
use Prim.Native.Nat.{ℕ, ◌+◌, ◌*◌, ◌-◌}
use mathlib.Core.Path.{◌≡◌, ◌∙◌}
use mathlib.Core.List.{List}
use lib.Ieee.{Float}
use lib.ListN.{length, set, length-set}
use Rattle.base.proofs.Loops.{loop_length}
use Rattle.matrix_orthonormal.proofs.Lengths.{orthonormalize_length}
use Rattle.matrix_product.specs.Product.{blank}
use Rattle.repeated_contrasts.specs.Covariance.{cov_at, cov_row, cov_rows, no_covariances, cov_matrix}
use Rattle.repeated_contrasts.specs.Contrasts.{contrast_row, contrast_rows, contrasts, orthonormal_contrasts}

cov_row_length : (n k : ℕ) (xs ms : List Float) (i : ℕ) (out : List Float) → length (cov_row n k xs ms i out) ≡ length out
unfolding cov_row
cov_row_length n k xs ms i out = loop_length 0 k (cov_at n k xs ms i) (λ j m. length-set m _ _) out

pub matrix_length : (n k : ℕ) (xs ms : List Float) → length (cov_matrix n k xs ms) ≡ 144
unfolding cov_matrix cov_rows no_covariances
matrix_length n k xs ms = loop_length 0 k (cov_row n k xs ms) (cov_row_length n k xs ms) no_covariances

contrast_length : (k i : ℕ) (c : List Float) → length (contrast_row k i c) ≡ length c
unfolding contrast_row
contrast_length k i c = length-set (set c (i * k + i) _) _ _ ∙ length-set c (i * k + i) _

contrasts_length : (k : ℕ) → length (contrasts k) ≡ 132
unfolding contrasts contrast_rows blank
contrasts_length k = loop_length 0 (k - 1) (contrast_row k) (contrast_length k) blank

pub orthonormal_length : (k : ℕ) → length (orthonormal_contrasts k) ≡ 132
unfolding orthonormal_contrasts
orthonormal_length k = orthonormalize_length (k - 1) k (contrasts k) ∙ contrasts_length k
