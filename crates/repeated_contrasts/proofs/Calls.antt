-- The ends of the calls, each from what the code worked out step by step.
use Prim.Native.Nat.{ℕ, ◌-◌}
use mathlib.Core.Path.{◌≡◌, ap, ◌∙◌}
use mathlib.Core.Bool.{Bool, true, false}
use mathlib.Core.List.{List}
use lib.ListN.{length}
use lib.Ieee.{Float}
use Rattle.matrix_orthonormal.specs.Orthonormal.{orthonormalize}
use Rattle.matrix_product.specs.Product.{blank, matrix_multiply_csc}
use Rattle.float.specs.Words.{◌⊘◌, count}
use Rattle.repeated_contrasts.specs.Covariance.{cov_sum, covariance, cov_rows, no_covariances, cov_matrix}
use Rattle.repeated_contrasts.specs.Contrasts.{contrast_rows, contrasts, orthonormal_contrasts, through_contrasts, fits, contrast_covariance}

-- c are the differences, d what `orthonormalize` leaves of them
made_orthonormal : (k : ℕ) {c d : List Float} {b : Bool} → c ≡ contrast_rows k blank → (d, b) ≡ orthonormalize (k - 1) k c → d ≡ orthonormal_contrasts k
unfolding orthonormal_contrasts contrasts
made_orthonormal k f g = ap (λ (p : List Float × Bool). p.0) g ∙ ap (λ (x : List Float). (orthonormalize (k - 1) k x).0) f

module _ (n k : ℕ) (xs ms : List Float) where
  -- t is the sum of the products
  pub covariance_done : (i j : ℕ) {t : Float} → t ≡ cov_sum n k xs ms i j → t ⊘ count (n - 1) ≡ covariance n k xs ms i j
  unfolding covariance
  covariance_done i j e = ap (λ (x : Float). x ⊘ count (n - 1)) e

  module _ (out : List Float) where
    -- s is the matrix, c the differences, d the same made orthonormal
    pub seen_through : {s c d y : List Float} {b r : Bool} → s ≡ cov_rows n k xs ms no_covariances → c ≡ contrast_rows k blank → (d, b) ≡ orthonormalize (k - 1) k c → (y, r) ≡ matrix_multiply_csc (k - 1) k d s out → (y, r) ≡ through_contrasts n k xs ms out
    unfolding through_contrasts cov_matrix
    seen_through {s = s} e f g h =
        h
        ∙ ap (λ (x : List Float). matrix_multiply_csc (k - 1) k x s out) (made_orthonormal k f g)
        ∙ ap (λ (x : List Float). matrix_multiply_csc (k - 1) k (orthonormal_contrasts k) x out) e

    module _ {b : Bool} (e : b ≡ fits n k (length xs) (length ms) (length out)) where
      pub fitting : {y : List Float} {r : Bool} → b ≡ true → (y, r) ≡ through_contrasts n k xs ms out → (y, r) ≡ contrast_covariance n k xs ms out
      unfolding contrast_covariance
      fitting h q = rw (← e, h) q

      pub not_fitting : b ≡ false → (out, false) ≡ contrast_covariance n k xs ms out
      unfolding contrast_covariance
      not_fitting h = rw (← e, h)
