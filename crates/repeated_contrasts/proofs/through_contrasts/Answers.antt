-- The covariance and the contrasts are filled in blank memory of their own, and the sizes are those that the matrix calls take.
use Rattle.repeated_contrasts.specs.Covariance.{no_covariances}
use Rattle.repeated_contrasts.proofs.Calls.{seen_through}
use Rattle.matrix_product.specs.Product.{blank}
use Rattle.repeated_contrasts.proofs.through_contrasts.Goals as goal

pub returns : goal.returns
unfolding blank no_covariances
returns c = seen_through _ _ _ _ _ c.cov_rows.ensures c.contrast_rows.ensures c.orthonormalize.ensures c.matrix_multiply_csc.ensures
