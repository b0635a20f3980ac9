-- Q and R are made in places of +0.0, `zeros`, which are at least n * n; so the product fits, and is the plain one (`product_room`).
use native.Mathlib.Omega.{arith}
use Rattle.matrix_eigen.specs.Values.{zeros}
use Rattle.matrix_eigen.proofs.Squares.{square_fits}
use Rattle.matrix_eigen.proofs.Steps.{round_done}
use Rattle.matrix_product.proofs.Fits.{product_room}
use Rattle.base.proofs.Bounds.{product_le}
use Rattle.matrix_places.specs.Places.{most_contrasts}
use Rattle.matrix_eigen.proofs.values.round.Goals as goal

pub returns : goal.returns
unfolding zeros
returns c =
    let h = product_le most_contrasts most_contrasts c.requires.1.0 c.requires.1.0 in
    round_done _ _ c.qr_columns.ensures
    (product_room _ _ _ _ _ _ _ _ (square_fits _ _ _ _ c.requires.0 c.requires.1.0 (omega (arith, h)) (omega (arith, h)) (omega arith)) c.product.ensures)
