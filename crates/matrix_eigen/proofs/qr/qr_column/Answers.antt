-- The column is copied into places of +0.0, `blank_column`, which are at least n, and goes through the definition's three steps.
use Rattle.matrix_eigen.specs.Qr.{blank_column}
use Rattle.matrix_eigen.proofs.Steps.{column_done}
use Rattle.matrix_eigen.proofs.qr.qr_column.Goals as goal

pub returns : goal.returns
unfolding blank_column
returns c =
    column_done _ _ _ _ _ c.take_column.ensures c.projections.ensures c.normalize.ensures
