-- Each step keeps the memory's length, so the next finds its rows. With so few rows no product of sizes wraps. The last step makes NaNs canonical and changes no value.
use Rattle.matrix_linear.proofs.Calls.{inverse_taken}
use Rattle.matrix_linear.specs.Inverse.{full_column, reduced}
use Rattle.matrix_linear.proofs.matrix_inverse.Goals as goal

pub returns : goal.returns
unfolding full_column reduced
returns c =
    inverse_taken _ _ c.if-n-gt-MOST_ROWS.false c.if-m-n.false c.unit.ensures c.columns-skipped.ensures c.canon_places.ensures
