-- The columns' steps keep the memory's length, so the last two steps find their places; those make NaNs canonical and change no value. With so few rows no product of sizes wraps.
use Rattle.matrix_linear.proofs.Calls.{determinant_taken}
use Rattle.matrix_linear.proofs.matrix_determinant.Goals as goal

pub returns : goal.returns
returns c =
    determinant_taken _ _ c.if-n-gt-MOST_ROWS.false c.if-m-n.false c.det_of-d.ensures c.canon_places.ensures c.canon.ensures
