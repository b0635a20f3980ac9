-- The three tests of room decide as the definition does, in its order; behind them each step finds the room that it asks for, and the last two, which make NaNs canonical, change no value.
use Rattle.matrix_eigen.proofs.Calls.{qr_taken}
use Rattle.matrix_eigen.proofs.qr_decomposition.Goals as goal

pub returns : goal.returns
returns c =
    qr_taken _ _ _ _
    c.refuses.ensures c.if-refuses.false c.refuses-else-refuses.ensures c.if-refuses-2.false c.refuses-else-refuses-2.ensures c.if-refuses-3.false
    c.wipe.ensures c.wipe-2.ensures c.qr_columns.ensures c.canon_places.ensures c.canon_places-2.ensures
