-- Each step keeps the memory's length, so the next finds its rows. With so few rows no product of sizes wraps. The last step makes NaNs canonical and changes no value.
use Rattle.matrix_linear.proofs.Calls.{solve_taken}
use Rattle.matrix_linear.specs.System.{column, cleared}
use Rattle.matrix_linear.proofs.solve_linear_system.Goals as goal

pub returns : goal.returns
unfolding column cleared
returns c =
    solve_taken _ _ c.if-n-gt-MOST_ROWS.false c.if-m-n.false c.columns-skipped.ensures c.backward.ensures c.canon_places.ensures
