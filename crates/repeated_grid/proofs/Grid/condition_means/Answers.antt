-- The walk over the rows leaves in place j the sum over condition j (`column_sum`); each is divided by n.
use Rattle.std.proofs.Common.{ap, ◌∙◌, slice_set}
use lib.ListN.{length-set}
use lib.Ieee.{Float}
use Rattle.base.proofs.Loops.{step}
use Rattle.repeated_grid.proofs.Columns.{column_sum}
use Rattle.repeated_grid.proofs.Rows.{fitting}
use Rattle.repeated_grid.proofs.Grid.condition_means.Goals as goal

pub loop-j-preserved : goal.loop-j-preserved
loop-j-preserved c =
    let sum = column_sum _ _ _ (fitting c.args.self.now) _ c.loop-j-test.true in
    (length-set _ _ _ ∙ c.loop-j.invariant.0, step _ _ _ _ _ _ c.loop-j.invariant.1 c.loop-j-test.true (ap (λ (x : Float). slice_set c.loop-j.out c.loop-j.j x) (rw (c.canon.ensures, c.condition_sums-sums.ensures, sum))))
