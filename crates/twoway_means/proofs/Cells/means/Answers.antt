-- Place after place is filled with the mean of its cell; a cell has at most 512 readings, so its count is a double.
use Rattle.std.proofs.Common.{◌∙◌, ap, arith}
use lib.Ieee.{Float}
use lib.ListN.{length-set, set}
use Rattle.base.specs.Lists.{listed}
use Rattle.base.proofs.Loops.{step}
use Rattle.twoway_means.specs.Table.{cell_means}
use Rattle.twoway_means.proofs.Places.{as_many}
use Rattle.twoway_means.proofs.Cells.means.Goals as goal

pub loop-c-preserved : goal.loop-c-preserved
unfolding cell_means listed
loop-c-preserved c =
    (rw length-set c.loop-c.invariant.0, step _ _ _ _ _ _ c.loop-c.invariant.1 (omega (arith, c.loop-c-test.true, as_many _ c.self.inside.starts _ c.self.view_is)) (ap (λ (x : Float). set c.loop-c.out c.loop-c.c x) (c.canon.ensures ∙ rw (c.sum.ensures, c.cell-here.ensures.0))))
