-- Place after place is filled with the mean of its level, whose cells lie in a line of the table.
use Rattle.std.proofs.Common.{◌∙◌, ap}
use lib.Ieee.{Float}
use lib.ListN.{length-set, set}
use Rattle.base.specs.Lists.{listed}
use Rattle.base.proofs.Loops.{step}
use Rattle.twoway_means.specs.Table.{margins}
use Rattle.twoway_means.proofs.Cells.margins.Goals as goal

pub loop-i-preserved : goal.loop-i-preserved
unfolding margins listed
loop-i-preserved c =
    (rw length-set c.loop-i.invariant.0, step _ _ _ _ _ _ c.loop-i.invariant.1 c.loop-i-test.true (ap (λ (x : Float). set c.loop-i.out c.loop-i.i x) (c.canon.ensures ∙ rw c.line-t.ensures)))
