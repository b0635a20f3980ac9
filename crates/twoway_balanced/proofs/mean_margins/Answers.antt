-- Place after place is filled with the mean of its level.
use native.Mathlib.Omega.{arith}
use lib.ListN.{length-set}
use Rattle.twoway_balanced.specs.Squares.{mean_margins}
use Rattle.base.proofs.Loops.{step}
use Rattle.twoway_balanced.proofs.mean_margins.Goals as goal

pub loop-i-preserved : goal.loop-i-preserved
unfolding mean_margins
loop-i-preserved c =
    (omega arith, (rw length-set c.loop-i.invariant.1.0, step _ _ _ _ _ _ c.loop-i.invariant.1.1 c.loop-i-test.true (rw c.mean_line.ensures)))
