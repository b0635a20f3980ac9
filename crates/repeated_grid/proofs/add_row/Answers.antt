-- Place after place gets its reading added.
use mathlib.Core.Path.{refl}
use native.Mathlib.Omega.{arith}
use lib.ListN.{length-set}
use Rattle.base.proofs.Loops.{step}
use Rattle.repeated_grid.proofs.add_row.Goals as goal

pub loop-j-preserved : goal.loop-j-preserved
loop-j-preserved c = (omega arith, (rw length-set c.loop-j.invariant.1.0, step _ _ _ _ _ _ c.loop-j.invariant.1.1 c.loop-j-test.true refl))
