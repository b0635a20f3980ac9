-- Place after place of row j gets its product added.
use lib.Ieee.{nan}
use lib.ListN.{length-set}
use Rattle.base.proofs.Loops.{step}
use Rattle.twoway_normal.proofs.Heads.{first_here}
use Rattle.twoway_normal.proofs.normal.add_row.Goals as goal

pub loop-k-preserved : goal.loop-k-preserved
loop-k-preserved c =
    let h = first_here _ c.args.x.now c.requires.1 nan c.loop-k-test.true in
    (simp length-set c.loop-k.invariant.0, step _ _ _ _ _ _ c.loop-k.invariant.1 h.0 (rw h.1))
