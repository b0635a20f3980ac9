-- Sum after sum gets its product.
use lib.ListN.{length-set}
use Rattle.base.proofs.Loops.{step}
use lib.Ieee.{nan}
use Rattle.twoway_normal.proofs.Heads.{part_here}
use Rattle.twoway_normal.proofs.normal.add_value.Goals as goal

pub loop-j-preserved : goal.loop-j-preserved
loop-j-preserved c =
    let h = part_here c.args.q c.args.p c.args.rows.now c.requires.0 nan c.loop-j-test.true in
    (simp length-set c.loop-j.invariant.0, step _ _ _ _ _ _ c.loop-j.invariant.1 h.0 (rw (c.product.ensures, h.1)))
