-- Row after row gets its sum in the last place. To make a NaN canonical changes no value.
use borrow.Author.Rules.{rules}
use Rattle.base.proofs.Loops.{step}
use lib.Ieee.{nan}
use Rattle.twoway_normal.proofs.Heads.{first_here}
use Rattle.twoway_normal.proofs.normal.put_column.Goals as goal

pub loop-j-preserved : goal.loop-j-preserved
loop-j-preserved c =
    let h = first_here _ c.args.sums.now c.requires.0 nan c.loop-j-test.true in
    (search rules, step _ _ _ _ _ _ c.loop-j.invariant.1 h.0 (rw (c.canon.ensures, h.1)))
