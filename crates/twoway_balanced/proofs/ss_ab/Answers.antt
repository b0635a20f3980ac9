-- Row after row is added to one running sum.
use Rattle.std.proofs.Common.{arith}
use lib.Ieee.{nan}
use lib.Seq.{length-take-le, get_or-take}
use Rattle.twoway_balanced.specs.Squares.{ss_ab}
use Rattle.base.proofs.Loops.{step}
use Rattle.twoway_balanced.proofs.ss_ab.Goals as goal

pub loop-i-preserved : goal.loop-i-preserved
unfolding ss_ab
loop-i-preserved c =
    let long = length-take-le c.args.a c.args.means_a.now (omega (arith, c.requires.0, c.told-means_a)) in
    let h = rw long at c.loop-i-test.true in
    step _ _ _ _ _ _ c.loop-i.invariant h (rw (c.ab_row-t.ensures, get_or-take c.args.a c.args.means_a.now c.loop-i.i nan h))
