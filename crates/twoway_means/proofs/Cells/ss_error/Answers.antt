-- Cell after cell is added, with its mean.
use mathlib.Core.Path.{◌≡◌}
use native.Mathlib.Omega.{arith}
use lib.Ieee.{nan}
use lib.ListN.{length, take}
use lib.Seq.{length-take-le, get_or-take}
use Rattle.base.proofs.Loops.{step}
use Rattle.twoway_means.specs.Table.{ss_error}
use Rattle.twoway_means.proofs.Places.{as_many}
use Rattle.twoway_means.proofs.Cells.ss_error.Goals as goal

pub loop-c-preserved : goal.loop-c-preserved
unfolding ss_error
loop-c-preserved c =
    let n = length c.self.inside.counts.now in
    let long : length (take n c.args.means.now) ≡ n = length-take-le n c.args.means.now (omega (arith, c.self.invariant.few)) in
    let m = as_many _ c.self.inside.starts _ c.self.view_is in
    step _ _ _ _ _ _ c.loop-c.invariant (omega (arith, m, long)) (rw (c.add_squares-t.ensures, c.cell.ensures.0, get_or-take n c.args.means.now c.loop-c.c nan (omega (arith, long))))
