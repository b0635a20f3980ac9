-- Group after group gets its distances where those before it end, and its row from where they were put.
use Rattle.std.proofs.Common.{arith}
use lib.ListN.{length-set}
use Rattle.oneway.proofs.Distances.{left_turn, putting_kept, putting_turn, putting_done, rowing_turn, rowing_done}
use Rattle.oneway.proofs.levene.put_distances.Goals as goal

pub loop-g-preserved : goal.loop-g-preserved
loop-g-preserved c =
    let i = c.loop-g.invariant in
    let t = left_turn c.args.rows.now c.args.readings.now c.loop-g.g c.loop-g.at c.loop-g-test.true in (
      omega (arith, i.0, t),
      putting_kept _ _ _ _ c.loop-g-test.true (omega (arith, i.0, t)) _ i.1 c.put_group.ensures,
      rw length-set i.2,
      putting_turn _ _ _ _ c.loop-g-test.true (omega (arith, i.0, t)) _ i.1 c.put_group.ensures i.3,
      rowing_turn _ _ _ _ c.loop-g-test.true (omega (arith, i.0, t)) _ i.1 c.put_group.ensures _ i.4 c.of.ensures,
    )

pub returns-clause-out : goal.returns-clause-out
returns-clause-out c = putting_done c.args.rows.now c.args.readings.now c.loop-g.g c.loop-g.at c.loop-g.out c.loop-g.invariant.3 c.loop-g-test.false

pub returns-clause-far : goal.returns-clause-far
returns-clause-far c = rowing_done c.args.rows.now c.args.readings.now c.loop-g.g c.loop-g.at c.loop-g.far c.loop-g.invariant.4 c.loop-g-test.false
