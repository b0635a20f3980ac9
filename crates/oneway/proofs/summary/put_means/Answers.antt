-- Group after group of what is left has its row put in its place. Each group has 2 to 512 readings, so that `mean` answers (`told_rows`).
use Rattle.std.proofs.Common.{arith}
use lib.ListN.{length-set, length-drop}
use Rattle.base.proofs.Cuts.{total_turn}
use Rattle.oneway_rows.proofs.Laid.{laid_turn}
use Rattle.oneway.proofs.Summaries.{told_row, told_front}
use Rattle.oneway.proofs.summary.put_means.Goals as goal

pub loop-g-preserved : goal.loop-g-preserved
loop-g-preserved c =
    let t = total_turn c.args.sizes.now c.loop-g.g c.loop-g-test.true in (
      rw (c.split_at.ensures.back, length-drop) (omega (arith, c.loop-g.invariant.0, t)),
      rw length-set c.loop-g.invariant.1,
      rw c.split_at.ensures.back (laid_turn told_row _ c.loop-g.g c.loop-g.rest.now c.loop-g.out c.loop-g.invariant.2 c.loop-g-test.true (told_front c.loop-g.rest.now _ (omega (arith, c.loop-g.invariant.0, t)) c.split_at.ensures.front c.mean.ensures)),
    )
