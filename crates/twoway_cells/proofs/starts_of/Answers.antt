-- Each turn puts down the sum of the counts before cell c, so that what is left to put down, `sums`, gets shorter by one. A count over what 512 leaves ends the walk with zeros.
use Prim.Native.Nat.{◌+◌}
use mathlib.Core.Path.{◌≡◌, refl, ◌∙◌}
use native.Mathlib.Omega.{arith}
use lib.ListN.{length-set, take, get_or}
use Rattle.base.specs.Lists.{total}
use Rattle.base.proofs.Cuts.{total_split}
use Rattle.base.proofs.Sizes.{total_next}
use Rattle.twoway_cells.specs.Starts.{no_starts}
use Rattle.twoway_cells.proofs.Starts.{sums_start, sums_turn, too_long}
use Rattle.twoway_cells.proofs.starts_of.Goals as goal

pub loop-c-init : goal.loop-c-init
unfolding total no_starts
loop-c-init c = (refl, omega arith, refl, sums_start c.args.counts.now c.if-counts-gt-MOST_CELLS.false)

pub returns-then-at-n : goal.returns-then-at-n
unfolding no_starts
returns-then-at-n c =
    let next : (total (take (c.loop-c.c + 1) c.args.counts.now) ≡ total (take c.loop-c.c c.args.counts.now) + get_or c.args.counts.now c.loop-c.c 0) = total_next c.args.counts.now c.loop-c.c c.loop-c-test.true in
    too_long c.args.counts.now c.if-counts-gt-MOST_CELLS.false (omega (arith, next, total_split c.args.counts.now (c.loop-c.c + 1)))

pub loop-c-preserved : goal.loop-c-preserved
loop-c-preserved c =
    let next : (total (take (c.loop-c.c + 1) c.args.counts.now) ≡ total (take c.loop-c.c c.args.counts.now) + get_or c.args.counts.now c.loop-c.c 0) = total_next c.args.counts.now c.loop-c.c c.loop-c-test.true in
    (simp length-set c.loop-c.invariant.0, omega arith, omega (arith, next), sums_turn c.args.counts.now c.if-counts-gt-MOST_CELLS.false c.loop-c.starts c.loop-c.at c.loop-c.c c.loop-c.invariant.3 c.loop-c-test.true)
