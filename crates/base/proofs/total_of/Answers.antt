-- The walk ends at n or behind the last size, and either way no size of the first n is left.
use Rattle.std.proofs.Common.{arith}
use lib.ListN.{length-take}
use lib.Seq.{get_or-take}
use Rattle.base.proofs.Sizes.{total_next}
use Rattle.base.proofs.total_of.Goals as goal

pub loop-size-preserved : goal.loop-size-preserved
loop-size-preserved c =
    let i = c.loop-size.size-index in
    let h = rw length-take at c.loop-size-test.true in
    let here = get_or-take c.min-k.result c.args.sizes.now i 0 (omega (arith, h)) in
    (omega (arith, here, c.type_inv.sizes i, c.loop-size.invariant.0), omega (arith, here, c.loop-size.invariant.1, total_next c.args.sizes.now i (omega (arith, h))))
