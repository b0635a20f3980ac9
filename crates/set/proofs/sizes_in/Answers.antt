-- Place after place is filled with the number of its two bytes, and the numbers are added up beside them: 16 of them do not wrap.
use Rattle.std.proofs.Common.{◌≡◌, length, ◌≤◌, ◌/◌, arith}
use mathlib.Core.List.{[], map}
use lib.ListN.{length-set, length-map}
use Rattle.base.specs.Lists as Lists
use Rattle.base.specs.Lists.{words}
use Rattle.base.proofs.Cuts.{total_done}
use Rattle.base.proofs.Fills.{fill_step, fill_ends}
use Rattle.base.proofs.Words.{length_words}
use Rattle.set.specs.Bytes.{little}
use Rattle.set.proofs.Littles.{chunks_are, among, pair_read, numbers_turn}
use Rattle.set.proofs.sizes_in.Goals as goal

pub loop-g-preserved : goal.loop-g-preserved
loop-g-preserved c =
    let few : c.args.k ≤ length c.args.bytes.now / 2 = omega (arith, c.requires.1) in
    let e = pair_read _ c.args.k c.args.bytes.now c.as_chunks.ensures.front few c.requires.1 c.loop-g.g c.loop-g-test.true _ c.from_le_bytes-n.ensures in
    let h = among 2 _ c.args.k c.args.bytes.now c.as_chunks.ensures.front few c.loop-g.g c.loop-g-test.true in (
      rw length-set c.loop-g.invariant.0,
      omega (arith, c.loop-g.invariant.1),
      omega (arith, e, c.loop-g.invariant.2, numbers_turn 2 c.args.k c.args.bytes.now c.loop-g.g h),
      fill_step little (words 2 c.args.k c.args.bytes.now) [] c.loop-g.sizes c.loop-g.g _ c.loop-g.invariant.3 (rw length_words h) e,
    )

pub returns : goal.returns
returns c =
    let few : c.args.k ≤ length c.args.bytes.now / 2 = omega (arith, c.requires.1) in
    let ws = words 2 c.args.k c.args.bytes.now in
    let all = rw (chunks_are 2 _ c.args.k c.args.bytes.now c.as_chunks.ensures.front few) at c.loop-g-test.false in
    let t : c.loop-g.total ≡ Lists.total (map little ws) = omega (arith, c.loop-g.invariant.2, total_done (map little ws) c.loop-g.g (rw length-map all)) in
    rw (t, fill_ends little ws c.loop-g.sizes c.loop-g.g c.loop-g.invariant.3 all)
