-- Place after place is filled with the reading of its eight bytes.
use Rattle.std.proofs.Common.{length, ◌≤◌, ◌/◌, ap, ◌∙◌, arith}
use mathlib.Core.List.{[]}
use lib.ListN.{length-set}
use Rattle.base.specs.Lists.{words}
use Rattle.base.proofs.Fills.{fill_step}
use Rattle.base.proofs.Words.{length_words}
use Rattle.float.specs.Words.{bits}
use Rattle.set.specs.Bytes.{reading}
use Rattle.set.proofs.Littles.{among, eight_read}
use Rattle.set.proofs.readings_in.Goals as goal

pub loop-i-preserved : goal.loop-i-preserved
loop-i-preserved c =
    let few : c.args.n ≤ length c.args.bytes.now / 8 = omega (arith, c.requires.1) in
    let e = eight_read _ c.args.n c.args.bytes.now c.as_chunks.ensures.front few c.requires.1 c.loop-i.i c.loop-i-test.true _ c.from_le_bytes.ensures in
    let h = among 8 _ c.args.n c.args.bytes.now c.as_chunks.ensures.front few c.loop-i.i c.loop-i-test.true in
    (rw length-set c.loop-i.invariant.0, fill_step reading (words 8 c.args.n c.args.bytes.now) [] c.loop-i.readings c.loop-i.i _ c.loop-i.invariant.1 (rw length_words h) (c.float_of.ensures ∙ ap bits e))
