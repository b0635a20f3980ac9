-- Group after group of what is left has its row put in its place (`laid_turn`). `split_at` ends where the readings do, as `take` and `drop` do.
use Rattle.std.proofs.Common.{refl, length, ◌∙◌, arith}
use lib.ListN.{length-set, length-take}
use Rattle.std.proofs.lemmas.List.{take_min, drop_min}
use Rattle.oneway_rows.specs.Rows.{row_answer, rows_put}
use Rattle.oneway_rows.proofs.Laid.{laid_start, laid_turn}
use Rattle.oneway_rows.proofs.put_rows.Goals as goal

pub loop-g-init : goal.loop-g-init
unfolding rows_put
loop-g-init c =
    let fits = length-take (length c.args.out.now) c.args.sizes.now in
    (refl, rw (c.min-k.ensures, take_min) (laid_start row_answer _ c.args.readings.now c.args.out.now (omega (arith, fits))))

pub loop-g-preserved : goal.loop-g-preserved
loop-g-preserved c = (
  rw length-set c.loop-g.invariant.0,
  rw (c.split_at.ensures.back, c.min.ensures, drop_min) (laid_turn row_answer _ c.loop-g.g c.loop-g.rest.now c.loop-g.out c.loop-g.invariant.1 c.loop-g-test.true (c.of.ensures ∙ rw (c.split_at.ensures.front, c.min.ensures, take_min))),
)
