-- Place after place is filled with the mean of its row.
use Rattle.std.proofs.Common.{ap, ◌∙◌, slice_set}
use lib.ListN.{length-set}
use lib.Ieee.{Float}
use Rattle.base.proofs.Loops.{step}
use Rattle.repeated_grid.proofs.Grid.subject_means.Goals as goal

pub loop-i-preserved : goal.loop-i-preserved
loop-i-preserved c =
    (length-set _ _ _ ∙ c.loop-i.invariant.0, step _ _ _ _ _ _ c.loop-i.invariant.1 c.loop-i-test.true (ap (λ (x : Float). slice_set c.loop-i.out c.loop-i.i x) (rw (c.canon.ensures, c.sum.ensures, c.row.ensures))))
