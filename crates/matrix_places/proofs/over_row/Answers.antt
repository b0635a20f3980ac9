-- Where the test does not find the memory too short, the row ends within it, and each turn keeps its length: what is left of the row gives the whole.
use native.Mathlib.Omega.{arith}
use lib.ListN.{length-set}
use Rattle.matrix_places.proofs.Rows.{over_turn}
use Rattle.matrix_places.proofs.over_row.Goals as goal

pub loop-j-preserved : goal.loop-j-preserved
loop-j-preserved c =
    (simp length-set (omega arith), (simp length-set (omega arith), over_turn _ _ _ _ _ c.loop-j.invariant.1.1 c.loop-j-test.true c.canon.ensures))
