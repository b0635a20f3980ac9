-- Where neither test finds the memory too short, both rows end within it, and each turn keeps its length: what is left of the row gives the whole.
use native.Mathlib.Omega.{arith}
use lib.ListN.{length-set}
use Rattle.matrix_places.proofs.Rows.{less_turn}
use Rattle.matrix_places.proofs.less_row.Goals as goal

pub loop-j-preserved : goal.loop-j-preserved
loop-j-preserved c =
    let turn = less_turn _ _ _ _ _ _ c.loop-j.invariant.1.1.1 c.loop-j-test.true c.canon.ensures in
    (simp length-set (omega arith), (simp length-set (omega arith), (simp length-set (omega arith), turn)))
