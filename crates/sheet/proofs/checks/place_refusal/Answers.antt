-- Behind check 13 a group that is not there has the size 0 in the definition, so both tests are its one.
use Rattle.std.proofs.Common.{arith}
use Rattle.base.proofs.Order.{was_passed}
use Rattle.oneway_rows.proofs.Counted.{sound}
use Rattle.sheet.proofs.checks.place_refusal.Goals as goal

pub offset_bounds-sheet-group : goal.offset_bounds-sheet-group
offset_bounds-sheet-group c = omega (arith, sound _ _ (was_passed _ _ c.rows_refusal.ensures c.in_ok-rows_refusal.was))

pub bounds-sheet-group : goal.bounds-sheet-group
bounds-sheet-group c = omega (arith, sound _ _ (was_passed _ _ c.rows_refusal.ensures c.in_ok-rows_refusal.was))
