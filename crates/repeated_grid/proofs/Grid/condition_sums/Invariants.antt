use Rattle.std.proofs.Common.{length, ◌≡◌}
use Rattle.base.specs.Loop.{loop}
use Rattle.repeated_grid.specs.Inner.{row_step, column_sums}
use Rattle.repeated_grid.proofs.Grid.condition_sums.Given as goal

abbrev pub invariant-loop-i : goal.invariant-loop-i
invariant-loop-i l = (length l.sums ≡ 12) × (loop l.i l.self.n (row_step l.self.readings.now l.self.k) l.sums ≡ column_sums l.self.readings.now l.self.n l.self.k)
