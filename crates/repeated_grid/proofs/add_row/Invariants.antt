use Prim.Native.Nat.{◌≤◌, ◌-◌}
use mathlib.Core.Path.{◌≡◌}
use lib.ListN.{length}
use Rattle.base.specs.Loop.{loop}
use Rattle.repeated_grid.specs.Inner.{add_at, row_added}
use Rattle.repeated_grid.proofs.add_row.Given as goal

abbrev pub invariant-loop-j : goal.invariant-loop-j
invariant-loop-j l = (l.j ≤ length l.row) × ((length l.sums ≡ length l.initial.sums) × (loop l.j (length l.row) (add_at l.row) l.sums ≡ row_added l.row l.initial.sums))

abbrev pub decreases-loop-j : goal.decreases-loop-j
decreases-loop-j l = length l.row - l.j
