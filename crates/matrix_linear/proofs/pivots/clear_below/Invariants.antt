use Prim.Native.Nat.{◌≤◌, ◌-◌, ◌*◌}
use mathlib.Core.Path.{◌≡◌}
use lib.ListN.{length}
use Rattle.matrix_linear.specs.Rows.{clear_row, clear_below}
use Rattle.base.specs.Loop.{loop}
use Rattle.matrix_linear.proofs.pivots.clear_below.Given as goal

abbrev pub invariant-loop-r : goal.invariant-loop-r
invariant-loop-r l = (l.n * l.w ≤ length l.m) × ((length l.m ≡ length l.initial.m) × (loop l.r l.n (clear_row l.w l.col) l.m ≡ clear_below l.n l.w l.col l.initial.m))

abbrev pub decreases-loop-r : goal.decreases-loop-r
decreases-loop-r l = l.n - l.r
