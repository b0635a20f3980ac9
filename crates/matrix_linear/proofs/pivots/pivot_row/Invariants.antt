use Prim.Native.Nat.{◌<◌, ◌-◌}
use mathlib.Core.Path.{◌≡◌}
use Rattle.matrix_linear.specs.Rows.{better, pivot_row}
use Rattle.base.specs.Loop.{loop}
use Rattle.matrix_linear.proofs.pivots.pivot_row.Given as goal

abbrev pub invariant-loop-r : goal.invariant-loop-r
invariant-loop-r l = (l.best < l.n) × (loop l.r l.n (better l.m l.w l.col) l.best ≡ pivot_row l.n l.w l.col l.m)

abbrev pub decreases-loop-r : goal.decreases-loop-r
decreases-loop-r l = l.n - l.r
