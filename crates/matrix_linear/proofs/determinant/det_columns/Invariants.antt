use Prim.Native.Nat.{◌≤◌, ◌-◌, ◌*◌}
use mathlib.Core.Path.{◌≡◌}
use lib.ListN.{length}
use Rattle.matrix_linear.specs.Determinant.{det_column, det_columns}
use Rattle.base.specs.Loop.{loop}
use Rattle.matrix_linear.proofs.determinant.det_columns.Given as goal

abbrev pub invariant-loop-col : goal.invariant-loop-col
invariant-loop-col l = (l.n * l.n ≤ length l.m) × ((length l.m ≡ length l.initial.m) × (loop l.col l.n (det_column l.n) (l.m, l.s) ≡ det_columns l.n l.initial.m))

abbrev pub decreases-loop-col : goal.decreases-loop-col
decreases-loop-col l = l.n - l.col
