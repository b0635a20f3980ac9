use Prim.Native.Nat.{◌≤◌, ◌-◌, ◌*◌}
use mathlib.Core.Path.{◌≡◌}
use lib.ListN.{length}
use Rattle.matrix_linear.specs.Inverse.{unit_row, unit}
use Rattle.base.specs.Loop.{loop}
use Rattle.matrix_linear.proofs.inverse.unit.Given as goal

abbrev pub invariant-loop-i : goal.invariant-loop-i
invariant-loop-i l = (l.n * (2 * l.n) ≤ length l.m) × ((length l.m ≡ length l.initial.m) × (loop l.i l.n (unit_row l.n) l.m ≡ unit l.n l.initial.m))

abbrev pub decreases-loop-i : goal.decreases-loop-i
decreases-loop-i l = l.n - l.i
