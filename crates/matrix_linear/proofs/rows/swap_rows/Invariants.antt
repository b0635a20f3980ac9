use Prim.Native.Nat.{◌-◌, ◌*◌}
use mathlib.Core.Path.{◌≡◌}
use lib.ListN.{length}
use Rattle.matrix_linear.specs.Rows.{swap_at, swap_rows}
use Rattle.base.specs.Loop.{loop}
use Rattle.matrix_linear.proofs.rows.swap_rows.Given as goal

abbrev pub invariant-loop-j : goal.invariant-loop-j
invariant-loop-j l = (length l.m ≡ length l.initial.m) × (loop l.j l.w (swap_at (l.a * l.w) (l.b * l.w)) l.m ≡ swap_rows l.w l.a l.b l.initial.m)

abbrev pub decreases-loop-j : goal.decreases-loop-j
decreases-loop-j l = l.w - l.j
