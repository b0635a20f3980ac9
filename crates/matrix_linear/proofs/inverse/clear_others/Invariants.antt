use Prim.Native.Nat.{◌≤◌, ◌-◌, ◌+◌}
use mathlib.Core.Path.{◌≡◌}
use lib.ListN.{length}
use Rattle.matrix_linear.specs.Inverse.{clear_other, clear_others}
use Rattle.base.specs.Loop.{loop}
use Rattle.matrix_linear.proofs.inverse.clear_others.Given as goal

abbrev pub invariant-loop-r : goal.invariant-loop-r
invariant-loop-r l = (l.r ≤ l.col) × (length l.m ≡ length l.initial.m) × (loop l.r l.n (clear_other l.w l.col) l.m ≡ clear_others l.n l.w l.col l.initial.m)

abbrev pub decreases-loop-r : goal.decreases-loop-r
decreases-loop-r l = l.col - l.r

abbrev pub invariant-loop-r-2 : goal.invariant-loop-r-2
invariant-loop-r-2 l = (length l.m ≡ length l.initial.m) × (loop l.r l.n (clear_other l.w l.col) l.m ≡ loop (l.col + 1) l.n (clear_other l.w l.col) l.initial.m)

abbrev pub decreases-loop-r-2 : goal.decreases-loop-r-2
decreases-loop-r-2 l = l.n - l.r
