use Prim.Native.Nat.{◌-◌}
use mathlib.Core.Path.{◌≡◌}
use Rattle.matrix_linear.specs.System.{back_at, back_sum}
use Rattle.base.specs.Loop.{loop}
use Rattle.matrix_linear.proofs.system.back_sum.Given as goal

abbrev pub invariant-loop-j : goal.invariant-loop-j
invariant-loop-j l = loop l.j l.n (back_at l.m l.n l.i) l.x ≡ back_sum l.n l.i l.m

abbrev pub decreases-loop-j : goal.decreases-loop-j
decreases-loop-j l = l.n - l.j
