use Prim.Native.Nat.{◌≤◌}
use mathlib.Core.Path.{◌≡◌}
use lib.ListN.{length}
use Rattle.twoway_balanced.specs.Squares.{margin_step, mean_margins}
use Rattle.base.specs.Loop.{loop}
use Rattle.twoway_balanced.proofs.mean_margins.Given as goal

abbrev pub invariant-loop-i : goal.invariant-loop-i
invariant-loop-i l = (l.i ≤ l.m) × ((length l.out ≡ 6) × (loop l.i l.m (margin_step l.means l.e l.d l.n) l.out ≡ mean_margins l.means l.m l.e l.d l.n))
