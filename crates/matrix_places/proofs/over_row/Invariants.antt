use Prim.Native.Nat.{◌≤◌, ◌-◌, ◌+◌}
use mathlib.Core.Path.{◌≡◌}
use lib.ListN.{length}
use Rattle.base.specs.Loop.{loop}
use Rattle.matrix_places.specs.Places.{over_at, over_row}
use Rattle.matrix_places.proofs.over_row.Given as goal

abbrev pub invariant-loop-j : goal.invariant-loop-j
invariant-loop-j l = (l.p + l.w ≤ length l.m) × ((length l.m ≡ length l.initial.m) × (loop l.j l.w (over_at l.p l.d) l.m ≡ over_row l.p l.d l.w l.initial.m))

abbrev pub decreases-loop-j : goal.decreases-loop-j
decreases-loop-j l = l.w - l.j
