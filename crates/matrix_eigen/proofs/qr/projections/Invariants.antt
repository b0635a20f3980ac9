use Prim.Native.Nat.{◌-◌}
use mathlib.Core.Path.{◌≡◌}
use lib.ListN.{length}
use Rattle.matrix_eigen.specs.Qr.{project, projections}
use Rattle.base.specs.Loop.{loop}
use Rattle.matrix_eigen.proofs.qr.projections.Given as goal

abbrev pub invariant-loop-i : goal.invariant-loop-i
invariant-loop-i l = (length l.v ≡ length l.initial.v) × ((length l.r ≡ length l.initial.r) × (loop l.i l.j (project l.n l.a l.q l.j) (l.v, l.r) ≡ projections l.n l.a l.q l.j (l.initial.v, l.initial.r)))

abbrev pub decreases-loop-i : goal.decreases-loop-i
decreases-loop-i l = l.j - l.i
