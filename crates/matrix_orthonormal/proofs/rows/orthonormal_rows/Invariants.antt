use Prim.Native.Nat.{◌-◌}
use mathlib.Core.Path.{◌≡◌}
use lib.ListN.{length}
use Rattle.matrix_orthonormal.specs.Orthonormal.{orthonormal_row, orthonormal_rows}
use Rattle.base.specs.Loop.{loop}
use Rattle.matrix_orthonormal.proofs.rows.orthonormal_rows.Given as goal

abbrev pub invariant-loop-i : goal.invariant-loop-i
invariant-loop-i l = (length l.c ≡ length l.initial.c) × (loop l.i l.p (orthonormal_row l.k) l.c ≡ orthonormal_rows l.p l.k l.initial.c)

abbrev pub decreases-loop-i : goal.decreases-loop-i
decreases-loop-i l = l.p - l.i
