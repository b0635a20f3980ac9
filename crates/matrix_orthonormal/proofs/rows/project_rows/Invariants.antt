use Prim.Native.Nat.{◌-◌}
use mathlib.Core.Path.{◌≡◌}
use lib.ListN.{length}
use Rattle.matrix_orthonormal.specs.Orthonormal.{project_row, project_rows}
use Rattle.base.specs.Loop.{loop}
use Rattle.matrix_orthonormal.proofs.rows.project_rows.Given as goal

abbrev pub invariant-loop-j : goal.invariant-loop-j
invariant-loop-j l = (length l.c ≡ length l.initial.c) × (loop l.j l.i (project_row l.k l.i) l.c ≡ project_rows l.k l.i l.initial.c)

abbrev pub decreases-loop-j : goal.decreases-loop-j
decreases-loop-j l = l.i - l.j
