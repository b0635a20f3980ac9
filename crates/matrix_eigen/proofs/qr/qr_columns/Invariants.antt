use Prim.Native.Nat.{◌-◌}
use mathlib.Core.Path.{◌≡◌}
use lib.ListN.{length}
use Rattle.matrix_eigen.specs.Qr.{qr_column, qr_columns}
use Rattle.base.specs.Loop.{loop}
use Rattle.matrix_eigen.proofs.qr.qr_columns.Given as goal

abbrev pub invariant-loop-j : goal.invariant-loop-j
invariant-loop-j l = (length l.q ≡ length l.initial.q) × ((length l.r ≡ length l.initial.r) × (loop l.j l.n (qr_column l.n l.a) (l.q, l.r) ≡ qr_columns l.n l.a (l.initial.q, l.initial.r)))

abbrev pub decreases-loop-j : goal.decreases-loop-j
decreases-loop-j l = l.n - l.j
