use Prim.Native.Nat.{◌-◌}
use mathlib.Core.Path.{◌≡◌}
use Rattle.matrix_linear.specs.Determinant.{diagonal_at, diagonal_product}
use Rattle.base.specs.Loop.{loop}
use Rattle.matrix_linear.proofs.determinant.diagonal_product.Given as goal

abbrev pub invariant-loop-i : goal.invariant-loop-i
invariant-loop-i l = loop l.i l.n (diagonal_at l.n l.m) l.d ≡ diagonal_product l.n l.m l.s

abbrev pub decreases-loop-i : goal.decreases-loop-i
decreases-loop-i l = l.n - l.i
