use Prim.Native.Nat.{◌-◌}
use mathlib.Core.Path.{◌≡◌}
use lib.ListN.{length}
use Rattle.matrix_product.specs.Product.{product_at, product_row}
use Rattle.base.specs.Loop.{loop}
use Rattle.matrix_product.proofs.rows.product_row.Given as goal

abbrev pub invariant-loop-j : goal.invariant-loop-j
invariant-loop-j l = (length l.out ≡ length l.initial.out) × (loop l.j l.w (product_at l.a l.b l.u l.t l.l l.w l.i) l.out ≡ product_row l.a l.b l.u l.t l.l l.w l.i l.initial.out)

abbrev pub decreases-loop-j : goal.decreases-loop-j
decreases-loop-j l = l.w - l.j
