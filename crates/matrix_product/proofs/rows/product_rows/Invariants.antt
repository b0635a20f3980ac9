use Prim.Native.Nat.{◌-◌}
use mathlib.Core.Path.{◌≡◌}
use lib.ListN.{length}
use Rattle.matrix_product.specs.Product.{product_row, product}
use Rattle.base.specs.Loop.{loop}
use Rattle.matrix_product.proofs.rows.product_rows.Given as goal

abbrev pub invariant-loop-i : goal.invariant-loop-i
invariant-loop-i l = (length l.out ≡ length l.initial.out) × (loop l.i l.n (product_row l.a l.b l.u l.t l.l l.w) l.out ≡ product l.a l.b l.u l.t l.n l.l l.w l.initial.out)

abbrev pub decreases-loop-i : goal.decreases-loop-i
decreases-loop-i l = l.n - l.i
