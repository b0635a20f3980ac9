-- Each place gets its own sum. Row i and column j are there, so the sum is the plain one (`dot_room`).
use Prim.Native.Nat.{◌≤◌, ◌+◌, ◌*◌}
use native.Mathlib.Omega.{arith}
use borrow.Author.Rules.{rules}
use Rattle.matrix_places.proofs.Room.{dot_room}
use Rattle.matrix_product.proofs.Steps.{product_step}
use Rattle.base.proofs.Bounds.{row_end}
use Rattle.matrix_product.proofs.rows.product_row.Goals as goal

pub loop-j-preserved : goal.loop-j-preserved
loop-j-preserved c =
    let column : (c.loop-j.j * c.args.u + c.args.u ≤ c.args.w * c.args.u) = row_end _ c.args.w _ c.loop-j-test.true (omega arith) in
    let long : (0 * c.args.t + c.args.t ≤ c.args.l * c.args.t) = row_end 0 c.args.l _ c.requires.0 (omega arith) in
    let ends-in = column in (
      search rules,
      product_step _ _ _ _ _ _ _ _ _ c.loop-j.invariant.1 c.loop-j-test.true
          (dot_room _ _ _ _ _ _ _ _ (omega arith, (omega arith, (omega arith, omega arith))) (omega arith, (omega arith, (omega (arith, ends-in, long), omega (arith, ends-in)))) c.dot.ensures),
    )
