-- The norm goes to R in both cases; the test of it is the definition's, and a NaN fails it in both. v has its n places, so the sum of squares is the plain one (`dot_room`).
use mathlib.Core.Path.{◌≡◌}
use native.Mathlib.Omega.{arith}
use Rattle.float.specs.Words.{minus_zero}
use Rattle.matrix_places.specs.Places.{dot}
use Rattle.matrix_places.proofs.Room.{dot_room}
use Rattle.matrix_eigen.proofs.Steps.{column_put, column_left}
use Rattle.matrix_eigen.proofs.qr.normalize.Goals as goal

pub returns-then-norm : goal.returns-then-norm
returns-then-norm c =
    let squares : c.dot.result ≡ dot minus_zero c.args.v.now 0 1 c.args.v.now 0 1 c.args.n = dot_room _ _ _ _ _ _ _ _ (omega arith, (omega arith, (omega arith, omega arith))) (omega arith, (omega arith, (omega arith, omega arith))) c.dot.ensures in
    column_put _ _ _ _ _ squares c.sqrt-norm.ensures c.if-norm.true c.put_column.ensures

pub returns-else-norm : goal.returns-else-norm
returns-else-norm c =
    let squares : c.dot.result ≡ dot minus_zero c.args.v.now 0 1 c.args.v.now 0 1 c.args.n = dot_room _ _ _ _ _ _ _ _ (omega arith, (omega arith, (omega arith, omega arith))) (omega arith, (omega arith, (omega arith, omega arith))) c.dot.ensures in
    column_left _ _ _ _ _ squares c.sqrt-norm.ensures c.if-norm.false
