-- The sum is of column j of a and column i of q, not of v. Both columns are there, so it is the plain one (`dot_room`).
use Prim.Native.Nat.{◌≤◌, ◌+◌, ◌*◌}
use native.Mathlib.Omega.{arith}
use Rattle.matrix_places.proofs.Room.{dot_room}
use Rattle.matrix_eigen.proofs.Steps.{column_projected}
use Rattle.base.proofs.Bounds.{row_end}
use Rattle.matrix_eigen.proofs.qr.project.Goals as goal

pub returns : goal.returns
returns c =
    let row : c.args.i * c.args.n + c.args.n ≤ c.args.n * c.args.n = row_end _ c.args.n _ c.requires.0 (omega arith) in
    let k = row in
    column_projected _ _ _ _ _ _ _
    (dot_room _ _ _ _ _ _ _ _ (omega arith, (omega arith, (omega (arith, k), omega arith))) (omega arith, (omega arith, (omega (arith, k), omega arith))) c.dot-f.ensures)
    c.less_column.ensures
