-- The system and the rows of the inverse lie in two parts of the lent memory that do not meet: each call changes its own part, and the left half is copied before the system is solved.
use Prim.Native.Nat.{◌-◌, ◌+◌, ◌*◌}
use native.Mathlib.Omega.{arith}
use Rattle.twoway_type3.specs.Inner.{inverse_from}
use Rattle.twoway_type3.proofs.Chains.{solve_lent}
use Rattle.twoway_type3.proofs.Sizes.{solve_room}
use Rattle.twoway_type3.proofs.wald.solve.Goals as goal

pub returns : goal.returns
returns c =
    let p = c.args.levels.a * c.args.levels.b in
    let k = solve_room _ _ c.args.levels.in_range in
    let t = solve_lent c.args.levels.a c.args.levels.b k.0 k.1 c.args.work.now (omega arith) (p * (p + 1) - 0) (inverse_from + p * (2 * p) - inverse_from) (omega arith) (omega arith)
    c.left_half.ensures c.solve_linear_system-solved.ensures c.matrix_inverse-inverted.ensures in
    record { coefficients = t.0; inverted = t.1; skipped = t.2 }
