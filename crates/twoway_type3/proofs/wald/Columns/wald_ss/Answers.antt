-- The block is copied behind both matrices and inverted there, so that the coefficients and the inverse stay.
use Prim.Native.Nat.{◌-◌, ◌+◌, ◌*◌}
use native.Mathlib.Omega.{arith}
use Rattle.twoway_type3.specs.Inner.{block_from}
use Rattle.twoway_type3.proofs.Chains.{wald_lent}
use Rattle.twoway_type3.proofs.wald.Columns.wald_ss.Goals as goal

pub returns : goal.returns
returns c =
    wald_lent c.args.self.p c.args.self.s c.args.self.n c.args.self.some c.args.self.most c.args.self.within c.args.self.few c.args.work.now (omega arith) (c.args.self.p * (c.args.self.p + 1) - 0) (block_from + c.args.self.n * (2 * c.args.self.n) - block_from) (omega arith) (omega arith) c.left_half.ensures c.matrix_inverse-e.ensures c.wald_sum.ensures
