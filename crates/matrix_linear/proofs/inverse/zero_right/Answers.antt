-- The zeros come all at once: that is the definition's loop (`zero_row`).
use Rattle.std.proofs.Common.{rules, ◌≡◌, ◌+◌, ◌-◌, ◌*◌, ◌∙◌, arith}
use lib.ListN.{replicate, length-replicate}
use Rattle.std.proofs.lemmas.Slice.{put_mid-paste}
use Rattle.float.specs.Words.{plus_zero}
use Rattle.matrix_linear.specs.Inverse.{zero_right}
use Rattle.matrix_linear.proofs.Filled.{zero_row}
use Rattle.matrix_linear.proofs.inverse.zero_right.Goals as goal

pub returns : goal.returns
unfolding zero_right
returns c =
    let a = c.args.i * (2 * c.args.n) + c.args.n in
    let z : c.fill.new.self ≡ replicate c.args.n plus_zero = search rules in
    put_mid-paste a (a + c.args.n - a) c.args.m.now c.fill.new.self (replicate c.args.n plus_zero) c.args.n z (omega arith) (rw length-replicate)
    ∙ zero_row c.args.m.now a c.args.n (omega arith)
