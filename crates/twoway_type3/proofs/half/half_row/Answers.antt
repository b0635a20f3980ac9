-- The places come first, then the zeros: one loop of the definition each.
use Rattle.std.proofs.Common.{rules, ◌≡◌, ◌+◌, ◌-◌, ◌*◌, ap, ◌∙◌, arith}
use lib.ListN.{replicate, length-replicate}
use Rattle.std.proofs.lemmas.Slice.{put_mid-paste}
use Rattle.base.specs.Loop.{loop}
use Rattle.float.specs.Words.{plus_zero}
use Rattle.matrix_linear.specs.Inverse.{zero_at}
use Rattle.twoway_type3.specs.Inner.{half_row}
use Rattle.matrix_linear.proofs.Filled.{zero_row}
use Rattle.twoway_type3.proofs.Rows.{copied_row}
use Rattle.twoway_type3.proofs.half.half_row.Goals as goal

pub returns : goal.returns
unfolding half_row
returns c =
    let n = c.args.n in
    let a = c.args.p + n in
    let z : c.fill.new.self ≡ replicate n plus_zero = search rules in
    put_mid-paste a (c.args.p + 2 * n - a) c.copy_within.new.self c.fill.new.self (replicate n plus_zero) n z (omega arith) (rw length-replicate)
    ∙ zero_row c.copy_within.new.self a n (omega (arith, c.copy_within.ensures.len))
    ∙ ap (loop 0 n (zero_at a)) (c.copy_within.ensures.after ∙ copied_row c.args.work.now c.args.p c.args.q n (omega arith) (omega arith))
