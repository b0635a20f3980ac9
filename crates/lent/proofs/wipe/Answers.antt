-- What is filled is as many places as there are up to 6,400, and a copy of a number is that number.
use Rattle.std.proofs.Common.{◌∙◌, ap, length-take-le, arith}
use lib.ListN.{replicate}
use Rattle.float.specs.Words.{plus_zero}
use Rattle.lent.specs.Wiping.{zeros}
use Rattle.lent.proofs.Wipes.{wiped_by}
use Rattle.lent.proofs.wipe.Goals as goal

pub returns : goal.returns
unfolding zeros
returns c =
    let k = c.min-k.result in
    wiped_by k c.fill.new.self c.args.work.now c.min-k.ensures (c.fill.ensures.after (λ y e. e) ∙ ap (λ n. replicate n plus_zero) (length-take-le k c.args.work.now (omega (arith, c.min-k.ensures))))
