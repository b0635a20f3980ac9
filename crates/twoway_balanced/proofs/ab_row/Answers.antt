-- Cell after cell of the row is added to one running sum.
use Rattle.std.proofs.Common.{rules, arith, ◌+◌, ◌-◌, [], ◌∷◌}
use lib.Ieee.{nan}
use lib.ListN.{take, drop, length-append}
use Rattle.twoway_balanced.proofs.Lines.{among_row, row_at, row_long}
use Rattle.std.proofs.lemmas.Slice.Zip.{zip_turn, zip_end}
use Rattle.twoway_balanced.specs.Squares.{ab_row}
use Rattle.base.proofs.Loops.{step, ends}
use Rattle.twoway_balanced.proofs.ab_row.Goals as goal

pub loop-mean-preserved : goal.loop-mean-preserved
unfolding ab_row
loop-mean-preserved c =
    let z = zip_turn (take (c.args.s + c.args.b - c.args.s) (drop c.args.s c.args.means.now)) c.args.means_b.now c.loop-mean.yielded _ c.loop-mean.mean-iterator c.next.new.self c.next.result (search rules) (search rules) c.loop-mean.yielded_by _ c.in-Some.is c.next.ensures.steps in
    rw (length-append c.loop-mean.yielded ((c.in-Some.mean, c.in-Some.mean_b) ∷ [])) (step _ _ _ _ _ _ c.loop-mean.invariant (among_row _ _ _ _ c.requires.1 z.0) (rw (z.2 nan, row_at _ _ _ _ c.requires.1 z.0, z.3 nan)))

pub returns : goal.returns
returns c =
    let n = zip_end (take (c.args.s + c.args.b - c.args.s) (drop c.args.s c.args.means.now)) c.args.means_b.now c.loop-mean.yielded _ c.loop-mean.mean-iterator c.next.new.self c.next.result (search rules) (search rules) c.loop-mean.yielded_by c.in-None.is c.next.ensures.steps in
    ends _ _ _ _ _ c.loop-mean.invariant (omega (arith, n, row_long _ _ _ c.requires.1, c.requires.0, c.told-means_b))
