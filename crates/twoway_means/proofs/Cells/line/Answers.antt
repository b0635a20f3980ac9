-- Cell after cell of the line is added to one tally. There are at most 36 cells, so a cell's number is small.
use Rattle.std.proofs.Common.{arith}
use Rattle.twoway_means.proofs.Places.{not_many}
use Rattle.twoway_means.proofs.Cells.line.Goals as goal

pub overflow_mul-q : goal.overflow_mul-q
overflow_mul-q c = omega (arith, c.requires c.loop-q.q c.loop-q-test.true, not_many _ _ _ c.self.view_is c.self.invariant)

pub overflow_add-s : goal.overflow_add-s
overflow_add-s c = omega (arith, c.requires c.loop-q.q c.loop-q-test.true, not_many _ _ _ c.self.view_is c.self.invariant)
