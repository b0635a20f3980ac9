-- What is left of the loop gives the whole power.
use Rattle.float.specs.Singles.{power_of}
use Rattle.float.proofs.Powers.{Leaves}
use Rattle.float.proofs.power.Given as goal

abbrev pub invariant-loop-left : goal.invariant-loop-left
invariant-loop-left l = Leaves l.result l.base l.left (power_of l.x l.p)

abbrev pub decreases-loop-left : goal.decreases-loop-left
decreases-loop-left l = l.left
