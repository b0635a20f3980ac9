-- What was added up before place i is the sum of the first i sizes.
use Rattle.std.proofs.Common.{◌≡◌, take, ◌*◌, ◌≤◌}
use Rattle.base.specs.Lists.{total}
use Rattle.base.proofs.total_of.Given as goal

abbrev pub invariant-loop-size : goal.invariant-loop-size
invariant-loop-size l = (l.t ≤ l.size-index * 4294967295) × (l.t ≡ total (take l.size-index l.sizes))
