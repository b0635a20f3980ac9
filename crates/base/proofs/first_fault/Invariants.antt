-- What is left has the same first fault as the whole, as long as no group before had one.
use Rattle.std.proofs.Common.{◌≡◌}
use Rattle.base.specs.Lists.{cut}
use Rattle.base.specs.Refusals.{first_fault}
use Rattle.base.proofs.Searches.{left}
use Rattle.base.proofs.first_fault.Given as goal

abbrev pub invariant-loop-g : goal.invariant-loop-g
invariant-loop-g g l = left (g.C.Check.fault l.check) l.sizes l.g l.rest ≡ first_fault (g.C.Check.fault l.check) 1 (cut l.sizes l.readings)
