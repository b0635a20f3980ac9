-- What was found before place i, or else what stands from i on, is what the whole list has.
use lib.Ieee.{is_nan}
use Rattle.stats.proofs.Finding.{Found}
use Rattle.stats.proofs.has_nan.Given as goal

abbrev pub invariant-loop-x : goal.invariant-loop-x
invariant-loop-x l = Found is_nan l.readings l.found l.x-index
