-- The readings before number i lie in their cells.
use Rattle.twoway_checks.specs.Inner.{keys}
use Rattle.twoway_cells.proofs.Sorts.{Placed}
use Rattle.twoway_cells.proofs.sort.lay.Given as goal

abbrev pub invariant-loop-i : goal.invariant-loop-i
invariant-loop-i l = Placed (keys l.levels_b l.factor_a l.factor_b) l.values l.initial.scratch l.scratch l.next l.i
