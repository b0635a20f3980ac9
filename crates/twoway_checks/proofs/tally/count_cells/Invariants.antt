-- The counts so far and the codes that are left give the counts of all.
use Rattle.twoway_checks.specs.Inner.{keys, tally}
use Rattle.twoway_checks.proofs.Counting.{Counting}
use Rattle.twoway_checks.proofs.tally.count_cells.Given as goal

abbrev pub invariant-loop-a : goal.invariant-loop-a
invariant-loop-a l = Counting l.a-iterator.a.rest.now l.a-iterator.b.rest.now l.levels_b l.counts (tally (keys l.levels_b l.factor_a l.factor_b))
