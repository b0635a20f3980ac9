use mathlib.Core.Path.{◌≡◌}
use lib.ListN.{length}
use Rattle.base.specs.Loop.{loop}
use Rattle.twoway_normal.specs.Inner.{column_at, put_column}
use Rattle.twoway_normal.proofs.normal.put_column.Given as goal

abbrev pub invariant-loop-j : goal.invariant-loop-j
invariant-loop-j l = (length l.m ≡ length l.initial.m) × (loop l.j l.p (column_at l.p l.sums) l.m ≡ put_column l.p l.sums l.initial.m)
