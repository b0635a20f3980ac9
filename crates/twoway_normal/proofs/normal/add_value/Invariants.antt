use mathlib.Core.Path.{◌≡◌}
use lib.ListN.{length}
use Rattle.base.specs.Loop.{loop}
use Rattle.twoway_normal.specs.Inner.{value_at, add_value}
use Rattle.twoway_normal.proofs.normal.add_value.Given as goal

abbrev pub invariant-loop-j : goal.invariant-loop-j
invariant-loop-j l = (length l.sums ≡ length l.initial.sums) × (loop l.j l.p (value_at l.q l.rows l.y) l.sums ≡ add_value l.q l.p l.rows l.y l.initial.sums)
