use mathlib.Core.Path.{◌≡◌}
use lib.ListN.{length}
use Rattle.base.specs.Loop.{loop}
use Rattle.twoway_normal.specs.Inner.{add_at, add_row}
use Rattle.twoway_normal.proofs.normal.add_row.Given as goal

abbrev pub invariant-loop-k : goal.invariant-loop-k
invariant-loop-k l = (length l.m ≡ length l.initial.m) × (loop l.k l.w (add_at l.w l.n l.x l.j) l.m ≡ add_row l.w l.n l.x l.j l.initial.m)
