-- What is left to add from row i on gives the whole.
use mathlib.Core.Path.{◌≡◌}
use Rattle.twoway_balanced.specs.Squares.{row_step, ss_ab}
use Rattle.base.specs.Loop.{loop}
use Rattle.twoway_balanced.proofs.ss_ab.Given as goal

abbrev pub invariant-loop-i : goal.invariant-loop-i
invariant-loop-i l = loop l.i l.a (row_step l.means l.means_a l.means_b l.grand_mean l.r l.b) l.t ≡ ss_ab l.means l.means_a l.means_b l.grand_mean l.r l.a l.b
