-- What is left to add from the row's cell i on gives the whole, where i turns were made.
use mathlib.Core.Path.{◌≡◌}
use lib.ListN.{length}
use Rattle.twoway_balanced.specs.Squares.{ab_step, ab_row}
use Rattle.base.specs.Loop.{loop}
use Rattle.twoway_balanced.proofs.ab_row.Given as goal

abbrev pub invariant-loop-mean : goal.invariant-loop-mean
invariant-loop-mean l = loop (length l.yielded) l.b (ab_step l.means l.mean_a l.means_b l.grand_mean l.r l.s) l.u ≡ ab_row l.means l.mean_a l.means_b l.grand_mean l.r l.s l.b l.t
