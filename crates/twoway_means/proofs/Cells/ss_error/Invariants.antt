-- What is left to add from cell c on gives the whole.
use mathlib.Core.Path.{◌≡◌}
use lib.ListN.{length}
use Rattle.twoway_means.specs.Table.{error_step, ss_error}
use Rattle.base.specs.Loop.{loop}
use Rattle.twoway_means.proofs.Cells.ss_error.Given as goal

abbrev pub invariant-loop-c : goal.invariant-loop-c
invariant-loop-c l = loop l.c (length l.self) (error_step l.self l.means) l.t ≡ ss_error l.self l.means (length l.self)
