-- The places from c on are still to be filled.
use mathlib.Core.Path.{◌≡◌}
use lib.ListN.{length}
use Rattle.base.specs.Lists.{put_at}
use Rattle.base.specs.Loop.{loop}
use Rattle.twoway_means.specs.Table.{cell_mean, cell_means}
use Rattle.twoway_means.proofs.Cells.means.Given as goal

abbrev pub invariant-loop-c : goal.invariant-loop-c
invariant-loop-c l = (length l.out ≡ 36) × (loop l.c (length l.self) (put_at (cell_mean l.self)) l.out ≡ cell_means l.self (length l.self))
