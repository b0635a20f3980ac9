-- The places from i on are still to be filled.
use mathlib.Core.Path.{◌≡◌}
use lib.ListN.{length}
use Rattle.base.specs.Lists.{put_at}
use Rattle.base.specs.Loop.{loop}
use Rattle.twoway_means.specs.Table.{margin, margins}
use Rattle.twoway_means.proofs.Cells.margins.Given as goal

abbrev pub invariant-loop-i : goal.invariant-loop-i
invariant-loop-i l = (length l.out ≡ 6) × (loop l.i l.m (put_at (margin l.self l.e l.d l.n)) l.out ≡ margins l.self l.m l.e l.d l.n)
