use Prim.Native.Nat.{◌≤◌}
use mathlib.Core.Path.{◌≡◌}
use lib.ListN.{length, take, drop}
use lib.Seq.{sets}
use Rattle.base.specs.Lists.{total, over}
use Rattle.twoway_cells.specs.Starts.{sums, no_starts}
use Rattle.twoway_cells.proofs.starts_of.Given as goal

abbrev pub invariant-loop-c : goal.invariant-loop-c
invariant-loop-c l = (length l.starts ≡ 37) × (l.at ≤ 512) × (l.at ≡ total (take l.c l.counts)) × (sets l.starts l.c (sums l.at (drop l.c l.counts)) ≡ over (sums 0 l.counts) no_starts)
