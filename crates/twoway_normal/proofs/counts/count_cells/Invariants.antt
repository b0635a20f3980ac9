-- What is left to count gives the whole, where i readings are counted; no count is over i.
use Prim.Native.Nat.{ℕ, ◌≤◌}
use mathlib.Core.Path.{◌≡◌}
use lib.ListN.{length, get_or}
use Rattle.base.specs.Loop.{loop}
use Rattle.twoway_normal.specs.Counted.{count_at, counts_of, most_counts}
use Rattle.twoway_normal.proofs.counts.count_cells.Given as goal

abbrev pub invariant-loop-u : goal.invariant-loop-u
invariant-loop-u l = (length l.counts ≡ most_counts) × ((c : ℕ) → get_or l.counts c 0 ≤ length l.yielded) × (loop (length l.yielded) (length l.factor_a) (count_at l.factor_a l.factor_b l.levels.a l.levels.b) l.counts ≡ counts_of l.factor_a l.factor_b l.levels.a l.levels.b)
