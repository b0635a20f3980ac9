use Rattle.std.proofs.Common.{length, ◌≡◌}
use Rattle.base.specs.Lists.{put_at}
use Rattle.base.specs.Loop.{loop}
use Rattle.repeated_grid.specs.Table.{condition_mean, condition_means}
use Rattle.repeated_grid.proofs.Grid.condition_means.Given as goal

abbrev pub invariant-loop-j : goal.invariant-loop-j
invariant-loop-j l =
    (length l.out ≡ 12) × (loop l.j l.self.k (put_at (condition_mean l.self.readings.now l.self.n l.self.k)) l.out ≡ condition_means l.self.readings.now l.self.n l.self.k)
