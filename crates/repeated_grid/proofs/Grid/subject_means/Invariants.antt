use Rattle.std.proofs.Common.{length, ◌≡◌}
use Rattle.base.specs.Lists.{put_at}
use Rattle.base.specs.Loop.{loop}
use Rattle.repeated_grid.specs.Table.{subject_mean, subject_means}
use Rattle.repeated_grid.proofs.Grid.subject_means.Given as goal

abbrev pub invariant-loop-i : goal.invariant-loop-i
invariant-loop-i l = (length l.out ≡ 64) × (loop l.i l.self.n (put_at (subject_mean l.self.readings.now l.self.k)) l.out ≡ subject_means l.self.readings.now l.self.n l.self.k)
