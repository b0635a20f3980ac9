-- Row after row is filled.
use Rattle.std.proofs.Common.{◌≡◌}
use Rattle.base.specs.Loop.{loop}
use Rattle.repeated_contrasts.specs.Covariance.{cov_row, cov_rows}
use Rattle.repeated_contrasts.proofs.pairs.Subjects.cov_rows.Given as goal

abbrev pub invariant-loop-i : goal.invariant-loop-i
invariant-loop-i l =
    loop l.i l.self.k (cov_row l.self.n l.self.k l.self.readings.now l.self.means.now) l.out ≡ cov_rows l.self.n l.self.k l.self.readings.now l.self.means.now l.initial.out
