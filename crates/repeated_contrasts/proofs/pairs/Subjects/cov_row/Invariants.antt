-- Place after place of row i is filled.
use Rattle.std.proofs.Common.{◌≡◌}
use Rattle.base.specs.Loop.{loop}
use Rattle.repeated_contrasts.specs.Covariance.{cov_at, cov_row}
use Rattle.repeated_contrasts.proofs.pairs.Subjects.cov_row.Given as goal

abbrev pub invariant-loop-j : goal.invariant-loop-j
invariant-loop-j l =
    loop l.j l.self.k (cov_at l.self.n l.self.k l.self.readings.now l.self.means.now l.i) l.out ≡ cov_row l.self.n l.self.k l.self.readings.now l.self.means.now l.i l.initial.out
