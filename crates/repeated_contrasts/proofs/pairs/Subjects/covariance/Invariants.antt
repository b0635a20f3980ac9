-- What is still to be added to the running sum, from subject s on, gives the whole sum.
use Rattle.std.proofs.Common.{◌≡◌}
use Rattle.base.specs.Loop.{loop}
use Rattle.repeated_contrasts.specs.Covariance.{cov_step, cov_sum}
use Rattle.repeated_contrasts.proofs.pairs.Subjects.covariance.Given as goal

abbrev pub invariant-loop-s : goal.invariant-loop-s
invariant-loop-s l =
    loop l.s l.self.n (cov_step l.self.readings.now l.self.means.now l.self.k l.i l.j) l.sum ≡ cov_sum l.self.n l.self.k l.self.readings.now l.self.means.now l.i l.j
