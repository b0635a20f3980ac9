-- Subject after subject is added to one running sum, which is then divided.
use Rattle.base.proofs.Loops.{ends}
use Rattle.repeated_contrasts.proofs.Calls.{covariance_done}
use Rattle.repeated_contrasts.proofs.pairs.Subjects.covariance.Goals as goal

pub returns : goal.returns
returns c = covariance_done _ _ _ _ _ _ (ends _ _ _ _ _ c.loop-s.invariant c.loop-s-test.false)
