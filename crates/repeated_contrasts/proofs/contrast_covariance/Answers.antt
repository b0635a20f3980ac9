-- The test is the definition's; where it passes, what it leaves known is what the subjects keep.
use Rattle.repeated_contrasts.proofs.Calls.{fitting}
use Rattle.repeated_contrasts.proofs.contrast_covariance.Goals as goal

pub returns-then-fits : goal.returns-then-fits
returns-then-fits c = fitting _ _ _ _ _ c.fits.ensures c.if-fits.true c.through_contrasts.ensures
