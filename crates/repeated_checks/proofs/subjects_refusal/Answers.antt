-- The search of all rows for the same faults. Where no reading at all is a NaN, no row has one (`as_sought`).
use Rattle.std.proofs.Common.{ap, ◌∙◌}
use Rattle.base.specs.Refusals.{refuse, unless, verdict}
use lib.Dec.{eqb}
use lib.ListN.{length}
use Rattle.stats.proofs.Sought.{as_sought}
use Rattle.repeated_checks.specs.Checks.{subject_fault}
use Rattle.repeated_checks.proofs.subjects_refusal.Goals as goal

pub returns : goal.returns
unfolding subject_fault
returns c =
    c.first_fault.ensures
    ∙ ap verdict (as_sought (λ i row. unless (eqb (length row) c.args.k) (refuse 9 i (length row))) c.has_nan-nans.result c.args.sizes.now c.args.readings.now c.has_nan-nans.ensures)
