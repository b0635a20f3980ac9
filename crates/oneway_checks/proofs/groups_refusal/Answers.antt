-- The search of all groups for the same faults. Where no reading at all is a NaN, no group has one (`as_sought`).
use Rattle.std.proofs.Common.{ap, ◌∙◌}
use Rattle.base.specs.Refusals.{refuse, when, verdict}
use Rattle.base.specs.Limits.{fewest_readings}
use lib.Dec.{ltb}
use lib.ListN.{length}
use Rattle.stats.proofs.Sought.{as_sought}
use Rattle.oneway_checks.specs.Checks.{group_fault}
use Rattle.oneway_checks.proofs.groups_refusal.Goals as goal

pub returns : goal.returns
unfolding group_fault
returns c =
    c.first_fault.ensures
    ∙ ap verdict (as_sought (λ k group. when (ltb (length group) fewest_readings) (refuse 2 fewest_readings (length group))) c.has_nan-nans.result c.args.sizes.now c.args.readings.now c.has_nan-nans.ensures)
