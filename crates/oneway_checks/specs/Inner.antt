-- The words of the private contracts.
use Rattle.std.specs.Prelude.{ℕ, Bool, ◌&&◌, List, ltb, Float, length}
use Rattle.base.specs.declared.Refusal.{Refusal}
use Rattle.base.specs.Limits.{fewest_readings}
use Rattle.base.specs.Refusals.{refuse, when, ◌or_else◌}
use Rattle.stats.specs.Sums.{has_nan}

-- group number k: fewer than two readings, or a NaN, which is looked for only where `nans` says that there may be one
abbrev pub sought_fault : Bool → ℕ → List Float → Refusal
sought_fault nans k group =
    when (ltb (length group) fewest_readings) (refuse 2 fewest_readings (length group))
    or_else when (nans && has_nan group) (refuse 4 k 0)
