-- What `check_two_way_data` answers.
use Rattle.std.specs.Prelude.{ℕ, List, Float, length, replicate, Result}
use Rattle.base.specs.declared.Refusal.{Refusal}
use Rattle.base.specs.Limits.{most_cells}
use Rattle.base.specs.Lists.{over}
use Rattle.base.specs.Refusals.{judged}
use Rattle.twoway_checks.specs.declared.TwoWayData.{TwoWayData}
use Rattle.twoway_checks.specs.Cells.{cell_counts}
use Rattle.twoway_checks.specs.Checks.{levels, two_way_refusal}

-- 36 places for counts, each 0
unfoldable pub no_counts : List ℕ
no_counts = replicate most_cells 0

-- the design of a levels and b levels: the cells' counts, and 0 in the unused places
abbrev pub two_way_data : ℕ → ℕ → List Float → List ℕ → List ℕ → TwoWayData
two_way_data a b xs us vs =
    record { levels_a = a; levels_b = b; n_total = length xs; cell_n = over (cell_counts a b xs us vs) no_counts }

-- the design behind all the checks, or the refusal in its place
unfoldable pub checked_data : List Float → List ℕ → List ℕ → ℕ → Result TwoWayData Refusal
checked_data xs us vs lent = judged (two_way_refusal xs us vs lent) (two_way_data (levels us) (levels vs) xs us vs)
