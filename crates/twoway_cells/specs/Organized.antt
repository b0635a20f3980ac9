-- What `organize_two_way_data` answers, and what it leaves in the scratch. xs are the readings, us their codes of factor A, vs those of factor B.
use Rattle.std.specs.Prelude.{ℕ, Float, length, Result, Ok, Err}
use mathlib.Core.List.{List, flatten}
use Rattle.base.specs.declared.Refusal.{Refusal}
use Rattle.base.specs.Lists.{over}
use Rattle.base.specs.Refusals.{guarded}
use Rattle.twoway_checks.specs.declared.TwoWayData.{TwoWayData}
use Rattle.twoway_checks.specs.Cells.{cells}
use Rattle.twoway_checks.specs.Checks.{levels, two_way_refusal}
use Rattle.twoway_checks.specs.Data.{two_way_data}

-- the readings cell by cell, where the factors have a and b levels
abbrev pub cell_order : ℕ → ℕ → List Float → List ℕ → List ℕ → List Float
cell_order a b xs us vs = flatten (cells a b xs us vs)

-- the refused call: the scratch as it was, and the refusal
abbrev pub left_alone : List Float → Refusal → List Float × Result TwoWayData Refusal
left_alone scratch r = (scratch, Err r)

-- the call: the readings cell by cell over the first places of the scratch, and the design; refused, the scratch as it was
unfoldable pub organize_two_way_data : List Float → List ℕ → List ℕ → List Float → List Float × Result TwoWayData Refusal
organize_two_way_data xs us vs scratch =
    guarded (two_way_refusal xs us vs (length scratch)) (left_alone scratch)
    (over (cell_order (levels us) (levels vs) xs us vs) scratch, Ok (two_way_data (levels us) (levels vs) xs us vs))
