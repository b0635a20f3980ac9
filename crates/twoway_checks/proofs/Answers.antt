-- The counts that the code made are those of the cells, and so is what is asked of them.
use mathlib.Core.Path.{◌≡◌, ap, ◌∙◌}
use mathlib.Core.List.{List}
use Prim.Native.Nat.{ℕ, ◌*◌}
use lib.Ieee.{Float}
use lib.ListN.{length, take}
use Rattle.base.specs.Lists.{over}
use Rattle.twoway_checks.specs.Cells.{cell_counts}
use Rattle.twoway_checks.specs.Checks.{levels, cells_refusal}
use Rattle.twoway_checks.specs.Inner.{Leveled, keys, tally}
use Rattle.twoway_checks.specs.Data.{no_counts}
use Rattle.twoway_checks.proofs.Doors.{tally_counts, first_counts}

-- the counts that the code made are those of the cells
module _ (xs : List Float) (us vs : List ℕ) (k : Leveled xs us vs (levels us) (levels vs)) (ns : List ℕ) (e : ns ≡ tally (keys (levels vs) us vs)) where
  pub counts_are : ns ≡ over (cell_counts (levels us) (levels vs) xs us vs) no_counts
  counts_are = e ∙ tally_counts xs us vs (levels us) (levels vs) k

  pub cells_checked : cells_refusal (levels us) (levels vs) (length xs) (take (levels us * levels vs) ns) ≡ cells_refusal (levels us) (levels vs) (length xs) (cell_counts (levels us) (levels vs) xs us vs)
  cells_checked = ap (cells_refusal (levels us) (levels vs) (length xs)) (ap (take (levels us * levels vs)) counts_are ∙ first_counts xs us vs (levels us) (levels vs) k)
