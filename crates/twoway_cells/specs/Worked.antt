-- Worked data: four cells of a small design.
use Rattle.std.specs.Prelude.{◌≡◌, refl}
use mathlib.Core.List.{[], ◌∷◌, flatten}
use Rattle.float.specs.Words.{count}
use Rattle.twoway_checks.specs.Cells.{cell, numbers, cells, cell_counts}
use Rattle.twoway_cells.specs.Organized.{cell_order}

-- five readings sorted into four cells: by A, then B, and in input order within a cell
sorted_worked : (cell_order 2 2 (count 1 ∷ count 2 ∷ count 3 ∷ count 4 ∷ count 5 ∷ []) (1 ∷ 0 ∷ 1 ∷ 0 ∷ 1 ∷ []) (0 ∷ 1 ∷ 0 ∷ 0 ∷ 1 ∷ []) ≡ count 4 ∷ count 2 ∷ count 1 ∷ count 3 ∷ count 5 ∷ [])
    × (cell_counts 2 2 (count 1 ∷ count 2 ∷ count 3 ∷ count 4 ∷ count 5 ∷ []) (1 ∷ 0 ∷ 1 ∷ 0 ∷ 1 ∷ []) (0 ∷ 1 ∷ 0 ∷ 0 ∷ 1 ∷ []) ≡ 1 ∷ 1 ∷ 2 ∷ 1 ∷ [])
unfolding flatten cells cell numbers
sorted_worked = (refl, refl)
