-- Worked data: document 01's P8 and its neighbours.
use Rattle.std.specs.Prelude.{◌≡◌, refl, [], ◌∷◌, Float}
use Rattle.std.specs.Float.Ieee.{is_nan, of_bits}
use Rattle.float.specs.Words.{plus_zero}
use Rattle.base.specs.Refusals.{refuse, none, first_fault}
use Rattle.stats.specs.Sums.{some}
use Rattle.twoway_checks.specs.Cells.{cell, numbers, cells}
use Rattle.twoway_checks.specs.Checks.{largest, shape_refusal, levels_refusal, cells_refusal, two_way_refusal}

abbrev x : Float
x = plus_zero

-- P8: one reading a cell is refused, one reading more is not
p8 : (two_way_refusal (x ∷ x ∷ x ∷ x ∷ []) (0 ∷ 0 ∷ 1 ∷ 1 ∷ []) (0 ∷ 1 ∷ 0 ∷ 1 ∷ []) 6400 ≡ refuse 2 5 4)
    × (two_way_refusal (x ∷ x ∷ x ∷ x ∷ x ∷ []) (0 ∷ 0 ∷ 1 ∷ 1 ∷ 0 ∷ []) (0 ∷ 1 ∷ 0 ∷ 1 ∷ 1 ∷ []) 6400 ≡ none)
unfolding two_way_refusal shape_refusal levels_refusal cells_refusal first_fault largest cells cell numbers some is_nan of_bits
p8 = (refl, refl)

-- the cell (1, 0) has no reading; the code 4294967295; factors of another length before no values
refused_worked : (two_way_refusal (x ∷ x ∷ x ∷ []) (0 ∷ 0 ∷ 1 ∷ []) (0 ∷ 1 ∷ 1 ∷ []) 6400 ≡ refuse 7 1 0)
    × (two_way_refusal (x ∷ x ∷ []) (0 ∷ 4294967295 ∷ []) (0 ∷ 1 ∷ []) 6400 ≡ refuse 11 5 4294967296)
    × (two_way_refusal [] (0 ∷ []) [] 6400 ≡ refuse 5 1 0)
    × (two_way_refusal [] [] [] 6399 ≡ refuse 12 6400 6399)
unfolding two_way_refusal shape_refusal levels_refusal cells_refusal first_fault largest cells cell numbers some is_nan of_bits
refused_worked = (refl, refl, refl, refl)
