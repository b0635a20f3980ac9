-- Worked data: a refusal of each kind.
use Rattle.std.specs.Prelude.{◌≡◌, refl, [], ◌∷◌, Float, replicate}
use Rattle.std.specs.Float.{nan}
use Rattle.std.specs.Float.Ieee.{is_nan, of_bits}
use Rattle.base.specs.Lists.{total, cut}
use Rattle.base.specs.Refusals.{refuse, none, first_fault}
use Rattle.base.specs.Sizes.{sizes_refusal}
use Rattle.float.specs.Words.{plus_zero}
use Rattle.stats.specs.Sums.{some}
use Rattle.repeated_checks.specs.Checks.{design_refusal, subject_fault, repeated_refusal}

abbrev x : Float
x = plus_zero

-- no subject, one subject, a row too long, one condition; a row unlike the first before a NaN further on, and a NaN in the second row
refused_worked : (repeated_refusal [] [] ≡ refuse 2 2 0)
    × (repeated_refusal (x ∷ x ∷ []) (2 ∷ []) ≡ refuse 2 2 1)
    × (repeated_refusal (x ∷ x ∷ []) (4294967295 ∷ 4294967295 ∷ []) ≡ refuse 10 8589934590 2)
    × (repeated_refusal (replicate 13 x) (13 ∷ []) ≡ refuse 11 4 13)
    × (repeated_refusal (x ∷ x ∷ []) (1 ∷ 1 ∷ []) ≡ refuse 8 1 0)
    × (repeated_refusal (x ∷ x ∷ nan ∷ []) (2 ∷ 1 ∷ []) ≡ refuse 9 2 1)
    × (repeated_refusal (x ∷ x ∷ x ∷ nan ∷ []) (2 ∷ 2 ∷ []) ≡ refuse 4 2 0)
    × (repeated_refusal (x ∷ x ∷ x ∷ x ∷ []) (2 ∷ 2 ∷ []) ≡ none)
unfolding repeated_refusal sizes_refusal design_refusal first_fault subject_fault total cut some is_nan of_bits
refused_worked = (refl, refl, refl, refl, refl, refl, refl, refl)
