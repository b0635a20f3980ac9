-- Worked numbers, small enough to follow by hand.
use Rattle.std.specs.Prelude.{◌≡◌, refl, [], ◌∷◌, Float}
use Rattle.std.specs.Float.{nan}
use Rattle.std.specs.Float.Ieee.{is_nan, lt, add, sub, mul, div, neg, of_bits, of_int}
use Rattle.base.specs.Loop.{loop, turns}
use Rattle.float.specs.Words.{count, bits, plus_zero, minus_zero, one}
use Rattle.float.specs.Singles.{abs_of, is_finite, least_of, greatest_of, clamp_of, power_from, power_of}
use Rattle.stats.specs.Sums.{sum_by}
use Rattle.matrix_linear.specs.Determinant.{two_by_two, det_of, matrix_determinant}
use Rattle.repeated_sphericity.specs.Epsilons.{gg_raw, epsilon_gg, hf_raw, usable, epsilon_hf}
use Rattle.repeated_sphericity.specs.Mauchly.{trace, mean_trace, det, w_raw, mauchly_w, df_w}

-- 0.5, 0.75 and 0.8
abbrev half : Float
half = bits 0x3FE0000000000000

abbrev three_quarters : Float
three_quarters = bits 0x3FE8000000000000

abbrev four_fifths : Float
four_fifths = bits 0x3FE999999999999A

-- the eigenvalues 3 and 1 give 4² / (2 · 10); two zeros give 1.0, and so does a NaN among them; 1 and -1 would give 0.0 and are lifted to 1/2
gg_worked : (epsilon_gg 3 (count 3 ∷ count 1 ∷ []) ≡ four_fifths)
    × (epsilon_gg 3 (plus_zero ∷ plus_zero ∷ []) ≡ one)
    × (epsilon_gg 3 (nan ∷ count 1 ∷ []) ≡ one)
    × (epsilon_gg 3 (count 1 ∷ neg (count 1) ∷ []) ≡ half)
unfolding epsilon_gg gg_raw sum_by least_of greatest_of is_nan lt add mul div neg of_bits of_int
gg_worked = (refl, refl, refl, refl)

-- 7 subjects, 5 conditions and 1/2: 12 / 16; 10 subjects, 3 conditions and 1: above 1.0; 2 subjects, 3 conditions and 1/2: 0 / 0, which cannot be used
hf_worked : (epsilon_hf 7 5 half ≡ three_quarters) × (epsilon_hf 10 3 one ≡ one) × (epsilon_hf 2 3 half ≡ half)
unfolding epsilon_hf hf_raw usable is_finite least_of is_nan lt add sub mul div neg of_bits of_int
hf_worked = (refl, refl, refl)

-- the rows {3, 0} and {0, 1}: 3 / 2²; {0, 0} and {0, 0}: 1.0; {-1, 0} and {0, 2}: a negative determinant becomes 0.0; {-1, 0} and {0, 0}: a determinant of -0.0 stays
w_worked : (mauchly_w 2 (count 3 ∷ plus_zero ∷ plus_zero ∷ count 1 ∷ []) ≡ three_quarters)
    × (mauchly_w 2 (plus_zero ∷ plus_zero ∷ plus_zero ∷ plus_zero ∷ []) ≡ one)
    × (mauchly_w 2 (neg (count 1) ∷ plus_zero ∷ plus_zero ∷ count 2 ∷ []) ≡ plus_zero)
    × (mauchly_w 2 (neg (count 1) ∷ plus_zero ∷ plus_zero ∷ plus_zero ∷ []) ≡ minus_zero)
unfolding mauchly_w w_raw mean_trace trace det matrix_determinant det_of two_by_two loop turns clamp_of abs_of power_from power_of lt add sub mul div neg of_bits of_int
w_worked = (refl, refl, refl, refl)

df_worked : (df_w 2 ≡ count 2) × (df_w 11 ≡ count 65)
unfolding df_w sub div of_bits of_int
df_worked = (refl, refl)
