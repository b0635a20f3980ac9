-- Worked data: document 01's P9.
use Rattle.std.specs.Prelude.{◌≡◌, refl, List, [], ◌∷◌, Float, take}
use Rattle.std.specs.Float.Ieee.{of_bits, of_int, add, sub, mul, div, neg}
use Rattle.base.specs.Loop.{loop, turns}
use Rattle.base.specs.Lists.{part, listed}
use Rattle.float.specs.Words.{count, bits}
use Rattle.stats.specs.Sums.{sum_by}
use Rattle.repeated_grid.specs.Table.{no_subjects, no_conditions, grand_mean, subject_means, condition_sum, condition_means, ss_total, ss_subjects, ss_conditions, ss_error}

-- P9: the subjects {1, 3} and {5, 9}
abbrev p9 : List Float
p9 = count 1 ∷ count 3 ∷ count 5 ∷ count 9 ∷ []

p9_worked : (ss_conditions p9 2 2 ≡ count 9) × (ss_subjects p9 2 2 ≡ count 25) × (ss_error p9 2 2 ≡ count 1) × (ss_total p9 2 2 ≡ count 35)
unfolding ss_conditions ss_subjects ss_total subject_means condition_means condition_sum listed no_subjects no_conditions loop turns part sum_by add sub mul div neg of_bits of_int
p9_worked = (refl, refl, refl, refl)

-- the grand mean is 4.5
p9_means : (grand_mean p9 2 2 ≡ bits 0x4012000000000000) × (take 2 (subject_means p9 2 2) ≡ count 2 ∷ count 7 ∷ []) × (take 2 (condition_means p9 2 2) ≡ count 3 ∷ count 6 ∷ [])
unfolding subject_means condition_means condition_sum listed no_subjects no_conditions loop turns part sum_by add sub mul div neg of_bits of_int
p9_means = (refl, refl, refl)
