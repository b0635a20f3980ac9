-- The table of repeated measures. The readings xs are n rows of k, one row a subject: subject i's reading under condition j stands at i * k + j.
use Rattle.std.specs.Prelude.{ℕ, ◌+◌, ◌*◌, cond, List, ltb, eqb, Float, length, get_or, take, replicate}
use Rattle.std.specs.Float.{nan}
use Rattle.base.specs.Limits.{most_subjects, most_conditions}
use Rattle.base.specs.Lists.{part, listed}
use Rattle.base.specs.Loop.{loop}
use Rattle.float.specs.Words.{◌⊕◌, ◌⊖◌, ◌⊗◌, ◌⊘◌, count, plus_zero, minus_zero}
use Rattle.stats.specs.Sums.{sum, sq_dev}
use Rattle.repeated_grid.specs.declared.RmTable.{RmTable}

unfoldable pub no_subjects : List Float
no_subjects = replicate most_subjects plus_zero

unfoldable pub no_conditions : List Float
no_conditions = replicate most_conditions plus_zero

-- all readings added up, over the product of the two floats n and k
abbrev pub grand_mean : List Float → ℕ → ℕ → Float
grand_mean xs n k = sum xs ⊘ (count n ⊗ count k)

-- subject i's mean: its row added up, over k
abbrev pub subject_mean : List Float → ℕ → ℕ → Float
subject_mean xs k i = sum (part (i * k) k xs) ⊘ count k

unfoldable pub subject_means : List Float → ℕ → ℕ → List Float
subject_means xs n k = listed n (subject_mean xs k) no_subjects

-- the readings of condition j, subject after subject, added up from -0.0
abbrev pub condition_step : List Float → ℕ → ℕ → ℕ → Float → Float
condition_step xs k j i t = t ⊕ get_or xs (i * k + j) nan

unfoldable pub condition_sum : List Float → ℕ → ℕ → ℕ → Float
condition_sum xs n k j = loop 0 n (condition_step xs k j) minus_zero

-- condition j's mean: that sum over n
abbrev pub condition_mean : List Float → ℕ → ℕ → ℕ → Float
condition_mean xs n k j = condition_sum xs n k j ⊘ count n

unfoldable pub condition_means : List Float → ℕ → ℕ → List Float
condition_means xs n k = listed k (condition_mean xs n k) no_conditions

-- the squared distances from the grand mean: of the readings, of the subjects' means times k, of the conditions' means times n
unfoldable pub ss_total : List Float → ℕ → ℕ → Float
ss_total xs n k = sq_dev (grand_mean xs n k) xs

unfoldable pub ss_subjects : List Float → ℕ → ℕ → Float
ss_subjects xs n k = count k ⊗ sq_dev (grand_mean xs n k) (take n (subject_means xs n k))

unfoldable pub ss_conditions : List Float → ℕ → ℕ → Float
ss_conditions xs n k = count n ⊗ sq_dev (grand_mean xs n k) (take k (condition_means xs n k))

-- what the subjects and the conditions leave of the total
abbrev pub ss_error : List Float → ℕ → ℕ → Float
ss_error xs n k = ss_total xs n k ⊖ ss_subjects xs n k ⊖ ss_conditions xs n k

abbrev pub table_of : List Float → ℕ → ℕ → RmTable
table_of xs n k = record {
  grand_mean = grand_mean xs n k;
  subject_means = subject_means xs n k;
  condition_means = condition_means xs n k;
  ss_total = ss_total xs n k;
  ss_subjects = ss_subjects xs n k;
  ss_conditions = ss_conditions xs n k;
  ss_error = ss_error xs n k;
}

abbrev pub no_table : RmTable
no_table = record {
  grand_mean = plus_zero;
  subject_means = no_subjects;
  condition_means = no_conditions;
  ss_total = plus_zero;
  ss_subjects = plus_zero;
  ss_conditions = plus_zero;
  ss_error = plus_zero;
}

-- at most 64 subjects, at most 12 conditions, and a reading for each of both; else nothing but zeros
unfoldable pub rm_table : List Float → ℕ → ℕ → RmTable
rm_table xs n k =
    cond (ltb most_subjects n) no_table
    (cond (ltb most_conditions k) no_table
    (cond (eqb (length xs) (n * k)) (table_of xs n k) no_table))
