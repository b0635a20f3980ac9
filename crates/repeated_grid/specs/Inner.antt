-- What the code keeps between its steps. No public contract cites these words.
use Rattle.std.specs.Prelude.{ℕ, ◌*◌, ◌≤◌, ◌≡◌, List, Float, length, get_or, set, replicate}
use Rattle.std.specs.Float.{nan}
use Rattle.base.specs.Limits.{most_subjects, most_conditions}
use Rattle.base.specs.Lists.{part}
use Rattle.base.specs.Loop.{loop}
use Rattle.float.specs.Words.{◌⊕◌, minus_zero}

-- the conditions are added up row by row, each in its own place: `column_sum` says that this is `condition_sum`
abbrev pub add_at : List Float → ℕ → List Float → List Float
add_at row j sums = set sums j (get_or sums j nan ⊕ get_or row j nan)

unfoldable pub row_added : List Float → List Float → List Float
row_added row sums = loop 0 (length row) (add_at row) sums

abbrev pub row_step : List Float → ℕ → ℕ → List Float → List Float
row_step xs k i sums = row_added (part (i * k) k xs) sums

unfoldable pub column_sums : List Float → ℕ → ℕ → List Float
column_sums xs n k = loop 0 n (row_step xs k) (replicate most_conditions minus_zero)

pub record Fitting (xs : List Float) (n k : ℕ) : Type 0 where
  pub subjects : n ≤ most_subjects
  pub conditions : k ≤ most_conditions
  pub all : length xs ≡ n * k
