-- What the formulas' code asks. No public contract cites these words.
use Rattle.std.specs.Prelude.{ℕ, ◌≤◌, ◌≡◌, List, map, Float, length}
use Rattle.std.specs.List.{sum_by}
use Rattle.base.specs.Inner.{Sized}
use Rattle.base.specs.Limits.{most_groups, most_readings}
use Rattle.float.specs.Words.{plus_zero}
use Rattle.stats.specs.Sums.{mean_of}
use Rattle.oneway_rows.specs.declared.Row.{Row}
use Rattle.oneway.specs.Summary.{size_of}

-- what the formulas ask of rows, so that counts fit: at most 16 groups with at most 512 readings
pub record Small (rs : List Row) : Type 0 where
  pub groups : length rs ≤ most_groups
  pub readings : sum_by size_of rs ≤ most_readings

-- what putting the distances of n readings, and their rows, asks: as many places, a row for each group, and sizes that add up
pub record Given (places far n : ℕ) (rs : List Row) : Type 0 where
  pub sizes : Sized most_groups n (map size_of rs)
  pub room : places ≡ n
  pub each : length rs ≤ far

-- a group's row without its squares
abbrev pub mean_row : List Float → Row
mean_row group = record { size = length group; mean = mean_of group; sq_dev = plus_zero }
