-- Fisher's analysis from the groups' rows rs and all readings xs, operation by operation.
use Rattle.std.specs.Prelude.{◌-◌, true, List, Float, length}
use Rattle.base.specs.Refusals.{none}
use Rattle.float.specs.Words.{◌⊕◌, ◌⊖◌, ◌⊗◌, ◌⊘◌, count, square}
use Rattle.stats.specs.Sums.{sum, sum_by}
use Rattle.oneway_rows.specs.declared.Row.{Row}
use Rattle.results.specs.declared.OneWayAnovaResult.{OneWayAnovaResult}
use Rattle.oneway.specs.Summary.{n_total, group_sizes, group_means}

-- what a group adds to the sums of squares: between the groups, its size times the squared distance of its mean from the grand mean; within, its own squared distances
abbrev pub between_of : Float → Row → Float
between_of grand r = count r.size ⊗ square (r.mean ⊖ grand)

abbrev pub within_of : Row → Float
within_of r = r.sq_dev

-- the grand mean is that of all readings, not of the means
abbrev pub grand_mean : List Row → List Float → Float
grand_mean rs xs = sum xs ⊘ count (n_total rs)

abbrev pub ss_between : List Row → List Float → Float
ss_between rs xs = sum_by (between_of (grand_mean rs xs)) rs

abbrev pub ss_within : List Row → Float
ss_within rs = sum_by within_of rs

abbrev pub df_between : List Row → Float
df_between rs = count (length rs - 1)

abbrev pub df_within : List Row → Float
df_within rs = count (n_total rs - length rs)

abbrev pub ms_between : List Row → List Float → Float
ms_between rs xs = ss_between rs xs ⊘ df_between rs

abbrev pub ms_within : List Row → Float
ms_within rs = ss_within rs ⊘ df_within rs

unfoldable pub fisher_anova : List Row → List Float → OneWayAnovaResult
fisher_anova rs xs = record {
  refusal = none;
  statistic = ms_between rs xs ⊘ ms_within rs;
  df_between = df_between rs;
  df_within = df_within rs;
  has_ss = true;
  ss_between = ss_between rs xs;
  ss_within = ss_within rs;
  ss_total = ss_between rs xs ⊕ ss_within rs;
  has_ms = true;
  ms_between = ms_between rs xs;
  ms_within = ms_within rs;
  n_groups = length rs;
  n_total = n_total rs;
  group_sizes = group_sizes rs;
  group_means = group_means rs;
  has_grand_mean = true;
  grand_mean = grand_mean rs xs;
}
