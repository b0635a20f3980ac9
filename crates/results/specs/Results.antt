-- The answer of a one-way analysis, and what it is where it is refused.
use Rattle.std.specs.Prelude.{ℕ, false, List, Float, replicate}
use Rattle.base.specs.declared.Refusal.{Refusal}
use Rattle.base.specs.Limits.{most_groups}
use Rattle.float.specs.Words.{plus_zero}
use Rattle.results.specs.declared.OneWayAnovaResult.{OneWayAnovaResult}

-- no group has a reading, or a mean
unfoldable pub no_sizes : List ℕ
no_sizes = replicate most_groups 0

unfoldable pub no_means : List Float
no_means = replicate most_groups plus_zero

-- a refused analysis: every other field is zero
abbrev pub refused_result : Refusal → OneWayAnovaResult
refused_result r = record {
  refusal = r;
  statistic = plus_zero;
  df_between = plus_zero;
  df_within = plus_zero;
  has_ss = false;
  ss_between = plus_zero;
  ss_within = plus_zero;
  ss_total = plus_zero;
  has_ms = false;
  ms_between = plus_zero;
  ms_within = plus_zero;
  n_groups = 0;
  n_total = 0;
  group_sizes = no_sizes;
  group_means = no_means;
  has_grand_mean = false;
  grand_mean = plus_zero;
}
