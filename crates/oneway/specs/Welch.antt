-- Welch's analysis from the groups' rows rs, operation by operation.
use Rattle.std.specs.Prelude.{ℕ, ◌-◌, ◌*◌, false, cond, List, map, Float, length}
use Rattle.std.specs.Float.Ieee.{lt}
use Rattle.base.specs.Refusals.{none}
use Rattle.float.specs.Words.{◌⊕◌, ◌⊖◌, ◌⊗◌, ◌⊘◌, count, square, plus_zero, one, two, three, largest, tinier}
use Rattle.stats.specs.Sums.{sum_by}
use Rattle.oneway_rows.specs.declared.Row.{Row}
use Rattle.results.specs.declared.OneWayAnovaResult.{OneWayAnovaResult}
use Rattle.oneway.specs.declared.welch.Weighed.{Weighed}
use Rattle.oneway.specs.declared.welch.WelchSums.{WelchSums}
use Rattle.oneway.specs.declared.welch.WelchTest.{WelchTest}
use Rattle.oneway.specs.Summary.{n_total, group_sizes, group_means}

-- a group's variance, from its row
abbrev pub row_variance : Row → Float
row_variance r = r.sq_dev ⊘ count (r.size - 1)

-- its weight among k groups: size over variance, and a k-th of the largest double where the variance is below 1e-15
abbrev pub weight_of : ℕ → Row → Float
weight_of k r = cond (lt (row_variance r) tinier) (largest ⊘ count k) (count r.size ⊘ row_variance r)

abbrev pub weigh : ℕ → Row → Weighed
weigh k r = record { size = r.size; mean = r.mean; weight = weight_of k r }

-- what a group adds: to the weights, to the weighted mean, to the spread of the means about it, and to the adjustment
abbrev pub weight_in : Weighed → Float
weight_in w = w.weight

abbrev pub mean_in : Weighed → Float
mean_in w = w.weight ⊗ w.mean

abbrev pub spread_about : Float → Weighed → Float
spread_about mean w = w.weight ⊗ square (w.mean ⊖ mean)

abbrev pub rest_of : Float → Weighed → Float
rest_of weights w = square (one ⊖ w.weight ⊘ weights) ⊘ count (w.size - 1)

abbrev pub all_weighed : List Row → List Weighed
all_weighed rs = map (weigh (length rs)) rs

-- over the weighed rows ws: the weights, the weighted mean, the spread of the means about it, and the adjustment for unequal variances
abbrev pub sum_weights : List Weighed → Float
sum_weights ws = sum_by weight_in ws

abbrev pub weighted_grand_mean : List Weighed → Float
weighted_grand_mean ws = sum_by mean_in ws ⊘ sum_weights ws

abbrev pub spread : List Weighed → Float
spread ws = sum_by (spread_about (weighted_grand_mean ws)) ws

abbrev pub adjustment : List Weighed → Float
adjustment ws = sum_by (rest_of (sum_weights ws)) ws

abbrev pub welch_sums : List Weighed → WelchSums
welch_sums ws = record { spread = spread ws; adjustment = adjustment ws }

-- the test of k groups with these sums; `(k * k - 1) as f64` comes in twice
abbrev pub k_squared_less_one : ℕ → Float
k_squared_less_one k = count (k * k - 1)

abbrev pub lambda : ℕ → WelchSums → Float
lambda k t = t.adjustment ⊗ three ⊘ k_squared_less_one k

abbrev pub f_numerator : ℕ → WelchSums → Float
f_numerator k t = t.spread ⊘ count (k - 1)

abbrev pub welch_test : ℕ → WelchSums → WelchTest
welch_test k t = record {
  statistic = f_numerator k t ⊘ (one ⊕ two ⊗ lambda k t ⊗ count (k - 2) ⊘ three);
  df_between = count (k - 1);
  df_within = k_squared_less_one k ⊘ (three ⊗ t.adjustment);
}

abbrev pub test_of : List Row → WelchTest
test_of rs = welch_test (length rs) (welch_sums (all_weighed rs))

unfoldable pub welch_anova : List Row → OneWayAnovaResult
welch_anova rs = record {
  refusal = none;
  statistic = (test_of rs).statistic;
  df_between = (test_of rs).df_between;
  df_within = (test_of rs).df_within;
  has_ss = false;
  ss_between = plus_zero;
  ss_within = plus_zero;
  ss_total = plus_zero;
  has_ms = false;
  ms_between = plus_zero;
  ms_within = plus_zero;
  n_groups = length rs;
  n_total = n_total rs;
  group_sizes = group_sizes rs;
  group_means = group_means rs;
  has_grand_mean = false;
  grand_mean = plus_zero;
}
