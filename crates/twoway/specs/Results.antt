-- The answer of a two-way analysis: its table, and what it is where it is refused.
use Rattle.std.specs.Prelude.{ℕ, ◌-◌, ◌*◌, List, Float, length}
use Rattle.base.specs.declared.Refusal.{Refusal}
use Rattle.base.specs.Refusals.{none}
use Rattle.float.specs.Words.{◌⊘◌, count, plus_zero}
use Rattle.stats.specs.Sums.{mean_of, sq_dev}
use Rattle.results.specs.Rows.{effect_row, plain_row, no_row}
use Rattle.twoway_means.specs.declared.CellTable.{CellTable}
use Rattle.twoway_means.specs.Table.{no_levels, no_cells}
use Rattle.results.specs.Effects.{no_skips}
use Rattle.results.specs.declared.Effects.{Effects}
use Rattle.twoway.specs.declared.TwoWayAnovaResult.{TwoWayAnovaResult}

-- the residual's mean square
abbrev pub ms_error : List Float → ℕ → ℕ → CellTable → Float
ms_error xs a b t = t.ss_error ⊘ count (length xs - a * b)

-- the whole answer of readings xs, a and b levels, the cells' table t and the effects e; the grand mean and the total are of all readings in their order
unfoldable pub answer_of : List Float → ℕ → ℕ → CellTable → Effects → TwoWayAnovaResult
answer_of xs a b t e = record {
  refusal = none;
  factor_a = effect_row e.ss_a (count (a - 1)) (ms_error xs a b t);
  factor_b = effect_row e.ss_b (count (b - 1)) (ms_error xs a b t);
  interaction = effect_row e.ss_ab (count ((a - 1) * (b - 1))) (ms_error xs a b t);
  residual = plain_row t.ss_error (count (length xs - a * b));
  total = plain_row (sq_dev (mean_of xs) xs) (count (length xs - 1));
  levels_a = a;
  levels_b = b;
  n = length xs;
  grand_mean = mean_of xs;
  cell_means = t.cell_means;
  marginal_means_a = t.marginal_means_a;
  marginal_means_b = t.marginal_means_b;
  skips = e.skips;
}

-- a refused analysis: every other field is zero
unfoldable pub refused_result : Refusal → TwoWayAnovaResult
refused_result r = record {
  refusal = r;
  factor_a = no_row;
  factor_b = no_row;
  interaction = no_row;
  residual = no_row;
  total = no_row;
  levels_a = 0;
  levels_b = 0;
  n = 0;
  grand_mean = plus_zero;
  cell_means = no_cells;
  marginal_means_a = no_levels;
  marginal_means_b = no_levels;
  skips = no_skips;
}
