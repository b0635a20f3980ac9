-- The repeated-measures analysis: the checks, and behind them the table, the effects and sphericity. Readings are xs, the lengths of the subjects' rows ns.
use Rattle.std.specs.Prelude.{ℕ, Bool, List, Float, length}
use Rattle.base.specs.Refusals.{guarded}
use Rattle.repeated_checks.specs.Checks.{conditions, repeated_refusal}
use Rattle.repeated_grid.specs.Table.{table_of}
use Rattle.repeated.specs.declared.RmAnovaResult.{RmAnovaResult}
use Rattle.repeated.specs.Results.{answer_of, refused_result}

-- the analysis of n subjects and k conditions
abbrev pub repeated_of : List Float → ℕ → ℕ → Bool → RmAnovaResult
repeated_of xs n k wanted = answer_of xs n k (table_of xs n k) wanted

-- the call
unfoldable pub repeated_measures_anova : List Float → List ℕ → Bool → RmAnovaResult
repeated_measures_anova xs ns wanted = guarded (repeated_refusal xs ns) refused_result (repeated_of xs (length ns) (conditions ns) wanted)
