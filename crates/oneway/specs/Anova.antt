-- The one-way analysis: the checks, and behind them Fisher's, Welch's or Levene's formulas over the groups' rows.
use Rattle.std.specs.Prelude.{ℕ, List, map, Float, length, take}
use Rattle.base.specs.declared.Refusal.{Refusal}
use Rattle.base.specs.Lists.{cut}
use Rattle.base.specs.Refusals.{◌or_else◌, guarded}
use Rattle.base.specs.Sizes.{not_adding_up}
use Rattle.oneway_rows.specs.declared.Row.{Row}
use Rattle.oneway_checks.specs.Checks.{one_way_refusal}
use Rattle.oneway_rows.specs.Rows.{row_of}
use Rattle.oneway_rows.specs.Soundness.{sizes_in, sound_refusal}
use Rattle.results.specs.declared.OneWayAnovaResult.{OneWayAnovaResult}
use Rattle.oneway.specs.declared.AnovaKind.{AnovaKind}
use Rattle.oneway.specs.declared.AnovaKind.TheVariants.{Fisher, Welch, Levene}
use Rattle.results.specs.Results.{refused_result}
use Rattle.oneway.specs.Fisher.{fisher_anova}
use Rattle.oneway.specs.Welch.{welch_anova}
use Rattle.oneway.specs.Levene.{levene_anova}

-- the formulas of a kind, over the rows rs and the readings xs
unfoldable pub anova : AnovaKind → List Row → List Float → OneWayAnovaResult
anova Fisher rs xs = fisher_anova rs xs
anova Welch rs xs = welch_anova rs
anova Levene rs xs = levene_anova rs xs

unfoldable pub one_way_anova : AnovaKind → List Float → List ℕ → OneWayAnovaResult
one_way_anova kind xs ns = guarded (one_way_refusal xs ns) refused_result (anova kind (map row_of (cut ns xs)) xs)

-- k rows that the caller holds, beside n readings: unsound rows, then sizes that do not add up
unfoldable pub report_refusal : ℕ → List Row → ℕ → Refusal
report_refusal k rows n = sound_refusal k rows or_else not_adding_up n (sizes_in k rows)

-- the same formulas over the first k of those rows, which are only checked for their counts
unfoldable pub rows_report : AnovaKind → ℕ → List Row → List Float → OneWayAnovaResult
rows_report kind k rows xs = guarded (report_refusal k rows (length xs)) refused_result (anova kind (take k rows) xs)
