-- A report asks 13 first, then 10 with the sum of the rows' sizes, and the formulas have the first k rows as they are.
use Rattle.std.proofs.Common.{rules, ◌≡◌, sym, ◌∙◌, take, length, arith}
use Rattle.base.proofs.Order.{was_passed}
use Rattle.oneway_rows.proofs.Counted.{sound, sizes_added}
use Rattle.oneway.proofs.Summaries.{small_sound, parted_rows}
use Rattle.oneway.proofs.report.Goals as goal

pub slice_bounds-rows-end : goal.slice_bounds-rows-end
slice_bounds-rows-end c =
    let n : length c.args.rows ≡ 16 = search rules in
    let s = sound _ _ (was_passed _ tt c.rows_refusal.ensures c.in_default.is) in
    omega (arith, n, s.high)

pub n_total-needed-requires : goal.n_total-needed-requires
n_total-needed-requires c = small_sound _ _ (was_passed _ tt c.rows_refusal.ensures c.in_default.is)

pub anova-requires : goal.anova-requires
anova-requires c = parted_rows c.args.k c.args.rows (was_passed _ tt c.rows_refusal.ensures c.in_default.is) (sym (c.n_total-needed.ensures ∙ sizes_added (take c.args.k c.args.rows)) ∙ c.if-needed-readings.false)
