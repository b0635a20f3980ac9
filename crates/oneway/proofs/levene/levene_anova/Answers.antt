-- The distances are as many as the readings, and lie as they do: their rows are those of their groups.
use Rattle.std.proofs.Common.{◌∙◌}
use Rattle.oneway_rows.specs.Rows.{empty_rows}
use Rattle.oneway.proofs.Summaries.{far_small, fisher_of_far}
use Rattle.oneway.proofs.levene.levene_anova.Goals as goal

pub fisher_anova-requires : goal.fisher_anova-requires
unfolding empty_rows
fisher_anova-requires c = far_small c.args.rows.now c.args.readings.now c.requires (rw c.empty-far.ensures at c.put_distances.ensures.far)

pub returns : goal.returns
unfolding empty_rows
returns c = c.fisher_anova.ensures ∙ fisher_of_far c.args.rows.now c.args.readings.now c.requires (rw c.empty-far.ensures at c.put_distances.ensures.far) c.put_distances.ensures.out _
