-- Readings that passed the checks are parted into groups (`parted`), and the rows that were put stand for the groups' own (`Stands`).
use Rattle.std.proofs.Common.{sym, ◌∙◌, arith}
use lib.Seq.{length-take-le}
use Rattle.base.proofs.Order.{passed_answer, was_passed}
use Rattle.oneway_checks.specs.Checks.{one_way_refusal}
use Rattle.oneway_rows.specs.Rows.{empty_rows}
use Rattle.oneway_rows.proofs.Parts.{parted}
use Rattle.results.specs.Results.{refused_result}
use Rattle.oneway.specs.Anova.{one_way_anova}
use Rattle.oneway.proofs.Summaries.{Stands, own_stand, means_stand}
use Rattle.oneway.proofs.one_way_anova.Goals as goal
use Rattle.oneway.proofs.one_way_anova.Goals.{in-Fisher, in-Levene}

pub slice_bounds-anova-end : goal.slice_bounds-anova-end
slice_bounds-anova-end c =
    let p = parted _ _ (was_passed _ tt c.one_way_refusal.ensures c.in_default.is) in
    sym (length-take-le _ _ (omega (arith, c.match-kind.array_long, p.sizes.rows)))

pub anova-requires : goal.anova-requires
unfolding empty_rows
anova-requires c =
    let p = parted _ _ (was_passed _ tt c.one_way_refusal.ensures c.in_default.is) in
    let st : Stands c.args.kind c.args.readings.now c.args.sizes.now c.match-kind.rows
    = elim c.match-kind.branch [
      | in-Fisher w ↦ own_stand _ _ p (w.rows-is ∙ rw c.empty-rows.ensures at w.put_rows.ensures) c.args.kind
      | in-Levene w ↦ rw w.in-Levene.is (means_stand _ _ p (w.rows-is ∙ rw c.empty-rows.ensures at w.put_means.ensures))
    ] in
    st.parted_here

pub returns : goal.returns
unfolding one_way_anova empty_rows
returns c =
    let z = was_passed _ tt c.one_way_refusal.ensures c.in_default.is in
    let p = parted _ _ z in
    let st : Stands c.args.kind c.args.readings.now c.args.sizes.now c.match-kind.rows
    = elim c.match-kind.branch [
      | in-Fisher w ↦ own_stand _ _ p (w.rows-is ∙ rw c.empty-rows.ensures at w.put_rows.ensures) c.args.kind
      | in-Levene w ↦ rw w.in-Levene.is (means_stand _ _ p (w.rows-is ∙ rw c.empty-rows.ensures at w.put_means.ensures))
    ] in
    c.anova.ensures ∙ (st.same ∙ sym (passed_answer (one_way_refusal c.args.readings.now c.args.sizes.now) refused_result _ z))
