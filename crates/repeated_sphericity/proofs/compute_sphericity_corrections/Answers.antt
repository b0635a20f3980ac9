-- Fewer than three conditions, or sizes that the covariance does not take, give zeros; else its matrix is handed on.
use mathlib.Core.Path.{◌∙◌}
use Rattle.matrix_eigen.specs.Values.{zeros}
use Rattle.repeated_sphericity.specs.Corrections.{csc}
use Rattle.repeated_sphericity.proofs.Fitted.{not_taken_lem, known}
use Rattle.repeated_sphericity.proofs.compute_sphericity_corrections.Goals as goal

pub invariant_of-corrections_of : goal.invariant_of-corrections_of
unfolding csc zeros
invariant_of-corrections_of c =
    let k = known _ _ _ _ c.if-k-lt3.false c.contrast_covariance.ensures c.if-contrast_covariance.true in
    record { few_subjects = k.few_subjects; some_conditions = k.some_conditions; few_conditions = k.few_conditions }

pub returns-else-contrast_covariance : goal.returns-else-contrast_covariance
unfolding csc zeros
returns-else-contrast_covariance c = c.no_corrections-else-contrast_covariance.ensures ∙ not_taken_lem _ _ _ _ _ _ _ c.if-k-lt3.false c.contrast_covariance.ensures c.if-contrast_covariance.false
