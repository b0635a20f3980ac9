-- Document 01, "Worked numbers", the studies of request W-203 and the skipped columns of W-204: one table of questions and answers, and one theorem that each answer is what the definitions give.
use Rattle.std.specs.Prelude.{ℕ, ◌≡◌, refl, Bool, true, false, cond, Float, replicate}
use mathlib.Core.List.{List, [], ◌∷◌, ◌++◌, map, flatten}
use Rattle.std.specs.Float.{binary64}
use Rattle.std.specs.Float.Ieee.{of_bits, to_bits, add, sub, mul, div, neg, lt, of_int, is_nan}
use Rattle.base.specs.Refusals.{first_fault, guarded}
use Rattle.base.specs.Lists.{total, cut, listed}
use Rattle.stats.specs.Sums.{sum_by, some}
use Rattle.base.specs.Sizes.{sizes_refusal}
use Rattle.oneway_checks.specs.Checks.{group_fault, one_way_refusal}
use Rattle.oneway.specs.declared.AnovaKind.{AnovaKind}
use Rattle.oneway.specs.declared.AnovaKind.TheVariants.{Fisher, Welch, Levene}
use Rattle.results.specs.declared.OneWayAnovaResult.{OneWayAnovaResult}
use Rattle.results.specs.Results.{no_sizes, no_means}
use Rattle.results.specs.declared.Skips.{Skips}
use Rattle.oneway.specs.Fisher.{fisher_anova}
use Rattle.oneway.specs.Welch.{welch_anova}
use Rattle.oneway.specs.Levene.{distances, levene_anova}
use Rattle.oneway.specs.Anova.{anova, one_way_anova}
use Rattle.base.specs.Loop.{loop, turns}
use Rattle.twoway_checks.specs.Cells.{cell, numbers, cells}
use Rattle.twoway_checks.specs.Checks.{largest, shape_refusal, levels_refusal, cells_refusal, two_way_refusal}
use Rattle.twoway_means.specs.Table.{tally_line, no_levels, no_cells, margins, cell_means, ss_error}
use Rattle.twoway_balanced.specs.Squares.{unlike, other_count, mean_line, mean_margins, ab_row, ss_ab, balanced_ss}
use Rattle.twoway.specs.declared.TwoWayAnovaResult.{TwoWayAnovaResult}
use Rattle.twoway.specs.Results.{answer_of, refused_result}
use Rattle.twoway.specs.Anova.{squares_of, two_way_anova}
use Rattle.study.specs.declared.GaugeStudy.{GaugeStudy}
use Rattle.study.specs.Study.{balance_refusal, study_refusal, component_of, components_of, gauge_study}
use Rattle.float.specs.Words.{plus_zero}
use Rattle.float.specs.Singles.{abs_of, is_finite, least_of, greatest_of, clamp_of, power_from, power_of}
use Rattle.base.specs.Lists.{part}
use Rattle.matrix_linear.specs.Determinant.{two_by_two, det_of, matrix_determinant}
use Rattle.matrix_linear.specs.declared.Elimination.{Elimination}
use Rattle.matrix_linear.specs.Skips.{pivot_skips, before_column, skipped_in, skipped_of}
use Rattle.matrix_linear.specs.Rows.{swap_rows, better, pivot_row, pivoted, clear_row, clear_below}
use Rattle.matrix_linear.specs.System.{cleared, column, forward, back_sum, back_value, back_row, backward, solve_linear_system}
use Rattle.matrix_linear.specs.Inverse.{zero_right, unit_row, unit, clear_other, clear_others, scaled, reduced, full_column, full_columns, matrix_inverse}
use Rattle.lent.specs.Wiping.{zeros as lentZeros}
use Rattle.twoway_normal.specs.Coding.{effect_code, codes_from, products_of, products, design_row}
use Rattle.twoway_normal.specs.Tables.{places, table}
use Rattle.twoway_normal.specs.Normal.{row_of, normal_at, normal_system}
use Rattle.twoway_normal.specs.Shape.{factor_fits, fits as type3_fits}
use Rattle.twoway_type3.specs.Matrices.{half_of, left_half}
use Rattle.twoway_type3.specs.Wald.{wald_row, wald_sum, cov_inv, cov_skips}
use Rattle.twoway_type3.specs.Answer.{beta, inverse, solved_skips, effects_from, type3_ss}
use Rattle.repeated_checks.specs.Checks.{design_refusal, subject_fault, repeated_refusal}
use Rattle.repeated_grid.specs.Table.{no_subjects, no_conditions, subject_means, condition_sum, condition_means, ss_total, ss_subjects, ss_conditions}
use Rattle.matrix_places.specs.Places.{refuses, dot, less_row, over_row}
use Rattle.matrix_orthonormal.specs.Orthonormal.{project_row, project_rows, normalize_row, orthonormal_row, orthonormal_rows, orthonormalize}
use Rattle.matrix_product.specs.Product.{product_row, product, blank, csc, matrix_multiply_csc}
use Rattle.matrix_eigen.specs.Qr.{blank_column, column_of, less_column, project, projections, put_column, new_column, normalize, remains, qr_column, qr_columns}
use Rattle.matrix_eigen.specs.Values.{zeros, qr_here, round, rounds, diagonal, compute_eigenvalues}
use Rattle.repeated_contrasts.specs.Covariance.{cov_sum, covariance, cov_row, cov_rows, no_covariances, cov_matrix}
use Rattle.repeated_contrasts.specs.Contrasts.{contrast_row, contrast_rows, contrasts, orthonormal_contrasts, through_contrasts, fits, contrast_covariance}
use Rattle.repeated_sphericity.specs.Epsilons.{values, gg_raw, epsilon_gg, hf_raw, usable, epsilon_hf}
use Rattle.repeated_sphericity.specs.Mauchly.{trace, mean_trace, det, w_raw, mauchly_w, df_w}
use Rattle.repeated_sphericity.specs.Corrections.{csc as cscHere, gg_of, corrections_of, compute_sphericity_corrections}
use Rattle.repeated.specs.declared.RmAnovaResult.{RmAnovaResult}
use Rattle.repeated.specs.Results.{answer_of as repeatedAnswer}
use Rattle.repeated.specs.Anova.{repeated_measures_anova}
use Rattle.root.specs.Root.{sqrt_of}

-- what is asked; readings are given by their bits
pub data Asked : Type 0 where
  OneWay : AnovaKind → List ℕ → List ℕ → Asked
  Root : ℕ → Asked
  TwoWay : List ℕ → List ℕ → List ℕ → Asked
  Study : List ℕ → List ℕ → List ℕ → Asked
  Repeated : Bool → List ℕ → List ℕ → Asked
  TypeIII : List ℕ → List ℕ → ℕ → ℕ → Asked
  System : ℕ → List ℕ → Asked
  Inverse : ℕ → List ℕ → Asked

-- a float by its bits, a mark as 1 or 0
abbrev shown : Float → ℕ
shown x = to_bits binary64 x

abbrev mark : Bool → ℕ
mark b = cond b 1 0

-- the refusal and its details; the groups and the readings; F, the degrees of freedom; the sums of squares, the mean squares and the grand mean, each behind its mark;
-- the sizes of 16 groups and their means
abbrev one_way_line : OneWayAnovaResult → List ℕ
one_way_line r =
    r.refusal.number ∷ r.refusal.first ∷ r.refusal.second
    ∷ r.n_groups ∷ r.n_total
    ∷ shown r.statistic ∷ shown r.df_between ∷ shown r.df_within
    ∷ mark r.has_ss ∷ shown r.ss_between ∷ shown r.ss_within ∷ shown r.ss_total
    ∷ mark r.has_ms ∷ shown r.ms_between ∷ shown r.ms_within
    ∷ mark r.has_grand_mean ∷ shown r.grand_mean
    ∷ r.group_sizes ++ map shown r.group_means

-- what the solver skipped, the inverse of X'X, and the inverses of the blocks of A, B and the interaction
abbrev skips_line : Skips → List ℕ
skips_line s = s.solver ∷ s.inverse ∷ s.block_a ∷ s.block_b ∷ s.block_ab ∷ []

-- the refusal and its details; the sums of squares of A, B, the interaction, the residual and the total; the three F; what was skipped
abbrev two_way_line : TwoWayAnovaResult → List ℕ
two_way_line r =
    r.refusal.number ∷ r.refusal.first ∷ r.refusal.second
    ∷ shown r.factor_a.ss ∷ shown r.factor_b.ss ∷ shown r.interaction.ss ∷ shown r.residual.ss ∷ shown r.total.ss
    ∷ shown r.factor_a.f ∷ shown r.factor_b.f ∷ shown r.interaction.f
    ∷ skips_line r.skips

-- the refusal and its details; the components of A, B, the interaction and the residual, and their total
abbrev study_line : GaugeStudy → List ℕ
study_line r =
    r.refusal.number ∷ r.refusal.first ∷ r.refusal.second
    ∷ shown r.component_a ∷ shown r.component_b ∷ shown r.component_ab ∷ shown r.component_residual ∷ shown r.component_total ∷ []

-- the refusal and its details; the sums of squares of the conditions, the subjects, the error and the total; F; and, behind its mark, W and the two epsilons
abbrev repeated_line : RmAnovaResult → List ℕ
repeated_line r =
    r.refusal.number ∷ r.refusal.first ∷ r.refusal.second
    ∷ shown r.within_subjects.ss ∷ shown r.subjects.ss ∷ shown r.error.ss ∷ shown r.total.ss ∷ shown r.within_subjects.f
    ∷ mark r.has_sphericity ∷ shown r.sphericity.w ∷ shown r.greenhouse_geisser.epsilon ∷ shown r.huynh_feldt.epsilon ∷ []

-- whether the rows were taken, how many columns were skipped, and what the rows then hold
abbrev matrix_line : List Float × Elimination → List ℕ
matrix_line s = mark s.1.taken ∷ s.1.skipped ∷ map shown s.0

-- what is lent
unfoldable pub lent : List Float
lent = replicate 6400 plus_zero

unfoldable pub answer : Asked → List ℕ
answer (OneWay kind xs ns) = one_way_line (one_way_anova kind (map (of_bits binary64) xs) ns)
answer (Root x) = shown (sqrt_of (of_bits binary64 x)) ∷ []
answer (TwoWay xs us vs) = two_way_line (two_way_anova (map (of_bits binary64) xs) us vs lent).1
answer (Study xs us vs) = study_line (gauge_study (map (of_bits binary64) xs) us vs lent).1
answer (Repeated wanted xs ns) = repeated_line (repeated_measures_anova (map (of_bits binary64) xs) ns wanted)
answer (TypeIII us vs a b) = skips_line (type3_ss (map (λ (u : ℕ). plus_zero) us) us vs a b lent).1.skips
answer (System n xs) = matrix_line (solve_linear_system n (map (of_bits binary64) xs))
answer (Inverse n xs) = matrix_line (matrix_inverse n (map (of_bits binary64) xs))

-- a line of the table: the question, and the answer that the paper gives
abbrev Line : Type 0
Line = Asked × List ℕ

-- small whole numbers, and the two answers that are none
abbrev n1 : ℕ
n1 = 0x3FF0000000000000

abbrev n2 : ℕ
n2 = 0x4000000000000000

abbrev n3 : ℕ
n3 = 0x4008000000000000

abbrev n4 : ℕ
n4 = 0x4010000000000000

abbrev n5 : ℕ
n5 = 0x4014000000000000

abbrev n7 : ℕ
n7 = 0x401C000000000000

abbrev n8 : ℕ
n8 = 0x4020000000000000

abbrev n16 : ℕ
n16 = 0x4030000000000000

abbrev n20 : ℕ
n20 = 0x4034000000000000

abbrev n25 : ℕ
n25 = 0x4039000000000000

abbrev n6 : ℕ
n6 = 0x4018000000000000

abbrev n9 : ℕ
n9 = 0x4022000000000000

abbrev n35 : ℕ
n35 = 0x4041800000000000

abbrev n11 : ℕ
n11 = 0x4026000000000000

abbrev n12 : ℕ
n12 = 0x4028000000000000

abbrev n13 : ℕ
n13 = 0x402A000000000000

abbrev n27 : ℕ
n27 = 0x403B000000000000

abbrev n32 : ℕ
n32 = 0x4040000000000000

abbrev n36 : ℕ
n36 = 0x4042000000000000

abbrev n72 : ℕ
n72 = 0x4052000000000000

abbrev n120 : ℕ
n120 = 0x405E000000000000

abbrev half : ℕ
half = 0x3FE0000000000000

abbrev huge : ℕ
huge = 0x7FEE42D130773B76

abbrev infinite : ℕ
infinite = 0x7FF0000000000000

abbrev not_a_number : ℕ
not_a_number = 0x7FF8000000000000

-- a refusal's line: every other field is zero
abbrev refusal : ℕ → ℕ → ℕ → List ℕ
refusal n a b = n ∷ a ∷ b ∷ replicate 46 0

-- what an accepted line of two groups of two readings begins with, and how it ends: their sizes and their means, and zeros for the other groups
abbrev begins : List ℕ
begins = 0 ∷ 0 ∷ 0 ∷ 2 ∷ 4 ∷ []

abbrev ends : ℕ → ℕ → List ℕ
ends first second = 2 ∷ 2 ∷ replicate 14 0 ++ first ∷ second ∷ replicate 14 0

-- Welch's line: F and the degrees of freedom, and no sums of squares
abbrev welch : ℕ → ℕ → ℕ → ℕ → ℕ → List ℕ
welch f b w first second = begins ++ f ∷ b ∷ w ∷ replicate 9 0 ++ ends first second

-- two meters on two benches, two readings a cell: the codes, and P6's readings, cell by cell
abbrev meters : List ℕ
meters = 0 ∷ 0 ∷ 0 ∷ 0 ∷ 1 ∷ 1 ∷ 1 ∷ 1 ∷ []

abbrev benches : List ℕ
benches = 0 ∷ 0 ∷ 1 ∷ 1 ∷ 0 ∷ 0 ∷ 1 ∷ 1 ∷ []

abbrev p6 : List ℕ
p6 = n1 ∷ n3 ∷ n5 ∷ n7 ∷ n3 ∷ n5 ∷ n11 ∷ n13 ∷ []

abbrev lines : List Line
lines =
    -- P1 {1,3},{5,7} Fisher
    (OneWay Fisher (n1 ∷ n3 ∷ n5 ∷ n7 ∷ []) (2 ∷ 2 ∷ []), begins ++ n8 ∷ n1 ∷ n2 ∷ 1 ∷ n16 ∷ n4 ∷ n20 ∷ 1 ∷ n16 ∷ n2 ∷ 1 ∷ n4 ∷ ends n2 n6)
    -- P2 the same, Welch
    ∷ (OneWay Welch (n1 ∷ n3 ∷ n5 ∷ n7 ∷ []) (2 ∷ 2 ∷ []), welch n8 n1 n2 n2 n6)
    -- P3 Welch {1,1},{5,7}
    ∷ (OneWay Welch (n1 ∷ n1 ∷ n5 ∷ n7 ∷ []) (2 ∷ 2 ∷ []), welch n25 n1 n1 n1 n6)
    -- P4 Welch {2,2},{5,7}; and {3,3},{5,7}, where the weighted sum overflows
    ∷ (OneWay Welch (n2 ∷ n2 ∷ n5 ∷ n7 ∷ []) (2 ∷ 2 ∷ []), welch n16 n1 n1 n2 n6)
    ∷ (OneWay Welch (n3 ∷ n3 ∷ n5 ∷ n7 ∷ []) (2 ∷ 2 ∷ []), welch infinite n1 n1 n3 n6)
    -- P5 Fisher {2,2},{2,2}; and {1,1},{3,3}
    ∷ (OneWay Fisher (n2 ∷ n2 ∷ n2 ∷ n2 ∷ []) (2 ∷ 2 ∷ []), begins ++ not_a_number ∷ n1 ∷ n2 ∷ 1 ∷ 0 ∷ 0 ∷ 0 ∷ 1 ∷ 0 ∷ 0 ∷ 1 ∷ n2 ∷ ends n2 n2)
    ∷ (OneWay Fisher (n1 ∷ n1 ∷ n3 ∷ n3 ∷ []) (2 ∷ 2 ∷ []), begins ++ infinite ∷ n1 ∷ n2 ∷ 1 ∷ n4 ∷ 0 ∷ n4 ∷ 1 ∷ n4 ∷ 0 ∷ 1 ∷ n2 ∷ ends n1 n3)
    -- P6 2x2, cells {1,3},{5,7},{3,5},{11,13}; and P7, its study
    ∷ (TwoWay p6 meters benches, 0 ∷ 0 ∷ 0 ∷ n32 ∷ n72 ∷ n8 ∷ n8 ∷ n120 ∷ n16 ∷ n36 ∷ n4 ∷ replicate 5 0)
    ∷ (Study p6 meters benches, 0 ∷ 0 ∷ 0 ∷ n6 ∷ n16 ∷ n3 ∷ n2 ∷ n27 ∷ [])
    -- W-203 the study of {1,3},{5,7},{3,5},{7,9}: the interaction's difference is -2
    ∷ (Study (n1 ∷ n3 ∷ n5 ∷ n7 ∷ n3 ∷ n5 ∷ n7 ∷ n9 ∷ []) meters benches, 0 ∷ 0 ∷ 0 ∷ n2 ∷ n8 ∷ 0 ∷ n2 ∷ n12 ∷ [])
    -- and of {x,-x},{x,-x},{0,0},{0,0} with x = 2^-537: the interaction's difference is -2^-1074, the double next below zero, and half of it would be -0.0
    ∷ (Study (0x1E60000000000000 ∷ 0x9E60000000000000 ∷ 0x1E60000000000000 ∷ 0x9E60000000000000 ∷ replicate 4 0) meters benches, 0 ∷ 0 ∷ 0 ∷ 0 ∷ 0 ∷ 0 ∷ 1 ∷ 1 ∷ [])
    -- P8 one reading a cell; and one reading more, which is accepted: its counts differ, so these are Type III
    ∷ (TwoWay (n1 ∷ n2 ∷ n3 ∷ n5 ∷ []) (0 ∷ 0 ∷ 1 ∷ 1 ∷ []) (0 ∷ 1 ∷ 0 ∷ 1 ∷ []), 2 ∷ 5 ∷ 4 ∷ replicate 13 0)
    ∷ (TwoWay (n1 ∷ n2 ∷ n3 ∷ n5 ∷ n7 ∷ []) (0 ∷ 0 ∷ 1 ∷ 1 ∷ 1 ∷ []) (0 ∷ 1 ∷ 0 ∷ 1 ∷ 1 ∷ []), 0 ∷ 0 ∷ 0 ∷ 0x4024924924924924 ∷ 0x4012492492492494 ∷ 0x3FF2492492492492 ∷ n2 ∷ 0x4037333333333332 ∷ 0x4014924924924924 ∷ 0x4002492492492494 ∷ 0x3FE2492492492492 ∷ replicate 5 0)
    -- P9 the subjects {1,3},{5,9}
    ∷ (Repeated false (n1 ∷ n3 ∷ n5 ∷ n9 ∷ []) (2 ∷ 2 ∷ []), 0 ∷ 0 ∷ 0 ∷ n9 ∷ n25 ∷ n1 ∷ n35 ∷ n9 ∷ 0 ∷ 0 ∷ 0 ∷ 0 ∷ [])
    -- P10 two subjects, three conditions, all zero, with sphericity: a hundred rounds of QR
    ∷ (Repeated true (replicate 6 0) (3 ∷ 3 ∷ []), 0 ∷ 0 ∷ 0 ∷ 0 ∷ 0 ∷ 0 ∷ 0 ∷ not_a_number ∷ 1 ∷ n1 ∷ n1 ∷ n1 ∷ [])
    -- P11 the roots of 4, of 2, of the smallest subnormal, and of -1
    ∷ (Root n4, n2 ∷ [])
    ∷ (Root n2, 0x3FF6A09E667F3BCD ∷ [])
    ∷ (Root 1, 0x1E60000000000000 ∷ [])
    ∷ (Root 0xBFF0000000000000, not_a_number ∷ [])
    -- P12 one group; seventeen groups
    ∷ (OneWay Fisher (n1 ∷ n3 ∷ []) (2 ∷ []), refusal 3 1 0)
    ∷ (OneWay Fisher (replicate 34 n1) (replicate 17 2), refusal 11 1 17)
    -- W-204 the system {0} with the right side 1: its one column is skipped, and x is +0.0; and the inverse of {0}, where the 1 of the unit matrix stays
    ∷ (System 1 (0 ∷ n1 ∷ []), 1 ∷ 1 ∷ 0 ∷ 0 ∷ [])
    ∷ (Inverse 1 (0 ∷ 0 ∷ []), 1 ∷ 1 ∷ 0 ∷ n1 ∷ [])
    -- and of {1e-15, 1e20}, {1e-15, 1}: the first column is skipped, and the second takes its multiple from that row, so that no small number is left on the diagonal
    ∷ (Inverse 2 (0x3CD203AF9EE75616 ∷ 0x4415AF1D78B58C40 ∷ 0 ∷ 0 ∷ 0x3CD203AF9EE75616 ∷ n1 ∷ 0 ∷ 0 ∷ []), 1 ∷ 1 ∷ 0xC0F86A0000000001 ∷ 0 ∷ n1 ∷ 0xC415AF1D78B58C40 ∷ 0x3CD203AF9EE75616 ∷ n1 ∷ 0 ∷ n1 ∷ [])
    -- and what Type III skips in 4 by 3 levels with readings in four cells alone, which a two-way analysis refuses with 7
    ∷ (TypeIII (0 ∷ 0 ∷ 0 ∷ 0 ∷ 3 ∷ []) (0 ∷ 1 ∷ 1 ∷ 2 ∷ 0 ∷ []) 4 3, 9 ∷ 8 ∷ 0 ∷ 1 ∷ 0 ∷ [])
    ∷ []

abbrev asked : Line → List ℕ
asked l = answer l.0

abbrev given : Line → List ℕ
given l = l.1

pub worked : map asked lines ≡ map given lines
unfolding answer refused_result type3_ss factor_fits type3_fits effects_from beta inverse solved_skips wald_row wald_sum cov_inv cov_skips pivot_skips before_column skipped_in skipped_of row_of normal_at normal_system places table half_of left_half effect_code codes_from products_of products design_row lentZeros zero_right unit_row unit clear_other clear_others scaled reduced full_column full_columns matrix_inverse cleared column forward back_sum back_value back_row backward solve_linear_system swap_rows better pivot_row pivoted clear_row clear_below repeated_measures_anova repeatedAnswer repeated_refusal design_refusal first_fault subject_fault no_subjects no_conditions subject_means condition_sum condition_means ss_total ss_subjects ss_conditions part compute_sphericity_corrections corrections_of cscHere gg_of values gg_raw epsilon_gg hf_raw usable epsilon_hf trace mean_trace det w_raw mauchly_w df_w matrix_determinant det_of two_by_two abs_of is_finite least_of greatest_of clamp_of power_from power_of contrast_covariance fits through_contrasts orthonormal_contrasts contrasts contrast_rows contrast_row cov_matrix cov_rows cov_row no_covariances covariance cov_sum compute_eigenvalues diagonal rounds round qr_here zeros qr_columns qr_column remains normalize new_column put_column projections project less_column column_of blank_column matrix_multiply_csc csc blank product product_row orthonormalize orthonormal_rows orthonormal_row normalize_row project_rows project_row over_row less_row refuses dot lent two_way_anova squares_of answer_of two_way_refusal shape_refusal levels_refusal cells_refusal largest cells cell numbers tally_line listed no_levels no_cells margins cell_means ss_error unlike other_count mean_line mean_margins ab_row ss_ab balanced_ss balance_refusal study_refusal component_of components_of gauge_study loop turns one_way_anova anova fisher_anova welch_anova no_sizes no_means one_way_refusal sizes_refusal group_fault guarded total cut some sum_by sqrt_of of_bits to_bits add sub mul div neg lt of_int is_nan
worked = refl

-- Levene's analysis, of request W-201
abbrev levene_lines : List Line
levene_lines =
    -- W-201 Levene {1,2,6},{5,5,5}: the distances are 2, 1, 3 and 0, 0, 0
    (OneWay Levene (n1 ∷ n2 ∷ n6 ∷ n5 ∷ n5 ∷ n5 ∷ []) (3 ∷ 3 ∷ []), 0 ∷ 0 ∷ 0 ∷ 2 ∷ 6 ∷ n12 ∷ n1 ∷ n4 ∷ 1 ∷ n6 ∷ n2 ∷ n8 ∷ 1 ∷ n6 ∷ half ∷ 1 ∷ n1 ∷ 3 ∷ 3 ∷ replicate 14 0 ++ n2 ∷ 0 ∷ replicate 14 0)
    -- {1,3},{5,7}, where all distances are 1
    ∷ (OneWay Levene (n1 ∷ n3 ∷ n5 ∷ n7 ∷ []) (2 ∷ 2 ∷ []), begins ++ not_a_number ∷ n1 ∷ n2 ∷ 1 ∷ 0 ∷ 0 ∷ 0 ∷ 1 ∷ 0 ∷ 0 ∷ 1 ∷ n1 ∷ ends n1 n1)
    -- {inf,1},{2,3}, whose first mean is infinite and whose first distance is a NaN; and {x,x},{2,3} with x = 1.7e308, whose first mean overflows: both distances from it are infinite
    ∷ (OneWay Levene (infinite ∷ n1 ∷ n2 ∷ n3 ∷ []) (2 ∷ 2 ∷ []), begins ++ not_a_number ∷ n1 ∷ n2 ∷ 1 ∷ not_a_number ∷ not_a_number ∷ not_a_number ∷ 1 ∷ not_a_number ∷ not_a_number ∷ 1 ∷ not_a_number ∷ ends not_a_number half)
    ∷ (OneWay Levene (huge ∷ huge ∷ n2 ∷ n3 ∷ []) (2 ∷ 2 ∷ []), begins ++ not_a_number ∷ n1 ∷ n2 ∷ 1 ∷ not_a_number ∷ not_a_number ∷ not_a_number ∷ 1 ∷ not_a_number ∷ not_a_number ∷ 1 ∷ infinite ∷ ends infinite half)
    ∷ []

pub worked_levene : map asked levene_lines ≡ map given levene_lines
unfolding answer one_way_anova anova levene_anova fisher_anova distances flatten no_sizes no_means one_way_refusal sizes_refusal group_fault guarded first_fault total cut some sum_by row_of abs_of refused_result of_bits to_bits add sub mul div neg lt of_int is_nan
worked_levene = refl
