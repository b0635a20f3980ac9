-- The answer of a repeated-measures analysis of n subjects and k conditions: its table, and what it is where it is refused.
use Rattle.std.specs.Prelude.{ℕ, Bool, false, cond, List, leb, Float}
use Rattle.base.specs.declared.Refusal.{Refusal}
use Rattle.base.specs.Refusals.{none}
use Rattle.float.specs.Words.{◌⊖◌, ◌⊗◌, ◌⊘◌, count, one, plus_zero}
use Rattle.repeated_grid.specs.declared.RmTable.{RmTable}
use Rattle.repeated_grid.specs.Table.{no_subjects, no_conditions}
use Rattle.results.specs.Rows.{effect_row, plain_row, no_row}
use Rattle.results.specs.declared.Corrections.{Corrections}
use Rattle.results.specs.Corrections.{no_corrections}
use Rattle.repeated_sphericity.specs.Corrections.{compute_sphericity_corrections}
use Rattle.repeated.specs.declared.RmAnovaResult.{RmAnovaResult}

-- the degrees of freedom, worked out in floats as the source does
abbrev pub df_subjects : ℕ → Float
df_subjects n = count n ⊖ one

abbrev pub df_conditions : ℕ → Float
df_conditions k = count k ⊖ one

abbrev pub df_error : ℕ → ℕ → Float
df_error n k = (count n ⊖ one) ⊗ (count k ⊖ one)

abbrev pub df_total : ℕ → ℕ → Float
df_total n k = count n ⊗ count k ⊖ one

-- F of the conditions: their mean square over the error's
abbrev pub f_conditions : ℕ → ℕ → RmTable → Float
f_conditions n k t = t.ss_conditions ⊘ df_conditions k ⊘ (t.ss_error ⊘ df_error n k)

-- sphericity is worked out where it is asked for and there are three conditions or more
abbrev pub asked : Bool → ℕ → Bool
asked wanted k = cond wanted (leb 3 k) false

-- its results, or zeros
abbrev pub corrections_of : List Float → List Float → ℕ → ℕ → Bool → Float → Float → Float → Corrections
corrections_of xs means n k is f dfNum dfDen = cond is (compute_sphericity_corrections n k xs means f dfNum dfDen) no_corrections

-- the answer from the table t and the results of sphericity s
abbrev pub with_corrections : ℕ → ℕ → RmTable → Bool → Corrections → RmAnovaResult
with_corrections n k t is s = record {
  refusal = none;
  n_subjects = n;
  n_conditions = k;
  within_subjects = effect_row t.ss_conditions (df_conditions k) (t.ss_error ⊘ df_error n k);
  subjects = plain_row t.ss_subjects (df_subjects n);
  error = plain_row t.ss_error (df_error n k);
  total = plain_row t.ss_total (df_total n k);
  has_sphericity = is;
  sphericity = s.sphericity;
  greenhouse_geisser = s.greenhouse_geisser;
  huynh_feldt = s.huynh_feldt;
  grand_mean = t.grand_mean;
  condition_means = t.condition_means;
  subject_means = t.subject_means;
}

-- the answer of readings xs with the table t
unfoldable pub answer_of : List Float → ℕ → ℕ → RmTable → Bool → RmAnovaResult
answer_of xs n k t wanted =
    with_corrections n k t (asked wanted k)
    (corrections_of xs t.condition_means n k (asked wanted k) (f_conditions n k t) (df_conditions k) (df_error n k))

-- a refused analysis: every other field is zero
unfoldable pub refused_result : Refusal → RmAnovaResult
refused_result r = record {
  refusal = r;
  n_subjects = 0;
  n_conditions = 0;
  within_subjects = no_row;
  subjects = no_row;
  error = no_row;
  total = no_row;
  has_sphericity = false;
  sphericity = no_corrections.sphericity;
  greenhouse_geisser = no_corrections.greenhouse_geisser;
  huynh_feldt = no_corrections.huynh_feldt;
  grand_mean = plus_zero;
  condition_means = no_conditions;
  subject_means = no_subjects;
}
