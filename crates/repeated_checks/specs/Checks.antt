-- The checks of repeated measures in document 01's order. The readings xs lie subject by subject; ns are the lengths of the subjects' rows.
use Rattle.std.specs.Prelude.{ℕ, List, ltb, eqb, Float, length, get_or}
use Rattle.base.specs.declared.Refusal.{Refusal}
use Rattle.base.specs.Limits.{most_subjects, most_conditions}
use Rattle.base.specs.Lists.{cut}
use Rattle.base.specs.Refusals.{refuse, when, unless, ◌or_else◌, first_fault}
use Rattle.base.specs.Sizes.{sizes_refusal}
use Rattle.stats.specs.Sums.{has_nan}

-- the conditions are the first subject's readings; 0 where there is no subject
abbrev pub conditions : List ℕ → ℕ
conditions ns = get_or ns 0 0

-- n subjects and k conditions: too many conditions, too few subjects, too few conditions
unfoldable pub design_refusal : ℕ → ℕ → Refusal
design_refusal n k =
    when (ltb most_conditions k) (refuse 11 4 k)
    or_else when (ltb n 2) (refuse 2 2 n)
    or_else when (ltb k 2) (refuse 8 k 0)

-- subject number i, counted from 1, where there are k conditions: a row of another length, or a NaN
unfoldable pub subject_fault : ℕ → ℕ → List Float → Refusal
subject_fault k i row =
    unless (eqb (length row) k) (refuse 9 i (length row))
    or_else when (has_nan row) (refuse 4 i 0)

-- subject by subject; the first of these rows has the number i
abbrev pub subjects_refusal : ℕ → ℕ → List (List Float) → Refusal
subjects_refusal k i rows = first_fault (subject_fault k) i rows

-- all the checks
unfoldable pub repeated_refusal : List Float → List ℕ → Refusal
repeated_refusal xs ns =
    sizes_refusal most_subjects 3 (length xs) ns
    or_else design_refusal (length ns) (conditions ns)
    or_else subjects_refusal (conditions ns) 1 (cut ns xs)
