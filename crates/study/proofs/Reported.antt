-- No number that a study reports is below zero, and none is -0.0: mean squares have a clear sign, a difference below zero gives +0.0, and no other difference is rounded to -0.0.
use Prim.Native.Nat.{ℕ}
use mathlib.Core.Path.{◌≡◌, refl}
use mathlib.Core.Bool.{Bool, true, false, cond}
use mathlib.Core.List.{List}
use native.Mathlib.Omega.{arith}
use borrow.Author.Tests.{eqb-true, eqb-false}
use lib.Dec.{eqb}
use lib.Ieee.{Float, nan, div, lt}
use lib.ListN.{length, get_or}
use Rattle.base.specs.declared.Refusal.{Refusal}
use Rattle.base.specs.Refusals.{refuse}
use Rattle.base.proofs.Order.{both_passed, needed_there, either_answer}
use Rattle.float.specs.Words.{◌⊖◌, ◌⊘◌, count, plus_zero, minus_zero}
use Rattle.float.proofs.Clear.{Clear, zero_clear, count_clear, plus_clear, over_clear, not_below, not_minus_zero}
use Rattle.float.proofs.Gaps.{less_clear}
use Rattle.twoway.specs.declared.TwoWayAnovaResult.{TwoWayAnovaResult}
use Rattle.twoway.proofs.MeanSquares.{MeanSquare, MeanSquares, mean_squares}
use Rattle.twoway_balanced.specs.Squares.{other_count}
use Rattle.twoway_checks.specs.Cells.{cell_counts}
use Rattle.twoway_checks.specs.Checks.{levels, two_way_refusal}
use Rattle.twoway_checks.proofs.Doors.{passed}
use Rattle.lent.specs.Wiping.{wiped}
use Rattle.study.specs.declared.GaugeStudy.{GaugeStudy}
use Rattle.study.specs.Study.{balance_refusal, study_refusal, component_of, components_of, refused_study, untouched, study_of, gauge_study}

-- ---- what is said of a number, and of the five that a study reports
abbrev pub Variance : Float → Type 0
Variance x = (lt x plus_zero ≡ false) × (x ≡ minus_zero → ⊥)

pub record Variances (s : GaugeStudy) : Type 0 where
  pub a : Variance s.component_a
  pub b : Variance s.component_b
  pub ab : Variance s.component_ab
  pub residual : Variance s.component_residual
  pub total : Variance s.component_total

variance : (x : Float) → Clear x → Variance x
variance x c = (not_below x c, not_minus_zero x c)

-- ---- one component, and all of a table
pub nan_stays : (more less : Float) (n : ℕ) → more ⊖ less ≡ nan → component_of more less n ≡ nan
unfolding component_of lt div
nan_stays more less n e = rw e

component_clear : (more less : Float) (n : ℕ) → MeanSquare more → MeanSquare less → Clear (component_of more less n)
unfolding component_of
component_clear more less n m l = go (lt (more ⊖ less) plus_zero) refl
  where
    go : (b : Bool) → lt (more ⊖ less) plus_zero ≡ b → Clear (cond b plus_zero ((more ⊖ less) ⊘ count n))
    go true e = zero_clear
    go false e = over_clear (more ⊖ less) (count n) (less_clear more less m.0 l.0 m.1 l.1 e) (count_clear n)

table_variances : (t : TwoWayAnovaResult) (r : ℕ) → MeanSquares t → Variances (components_of t r)
unfolding components_of
table_variances t r m =
    let a = component_clear _ _ _ m.a m.ab in
    let b = component_clear _ _ _ m.b m.ab in
    let ab = component_clear _ _ _ m.ab m.e in
    let e = m.e.1 in
    record { a = variance _ a; b = variance _ b; ab = variance _ ab; residual = variance _ e; total = variance _ (plus_clear _ _ (plus_clear _ _ (plus_clear _ _ a b) ab) e) }

refused_variances : (r : Refusal) → Variances (refused_study r)
refused_variances r = let z = variance plus_zero zero_clear in record { a = z; b = z; ab = z; residual = z; total = z }

-- ---- every study, accepted or refused
module _ (xs : List Float) (us vs : List ℕ) (scratch : List Float) where
  abbrev refusal : Refusal
  refusal = study_refusal xs us vs (length scratch)

  accepted : refusal.number ≡ 0 → Variances (study_of xs us vs (levels us) (levels vs))
  unfolding study_refusal balance_refusal
  accepted z =
      let ns = cell_counts (levels us) (levels vs) xs us vs in
      let both = both_passed (two_way_refusal xs us vs (length scratch)) (balance_refusal ns) z in
      let design = (passed xs us vs (length scratch) both.0).design in
      let even = eqb-true _ _ (needed_there (eqb (other_count ns) (get_or ns 0 0)) (refuse 10 (get_or ns 0 0) (other_count ns)) (eqb-false 10 0 refl) both.1) in
      table_variances _ _ (mean_squares xs us vs (levels us) (levels vs) (omega (arith, design.low_a)) (omega (arith, design.low_b)) even)

  pub never_negative : Variances (gauge_study xs us vs scratch).1
  unfolding gauge_study
  never_negative = either_answer refusal (untouched scratch) (wiped scratch, study_of xs us vs (levels us) (levels vs)) (λ (x : List Float × GaugeStudy). Variances x.1) accepted (refused_variances refusal)
