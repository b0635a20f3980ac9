-- The gauge study: two-way's checks, then balance; and the components of variance from the mean squares.
use Rattle.std.specs.Prelude.{ℕ, ◌*◌, cond, List, eqb, Float, length, get_or}
use Rattle.std.specs.Float.Ieee.{lt}
use Rattle.base.specs.declared.Refusal.{Refusal}
use Rattle.base.specs.Refusals.{refuse, none, unless, ◌or_else◌, guarded}
use Rattle.float.specs.Words.{◌⊕◌, ◌⊖◌, ◌⊘◌, count, plus_zero}
use Rattle.twoway_checks.specs.Cells.{cell_counts}
use Rattle.twoway_checks.specs.Checks.{levels, two_way_refusal}
use Rattle.twoway_balanced.specs.Squares.{other_count}
use Rattle.lent.specs.Wiping.{wiped}
use Rattle.twoway.specs.declared.TwoWayAnovaResult.{TwoWayAnovaResult}
use Rattle.twoway.specs.Anova.{two_way_of}
use Rattle.study.specs.declared.GaugeStudy.{GaugeStudy}

-- not all cells have as many readings as the first: its count, and that of the first cell that differs
unfoldable pub balance_refusal : List ℕ → Refusal
balance_refusal ns = unless (eqb (other_count ns) (get_or ns 0 0)) (refuse 10 (get_or ns 0 0) (other_count ns))

unfoldable pub study_refusal : List Float → List ℕ → List ℕ → ℕ → Refusal
study_refusal xs us vs lent = two_way_refusal xs us vs lent or_else balance_refusal (cell_counts (levels us) (levels vs) xs us vs)

-- a component: the difference of two mean squares over n readings; +0.0 where the difference is below zero
unfoldable pub component_of : Float → Float → ℕ → Float
component_of more less n = cond (lt (more ⊖ less) plus_zero) plus_zero ((more ⊖ less) ⊘ count n)

-- the components of a table with r readings a cell: (MS_AB - MS_E)/r, (MS_A - MS_AB)/(b r), (MS_B - MS_AB)/(a r), none below zero; and MS_E
module _ (t : TwoWayAnovaResult) (r : ℕ) where
  abbrev pub component_ab : Float
  component_ab = component_of t.interaction.ms t.residual.ms r

  abbrev pub component_a : Float
  component_a = component_of t.factor_a.ms t.interaction.ms (t.levels_b * r)

  abbrev pub component_b : Float
  component_b = component_of t.factor_b.ms t.interaction.ms (t.levels_a * r)

  -- the total adds the reported A, B, interaction, residual in that order; r readings are those of one cell
  unfoldable pub components_of : GaugeStudy
  components_of = record {
    refusal = none;
    meters = t.levels_a;
    benches = t.levels_b;
    readings = r;
    component_a = component_a;
    component_b = component_b;
    component_ab = component_ab;
    component_residual = t.residual.ms;
    component_total = component_a ⊕ component_b ⊕ component_ab ⊕ t.residual.ms;
  }

-- a refused study: every other field is zero
abbrev pub refused_study : Refusal → GaugeStudy
refused_study r = record { refusal = r; meters = 0; benches = 0; readings = 0; component_a = plus_zero; component_b = plus_zero; component_ab = plus_zero; component_residual = plus_zero; component_total = plus_zero }

abbrev pub untouched : List Float → Refusal → List Float × GaugeStudy
untouched scratch r = (scratch, refused_study r)

abbrev pub study_of : List Float → List ℕ → List ℕ → ℕ → ℕ → GaugeStudy
study_of xs us vs a b = components_of (two_way_of xs us vs a b) (get_or (cell_counts a b xs us vs) 0 0)

-- the call: what it leaves in the scratch, and its answer
unfoldable pub gauge_study : List Float → List ℕ → List ℕ → List Float → List Float × GaugeStudy
gauge_study xs us vs scratch = guarded (study_refusal xs us vs (length scratch)) (untouched scratch) (wiped scratch, study_of xs us vs (levels us) (levels vs))
