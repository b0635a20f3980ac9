-- The counts of skipped columns in every answer: zeros where the call is refused and where all cells have as many readings, since nothing is eliminated there; else those told from the matrix before each column.
use Prim.Native.Nat.{ℕ, ◌*◌}
use mathlib.Core.Path.{◌≡◌, refl, ap, ◌∙◌}
use mathlib.Core.Bool.{Bool, true, false, cond}
use mathlib.Core.List.{List}
use borrow.Author.Tests.{eq-eqb, ne_eqb}
use lib.Dec.{ltb, eqb}
use lib.Ieee.{Float}
use lib.ListN.{length, get_or}
use Rattle.base.proofs.Order.{passed_answer, refused_answer}
use Rattle.results.specs.Effects.{no_skips, no_effects}
use Rattle.twoway_balanced.specs.Squares.{other_count, effects_of, balanced_ss}
use Rattle.twoway_checks.specs.Cells.{cell_counts}
use Rattle.twoway_checks.specs.Checks.{levels, two_way_refusal}
use Rattle.twoway.specs.declared.TwoWayAnovaResult.{TwoWayAnovaResult}
use Rattle.twoway.specs.Results.{answer_of, refused_result}
use Rattle.twoway.specs.Anova.{squares_of, untouched, two_way_anova}
use Rattle.twoway.proofs.Guards.{told_skips, guards_passed}

-- no balanced design has a count
balanced_none : (ms : List Float) (r a b : ℕ) → (balanced_ss ms r a b).skips ≡ no_skips
unfolding balanced_ss
balanced_none ms r a b = go (ltb 6 a) (ltb 6 b) (ltb 512 r) (eqb (length ms) (a * b))
  where
    go : (s t u v : Bool) → (cond s no_effects (cond t no_effects (cond u no_effects (cond v (effects_of ms r a b) no_effects)))).skips ≡ no_skips
    go true t u v = refl
    go false true u v = refl
    go false false true v = refl
    go false false false true = refl
    go false false false false = refl

module _ (xs : List Float) (us vs : List ℕ) (scratch : List Float) where
  abbrev counts : List ℕ
  counts = cell_counts (levels us) (levels vs) xs us vs

  abbrev answer : TwoWayAnovaResult
  answer = (two_way_anova xs us vs scratch).1

  pub refused_none : ((two_way_refusal xs us vs (length scratch)).number ≡ 0 → ⊥) → answer.skips ≡ no_skips
  unfolding two_way_anova refused_result
  refused_none n = ap (λ (x : List Float × TwoWayAnovaResult). x.1.skips) (refused_answer (two_way_refusal xs us vs (length scratch)) (untouched scratch) _ n)

  module _ (accepted : (two_way_refusal xs us vs (length scratch)).number ≡ 0) where
    pub balanced_none_skipped : other_count counts ≡ get_or counts 0 0 → answer.skips ≡ no_skips
    unfolding two_way_anova answer_of squares_of
    balanced_none_skipped even =
        ap (λ (x : List Float × TwoWayAnovaResult). x.1.skips) (passed_answer (two_way_refusal xs us vs (length scratch)) (untouched scratch) _ accepted)
        ∙ rw (eq-eqb (other_count counts) (get_or counts 0 0) even) (balanced_none _ _ _ _)

    pub skips_told : (other_count counts ≡ get_or counts 0 0 → ⊥) → answer.skips ≡ told_skips xs us vs (levels us) (levels vs)
    unfolding two_way_anova answer_of squares_of
    skips_told uneven =
        ap (λ (x : List Float × TwoWayAnovaResult). x.1.skips) (passed_answer (two_way_refusal xs us vs (length scratch)) (untouched scratch) _ accepted)
        ∙ rw (ne_eqb (other_count counts) (get_or counts 0 0) uneven) (guards_passed xs us vs scratch accepted).counted
