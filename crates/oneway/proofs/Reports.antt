-- Laws of a report's two checks: unsound rows, and sizes that do not add up to the readings.
use mathlib.Core.Path.{◌≡◌, refl, ap, ◌∙◌}
use mathlib.Core.List.{List}
use Prim.Native.Nat.{ℕ}
use borrow.Author.Tests.{eq-eqb, ne_eqb}
use lib.Ieee.{Float}
use lib.ListN.{length, take}
use Rattle.base.specs.declared.Refusal.{Refusal}
use Rattle.base.specs.Lists.{total}
use Rattle.base.specs.Refusals.{refuse, none}
use Rattle.base.specs.Sizes.{not_adding_up}
use Rattle.base.proofs.Order.{first_wins, second_asked, passed_answer, refused_answer}
use Rattle.oneway_rows.specs.declared.Row.{Row}
use Rattle.oneway_rows.specs.Soundness.{sizes_in, sound_refusal}
use Rattle.results.specs.Results.{refused_result}
use Rattle.oneway.specs.declared.AnovaKind.{AnovaKind}
use Rattle.oneway.specs.declared.AnovaKind.TheVariants.{Fisher, Welch, Levene}
use Rattle.oneway.specs.Fisher.{fisher_anova}
use Rattle.oneway.specs.Welch.{welch_anova}
use Rattle.oneway.specs.Levene.{levene_anova}
use Rattle.oneway.specs.Anova.{anova, report_refusal, rows_report}

-- k rows beside n readings
module _ (k : ℕ) (rows : List Row) (n : ℕ) where
  module _ (z : (sound_refusal k rows).number ≡ 0) {needed : ℕ} (e : needed ≡ total (sizes_in k rows)) where
    pub ten : (needed ≡ n → ⊥) → refuse 10 needed n ≡ report_refusal k rows n
    unfolding report_refusal
    ten f = rw (second_asked (sound_refusal k rows) (not_adding_up n (sizes_in k rows)) z, ← e, ne_eqb needed n f)

    pub adds_up : needed ≡ n → report_refusal k rows n ≡ none
    unfolding report_refusal
    adds_up f = rw (second_asked (sound_refusal k rows) (not_adding_up n (sizes_in k rows)) z, ← e, eq-eqb needed n f)

-- the formulas refuse nothing
pub formulas_accept : (kind : AnovaKind) (rs : List Row) (xs : List Float) → (anova kind rs xs).refusal ≡ none
unfolding anova fisher_anova welch_anova levene_anova
formulas_accept Fisher rs xs = refl
formulas_accept Welch rs xs = refl
formulas_accept Levene rs xs = refl

-- what a caller learns of a report: 13 whatever the readings are, or the formulas where the readings are as many as the rows say
module _ (kind : AnovaKind) (k : ℕ) (rows : List Row) (xs : List Float) where
  pub report_unsound : ((sound_refusal k rows).number ≡ 0 → ⊥) → rows_report kind k rows xs ≡ refused_result (sound_refusal k rows)
  unfolding rows_report report_refusal
  report_unsound f =
      let e = first_wins (sound_refusal k rows) (not_adding_up (length xs) (sizes_in k rows)) f in
      refused_answer (report_refusal k rows (length xs)) refused_result _ (λ z. f (rw e at z)) ∙ ap refused_result e

  pub report_sound : (sound_refusal k rows).number ≡ 0 → total (sizes_in k rows) ≡ length xs → rows_report kind k rows xs ≡ anova kind (take k rows) xs
  unfolding rows_report
  report_sound z e = passed_answer (report_refusal k rows (length xs)) refused_result _ (ap (λ (r : Refusal). r.number) (adds_up k rows (length xs) z refl e))
