-- What a caller of `validate_anova_groups` knows of its answer.
use mathlib.Core.Path.{◌≡◌, refl, sym, ◌∙◌}
use mathlib.Core.List.{List}
use Prim.Native.Nat.{ℕ}
use lib.Ieee.{Float}
use Rattle.base.specs.declared.Refusal.{Refusal}
use Rattle.base.specs.Lists.{cut}
use Rattle.base.proofs.Order.{told, told_which}
use Rattle.oneway_rows.specs.declared.GroupStats.{GroupStats}
use Rattle.oneway_checks.specs.Checks.{one_way_refusal}
use Rattle.oneway_rows.specs.Rows.{group_stats, refused_stats, validate_anova_groups}

abbrev refusal_in : GroupStats → Refusal
refusal_in s = s.refusal

module _ (xs : List Float) (ns : List ℕ) (s : GroupStats) (e : s ≡ validate_anova_groups xs ns) where
  pub which : (s.refusal.number ≡ 0 → ⊥) → s.refusal ≡ one_way_refusal xs ns
  unfolding validate_anova_groups
  which n = told_which (one_way_refusal xs ns) refused_stats (group_stats (cut ns xs)) refusal_in (λ r. refl) refl e n

  pub passes : s.refusal.number ≡ 0 → (one_way_refusal xs ns).number ≡ 0
  unfolding validate_anova_groups
  passes z = sym (told (one_way_refusal xs ns) refused_stats (group_stats (cut ns xs)) refusal_in (λ r. refl) refl e) ∙ z
