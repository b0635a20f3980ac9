-- The sums of squares of a balanced design have a clear sign, whatever the cells' means are.
use Prim.Native.Nat.{ℕ, ◌*◌, ◌≤◌, ◌<◌, zero-le}
use mathlib.Core.Path.{◌≡◌, refl, sym, ◌∙◌}
use mathlib.Core.Bool.{Bool, true, false, cond}
use mathlib.Core.List.{List}
use native.Mathlib.Omega.{arith}
use borrow.Author.Tests.{ltb-false}
use lib.Dec.{ltb, eqb}
use lib.Ieee.{Float}
use lib.ListN.{length, take}
use Rattle.base.proofs.Loops.{keeps}
use Rattle.float.specs.Words.{◌⊗◌, count, plus_zero}
use Rattle.float.proofs.Clear.{Clear, zero_clear, count_clear, plus_clear, times_clear}
use Rattle.stats.specs.Sums.{sq_dev}
use Rattle.stats.proofs.Squares.{sq_dev_clear}
use Rattle.results.specs.declared.Effects.{Effects}
use Rattle.results.specs.Effects.{no_effects}
use Rattle.twoway_balanced.specs.Squares.{at, ab_step, ab_row, row_step, ss_ab, mean_margins, means_a, means_b, grand_of_means, effects_of, balanced_ss}
use Rattle.twoway_balanced.proofs.Lines.{taken}

pub record Cleared (e : Effects) : Type 0 where
  pub a : Clear e.ss_a
  pub b : Clear e.ss_b
  pub ab : Clear e.ss_ab

-- a count times what has a clear sign
times_count : (n : ℕ) (x : Float) → Clear x → Clear (count n ⊗ x)
times_count n x c = times_clear (count n) x (count_clear n ∙ sym c)

ab_clear : (ms ma mb : List Float) (g : Float) (r a b : ℕ) → Clear (ss_ab ms ma mb g (count r) a b)
unfolding ss_ab ab_row
ab_clear ms ma mb g r a b = keeps Clear 0 a (row_step ms ma mb g (count r) b) row plus_zero zero-le zero_clear
  where
    row : (i : ℕ) (t : Float) → i < a → Clear t → Clear (row_step ms ma mb g (count r) b i t)
    row i t h c = keeps Clear 0 b (ab_step ms (at ma i) mb g (count r) (i * b)) (λ j u k d. plus_clear u _ d (times_count r _ (times_clear _ _ refl))) t zero-le c

margin_clear : (n k : ℕ) (g : Float) (out ms : List Float) (m e d w : ℕ) → 0 < k → k ≤ 6 → out ≡ mean_margins ms m e d w → Clear (count n ⊗ sq_dev g (take k out))
margin_clear n k g out ms m e d w p h q = times_count n _ (sq_dev_clear g (take k out) (omega (arith, taken k out ms m e d w h q)))

module _ (ms : List Float) (r a b : ℕ) (p : 0 < a) (q : 0 < b) where
  effects_clear : a ≤ 6 → b ≤ 6 → Cleared (effects_of ms r a b)
  effects_clear h k =
      record {
        a = margin_clear (r * b) a _ _ ms a b 1 b p h refl;
        b = margin_clear (r * a) b _ _ ms b 1 b a q k refl;
        ab = ab_clear ms (means_a ms a b) (means_b ms a b) (grand_of_means ms a b) r a b;
      }

  none_clear : Cleared no_effects
  none_clear = record { a = zero_clear; b = zero_clear; ab = zero_clear }

  pub balanced_clear : Cleared (balanced_ss ms r a b)
  unfolding balanced_ss
  balanced_clear = go (ltb 6 a) (ltb 6 b) (ltb 512 r) (eqb (length ms) (a * b)) refl refl
    where
      go : (s t u v : Bool) → ltb 6 a ≡ s → ltb 6 b ≡ t → Cleared (cond s no_effects (cond t no_effects (cond u no_effects (cond v (effects_of ms r a b) no_effects))))
      go true t u v e f = none_clear
      go false true u v e f = none_clear
      go false false true v e f = none_clear
      go false false false true e f = effects_clear (ltb-false 6 a e) (ltb-false 6 b f)
      go false false false false e f = none_clear
