-- Columns that are counted as they are skipped: the count beside the matrix is the one told from the matrix before each column. For the solver and the inverse at once.
use Prim.Native.Nat.{ℕ, ◌+◌}
use mathlib.Core.Path.{◌≡◌, refl, sym, ap, ◌∙◌}
use mathlib.Core.List.{List}
use native.Mathlib.Omega.{arith}
use lib.Ieee.{Float}
use Rattle.base.specs.Loop.{loop, turns}
use Rattle.base.proofs.Walks.{walks, last_turn}
use Rattle.matrix_linear.specs.Skips.{before_column, skipped_in, one_more, skipped_of}
use Rattle.matrix_linear.specs.Inner.{counted, all_counted}
use Rattle.matrix_linear.proofs.Skipped.{next_column}

module _ (by : ℕ → List Float → List Float) (n w : ℕ) (m : List Float) where
  abbrev more : ℕ → ℕ → ℕ
  more col = one_more (skipped_in by n w col m)

  -- before column col: the matrix, and how many columns were skipped
  abbrev Stands : ℕ → List Float × ℕ → Type 0
  Stands col s = (s.0 ≡ before_column by col m) × (s.1 ≡ loop 0 col more 0)

  start : Stands 0 (m, 0)
  unfolding before_column loop turns
  start = (refl, refl)

  next : (col : ℕ) (s : List Float × ℕ) → Stands col s → Stands (col + 1) (counted by n w col s)
  unfolding skipped_in
  next col s p = (ap (by col) p.0 ∙ sym (next_column by col m), rw (p.0, p.1) (sym (last_turn more col 0)))

  pub counting_is : loop 0 n (counted by n w) (m, 0) ≡ all_counted by n w m
  unfolding skipped_of before_column
  counting_is =
      let p = walks (counted by n w) Stands n (λ col s l q. next col s q) 0 (m, 0) (omega arith) start in
      both p.0 p.1
    where
      both : {s : List Float × ℕ} {x : List Float} {k : ℕ} → s.0 ≡ x → s.1 ≡ k → s ≡ (x, k)
      both e f = λ i. (e i, f i)
