-- What a skipped column leaves: the matrix as the swap has left it. Elimination takes nothing from the rows below.
use Prim.Native.Nat.{ℕ, ◌+◌, ◌*◌}
use mathlib.Core.Path.{◌≡◌, refl, sym, ◌∙◌}
use mathlib.Core.Bool.{true}
use mathlib.Core.List.{List}
use lib.Ieee.{Float}
use Rattle.matrix_linear.specs.Rows.{pivoted}
use Rattle.matrix_linear.specs.System.{column, skipped_column}
use Rattle.matrix_linear.specs.Inverse.{unit, full_column, skipped_inverse}
use Rattle.matrix_linear.specs.Skips.{before_column, skipped_in, pivot_skips}
use Rattle.base.proofs.Walks.{last_turn}
use Rattle.matrix_linear.proofs.Columns.{column_skipped, full_skipped}

-- the matrix before column col + 1 is that before column col after one column more
pub next_column : (by : ℕ → List Float → List Float) (col : ℕ) (m : List Float) → before_column by (col + 1) m ≡ by col (before_column by col m)
unfolding before_column
next_column by col m = last_turn by col m

pub skipped_kept : (n w col : ℕ) (m : List Float) → skipped_column n w col m ≡ true
    → before_column (column n w) (col + 1) m ≡ pivoted n w col (before_column (column n w) col m)
unfolding skipped_in pivot_skips
skipped_kept n w col m h = next_column (column n w) col m ∙ sym (column_skipped n w col (before_column (column n w) col m) refl h)

pub skipped_inverse_kept : (n col : ℕ) (m : List Float) → skipped_inverse n col m ≡ true
    → before_column (full_column n (2 * n)) (col + 1) (unit n m) ≡ pivoted n (2 * n) col (before_column (full_column n (2 * n)) col (unit n m))
unfolding skipped_in pivot_skips
skipped_inverse_kept n col m h =
    next_column (full_column n (2 * n)) col (unit n m) ∙ sym (full_skipped n (2 * n) col (before_column (full_column n (2 * n)) col (unit n m)) refl h)
