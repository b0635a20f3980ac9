-- `matrix_determinant`: n rows of n places, which are used up. Beside the matrix goes the sign, +0.0 once a column has no pivot.
use Rattle.std.specs.Prelude.{ℕ, ◌+◌, ◌*◌, Bool, cond, List, eqb, Float}
use Rattle.std.specs.Float.{nan}
use Rattle.std.specs.Float.Ieee.{neg, lt, eq}
use Rattle.base.specs.Loop.{loop}
use Rattle.float.specs.Words.{◌⊖◌, ◌⊗◌, plus_zero, one, tinier}
use Rattle.float.specs.Singles.{abs_of}
use Rattle.matrix_linear.specs.Rows.{at, room, swap_rows, pivot_row, clear_below}

-- the sign, turned where two different rows change places
unfoldable pub turned : ℕ → ℕ → Float → Float
turned a b s = cond (eqb a b) s (neg s)

-- has the column no pivot: is its largest, in row p, below 1e-15?
abbrev pub pivotless : ℕ → ℕ → ℕ → List Float → Bool
pivotless n col p m = lt (abs_of (at m (p * n + col))) tinier

-- row p comes to row col, and the column is cleared below
unfoldable pub swept : ℕ → ℕ → ℕ → List Float → List Float
swept n col p m = clear_below n n col (swap_rows n col p m)

-- one column whose largest is in row p: that is looked at before the rows are touched
unfoldable pub det_try : ℕ → ℕ → ℕ → List Float × Float → List Float × Float
det_try n col p s = cond (pivotless n col p s.0) (s.0, plus_zero) (swept n col p s.0, turned p col s.1)

-- one column, where none before it was without a pivot
unfoldable pub det_column : ℕ → ℕ → List Float × Float → List Float × Float
det_column n col s = cond (eq s.1 plus_zero) s (det_try n col (pivot_row n n col s.0) s)

-- all columns, from the sign 1
unfoldable pub det_columns : ℕ → List Float → List Float × Float
det_columns n m = loop 0 n (det_column n) (m, one)

-- `det *= lu[i][i]`
abbrev pub diagonal_at : ℕ → List Float → ℕ → Float → Float
diagonal_at n m i d = d ⊗ at m (i * n + i)

-- the product of the sign and the diagonal
unfoldable pub diagonal_product : ℕ → List Float → Float → Float
diagonal_product n m s = loop 0 n (diagonal_at n m) s

-- the determinant: +0.0 where a column had no pivot
unfoldable pub det_end : ℕ → List Float × Float → List Float × Float
det_end n s = cond (eq s.1 plus_zero) (s.0, plus_zero) (s.0, diagonal_product n s.0 s.1)

-- the direct formula of two rows
unfoldable pub two_by_two : List Float → Float
two_by_two m = at m 0 ⊗ at m 3 ⊖ at m 1 ⊗ at m 2

-- what is left in the rows, and the determinant: up to two rows by the direct formula
unfoldable pub det_of : ℕ → List Float → List Float × Float
det_of n m =
    cond (eqb n 0) (m, one)
    (cond (eqb n 1) (m, at m 0)
    (cond (eqb n 2) (m, two_by_two m)
    (det_end n (det_columns n m))))

-- the memory after the call, and the determinant: a NaN where the rows are not taken
unfoldable pub matrix_determinant : ℕ → List Float → List Float × Float
matrix_determinant n m = cond (room n n m) (det_of n m) (m, nan)
