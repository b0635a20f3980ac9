-- `orthonormalize`: p rows of k places, which become orthonormal in place.
use Rattle.std.specs.Prelude.{ℕ, ◌*◌, Bool, true, false, cond, List, length, Float}
use Rattle.std.specs.Float.Ieee.{lt}
use Rattle.base.specs.Loop.{loop}
use Rattle.float.specs.Words.{minus_zero, tinier}
use Rattle.root.specs.Root.{sqrt_of}
use Rattle.matrix_places.specs.Places.{most_contrasts, refuses, dot, less_row, over_row}

-- `(0..k).map(|m| result[i][m] * result[j][m]).sum()`
abbrev pub row_dot : ℕ → ℕ → ℕ → List Float → Float
row_dot k i j c = dot minus_zero c (i * k) 1 c (j * k) 1 k

-- row i less its projection onto row j: `result[i][m] -= f * result[j][m]`
unfoldable pub project_row : ℕ → ℕ → ℕ → List Float → List Float
project_row k i j c = less_row (j * k) (i * k) (row_dot k i j c) 0 k c

-- and onto all rows before it, one after another
unfoldable pub project_rows : ℕ → ℕ → List Float → List Float
project_rows k i c = loop 0 i (project_row k i) c

-- the norm of row i
abbrev pub row_norm : ℕ → ℕ → List Float → Float
row_norm k i c = sqrt_of (row_dot k i i c)

-- row i over its norm where that is above 1e-15, `result[i][m] /= norm`; a NaN is not
unfoldable pub normalize_row : ℕ → ℕ → List Float → List Float
normalize_row k i c = cond (lt tinier (row_norm k i c)) (over_row (i * k) (row_norm k i c) k c) c

-- row i, where the rows before it are done
unfoldable pub orthonormal_row : ℕ → ℕ → List Float → List Float
orthonormal_row k i c = normalize_row k i (project_rows k i c)

-- all rows
unfoldable pub orthonormal_rows : ℕ → ℕ → List Float → List Float
orthonormal_rows p k c = loop 0 p (orthonormal_row k) c

-- the memory after the call, and whether the rows were taken
unfoldable pub orthonormalize : ℕ → ℕ → List Float → List Float × Bool
orthonormalize p k c = cond (refuses most_contrasts p k (length c)) (c, false) (orthonormal_rows p k c, true)
