-- A faint norm is one that is not above 1e-15, as a NaN is not: the row stays undivided.
use Prim.Native.Nat.{ℕ}
use mathlib.Core.Path.{◌≡◌}
use mathlib.Core.Bool.{false}
use mathlib.Core.List.{List}
use lib.Ieee.{Float, lt}
use Rattle.float.specs.Words.{tinier}
use Rattle.matrix_orthonormal.specs.Orthonormal.{row_norm, project_rows, normalize_row, orthonormal_row}

pub faint_row_undivided : (k i : ℕ) (c : List Float) → lt tinier (row_norm k i (project_rows k i c)) ≡ false → orthonormal_row k i c ≡ project_rows k i c
unfolding orthonormal_row normalize_row
faint_row_undivided k i c h = rw h
