-- The rows keep their room: each step sets places and leaves as many as there were.
use Prim.Native.Nat.{ℕ, ◌*◌}
use mathlib.Core.Path.{◌≡◌, refl, ◌∙◌}
use mathlib.Core.Bool.{Bool, true, false, cond}
use mathlib.Core.List.{List}
use lib.Ieee.{Float, lt}
use lib.ListN.{length}
use Rattle.base.proofs.Loops.{loop_length}
use Rattle.float.specs.Words.{tinier}
use Rattle.matrix_places.specs.Places.{most_contrasts, refuses, over_row}
use Rattle.matrix_places.proofs.Rows.{less_length, over_length}
use Rattle.matrix_orthonormal.specs.Orthonormal.{row_dot, row_norm, project_row, project_rows, normalize_row, orthonormal_row, orthonormal_rows, orthonormalize}

-- a choice of two lists of one length
chosen_length : (b : Bool) (x y : List Float) → length x ≡ length y → length (cond b x y) ≡ length y
chosen_length true x y e = e
chosen_length false x y e = refl

first_length : (b : Bool) (x y : List Float) → length y ≡ length x → length (cond {A = List Float × Bool} b (x, false) (y, true)).0 ≡ length x
first_length true x y e = refl
first_length false x y e = e

project_length : (k i j : ℕ) (c : List Float) → length (project_row k i j c) ≡ length c
unfolding project_row
project_length k i j c = less_length (j * k) (i * k) (row_dot k i j c) 0 k c

normalize_length : (k i : ℕ) (c : List Float) → length (normalize_row k i c) ≡ length c
unfolding normalize_row
normalize_length k i c = chosen_length (lt tinier (row_norm k i c)) (over_row (i * k) (row_norm k i c) k c) c (over_length (i * k) (row_norm k i c) k c)

row_length : (k i : ℕ) (c : List Float) → length (orthonormal_row k i c) ≡ length c
unfolding orthonormal_row project_rows
row_length k i c = normalize_length k i (project_rows k i c) ∙ loop_length 0 i (project_row k i) (project_length k i) c

pub orthonormalize_length : (p k : ℕ) (c : List Float) → length (orthonormalize p k c).0 ≡ length c
unfolding orthonormalize orthonormal_rows
orthonormalize_length p k c = first_length (refuses most_contrasts p k (length c)) c (orthonormal_rows p k c) (loop_length 0 p (orthonormal_row k) (row_length k) c)
