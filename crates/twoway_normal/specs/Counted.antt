-- X'X from the counts of the cells, as the code takes it: no public contract cites these words. `counted_entry` (proofs/Counted.antt) says that each entry has the bits of the
-- definition's sum over the readings.
use Rattle.std.specs.Prelude.{ℕ, ◌+◌, ◌*◌, ◌/◌, ◌%◌, min, cond, List, eqb, length, get_or, replicate, Float}
use Rattle.base.specs.Limits.{most_levels}
use Rattle.base.specs.Lists.{bump}
use Rattle.base.specs.Loop.{loop}
use Rattle.float.specs.Words.{◌⊕◌, ◌⊗◌, count, plus_zero}
use Rattle.matrix_places.specs.Places.{at}
use Rattle.twoway_normal.specs.Coding.{design_row}

module _ (a b : ℕ) where
  -- the cell of a reading with the codes u and v, by A, then by B. All codes beyond a factor's levels have the same columns: they count as one level more
  abbrev pub cell_of : ℕ → ℕ → ℕ
  cell_of u v = min u a * (b + 1) + min v b

  -- how many cells that makes
  abbrev pub cells_of : ℕ
  cells_of = (a + 1) * (b + 1)

  -- the row of codes of cell c
  unfoldable pub cell_row : ℕ → List Float
  cell_row c = design_row a b (c / (b + 1)) (c % (b + 1)) plus_zero

-- the most cells
abbrev pub most_counts : ℕ
most_counts = cells_of most_levels most_levels

module _ (us vs : List ℕ) (a b : ℕ) where
  -- the cell of reading i
  abbrev pub cell_at : ℕ → ℕ
  cell_at i = cell_of a b (get_or us i 0) (get_or vs i 0)

  -- reading i is counted
  abbrev pub count_at : ℕ → List ℕ → List ℕ
  count_at i ns = bump ns (cell_at i)

  -- how many readings each cell has
  unfoldable pub counts_of : List ℕ
  counts_of = loop 0 (length us) count_at (replicate most_counts 0)

  -- `t += n * x[j] * x[k]`, where x is the row of a cell with n readings; a cell without readings is passed over
  abbrev pub cell_adds : ℕ → ℕ → ℕ → Float → Float
  cell_adds j k c t = cond (eqb (get_or counts_of c 0) 0) t (t ⊕ count (get_or counts_of c 0) ⊗ at (cell_row a b c) j ⊗ at (cell_row a b c) k)

  -- row j, column k: from +0.0, over the cells in their order
  unfoldable pub counted_at : ℕ → ℕ → Float
  counted_at j k = loop 0 (cells_of a b) (cell_adds j k) plus_zero
