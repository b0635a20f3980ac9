-- Steps on a flat matrix of n rows, which lie w places apart: m[r][j] is place r * w + j.
use Rattle.std.specs.Prelude.{ℕ, ◌+◌, ◌*◌, Bool, cond, ◌&&◌, List, leb, length, set, Float}
use Rattle.std.specs.Float.Ieee.{lt}
use Rattle.base.specs.Limits.{most_levels}
use Rattle.base.specs.Loop.{loop}
use Rattle.float.specs.Words.{◌⊘◌, tiny}
use Rattle.float.specs.Singles.{abs_of}
use Rattle.matrix_places.specs.Places.{less_row}
pub use Rattle.matrix_places.specs.Places.{at}

-- the most rows that are taken: six levels of one factor by six of the other
abbrev pub most_rows : ℕ
most_rows = most_levels * most_levels

-- are n rows of w places allowed, and is there room for them?
abbrev pub room : ℕ → ℕ → List Float → Bool
room n w m = leb n most_rows && leb (n * w) (length m)

-- place j of the row that begins at p, and of the row that begins at q, change what they hold
abbrev pub swap_at : ℕ → ℕ → ℕ → List Float → List Float
swap_at p q j m = set (set m (p + j) (at m (q + j))) (q + j) (at m (p + j))

-- row a and row b change places
unfoldable pub swap_rows : ℕ → ℕ → ℕ → List Float → List Float
swap_rows w a b m = loop 0 w (swap_at (a * w) (b * w)) m

-- the better of row `best` and row r for a pivot: r only if its absolute value in the column is strictly larger
unfoldable pub better : List Float → ℕ → ℕ → ℕ → ℕ → ℕ
better m w col r best = cond (lt (abs_of (at m (best * w + col))) (abs_of (at m (r * w + col)))) r best

-- the pivot's row: the search starts from the diagonal row, and asks the rows below it in their order
unfoldable pub pivot_row : ℕ → ℕ → ℕ → List Float → ℕ
pivot_row n w col m = loop (col + 1) n (better m w col) col

-- the pivot's row comes to row col
unfoldable pub pivoted : ℕ → ℕ → ℕ → List Float → List Float
pivoted n w col m = swap_rows w col (pivot_row n w col m) m

-- is the absolute value at place k below 1e-14? That of a NaN is not
abbrev pub skips : List Float → ℕ → Bool
skips m k = lt (abs_of (at m k)) tiny

-- row r less the multiple of row col that clears its place in the column
unfoldable pub clear_row : ℕ → ℕ → ℕ → List Float → List Float
clear_row w col r m = less_row (col * w) (r * w) (at m (r * w + col) ⊘ at m (col * w + col)) col w m

-- all rows below row col, one after another
unfoldable pub clear_below : ℕ → ℕ → ℕ → List Float → List Float
clear_below n w col m = loop (col + 1) n (clear_row w col) m
