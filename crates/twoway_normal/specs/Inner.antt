-- What the code keeps between its steps. No public contract cites these words.
use Rattle.std.specs.Prelude.{ℕ, ◌*◌, ◌≤◌, ◌<◌, ◌+◌, ◌-◌, ◌≡◌, cond, List, eqb, length, get_or, set, take, drop, Float}
use Rattle.base.specs.Limits.{most_readings, most_levels}
use Rattle.base.specs.Lists.{part}
use Rattle.base.specs.Loop.{loop}
use Rattle.float.specs.Words.{◌⊕◌, ◌⊗◌, count}
use Rattle.matrix_places.specs.Places.{at}
use Rattle.twoway_normal.specs.Counted.{cells_of, cell_row}
use Rattle.twoway_normal.specs.Equations.{rows_from, rows_places}
use Rattle.twoway_normal.specs.Normal.{normal_at}

-- what `fits` (Shape.antt) tells of the readings and the codes, as facts
pub record Fitting (values : List Float) (us vs : List ℕ) (a b : ℕ) : Type 0 where
  pub least_a : 2 ≤ a
  pub most_a : a ≤ most_levels
  pub least_b : 2 ≤ b
  pub most_b : b ≤ most_levels
  pub codes_a : length us ≡ length values
  pub codes_b : length vs ≡ length values
  pub few : length values ≤ most_readings

-- ---- the steps by which the code builds the normal equations

-- `m[j * w + k] += n * x[j] * x[k]`
abbrev pub add_at : ℕ → Float → List Float → ℕ → ℕ → List Float → List Float
add_at w n x j k m = set m (j * w + k) (at m (j * w + k) ⊕ n ⊗ at x j ⊗ at x k)

unfoldable pub add_row : ℕ → Float → List Float → ℕ → List Float → List Float
add_row w n x j m = loop 0 w (add_at w n x j) m

-- n times all products of the row x
unfoldable pub add_products : ℕ → ℕ → Float → List Float → List Float → List Float
add_products p w n x m = loop 0 p (add_row w n x) m

-- the cell c with n readings
unfoldable pub add_cell : ℕ → ℕ → ℕ → ℕ → List Float → List Float
add_cell a b c n m = cond (eqb n 0) m (add_products (a * b) (a * b + 1) (count n) (cell_row a b c) m)

-- all cells, with these counts
unfoldable pub add_cells : ℕ → ℕ → List ℕ → List Float → List Float
add_cells a b ns m = loop 0 (cells_of a b) (λ c. add_cell a b c (get_or ns c 0)) m

-- `sums[j] += rows[q + j] * y`
abbrev pub value_at : ℕ → List Float → Float → ℕ → List Float → List Float
value_at q rows y j sums = set sums j (at sums j ⊕ at rows (q + j) ⊗ y)

unfoldable pub add_value : ℕ → ℕ → List Float → Float → List Float → List Float
add_value q p rows y sums = loop 0 p (value_at q rows y) sums

-- X'y, of which each sum is the definition's
abbrev pub ValueSums : List Float → List ℕ → List ℕ → ℕ → ℕ → List Float → Type 0
ValueSums values us vs a b sums = (j : ℕ) → j < a * b → at sums j ≡ normal_at values us vs a b j (a * b)

-- the sums come behind the rows of X'X
abbrev pub column_at : ℕ → List Float → ℕ → List Float → List Float
column_at p sums j m = set m (j * (p + 1) + p) (at sums j)

unfoldable pub put_column : ℕ → List Float → List Float → List Float
put_column p sums m = loop 0 p (column_at p sums) m

-- the rows of the first k cells lie from `from` on, where the cells have readings
abbrev pub Kept : ℕ → ℕ → List ℕ → ℕ → ℕ → List Float → Type 0
Kept a b ns from k w = (c : ℕ) → c < k → 0 < get_or ns c 0 → part (from + c * (a * b)) (a * b) w ≡ take (a * b) (cell_row a b c)

-- the lent memory before and after the cell c with n readings was added
pub record CellAdded (a b c n : ℕ) (before after : List Float) : Type 0 where
  pub system : part 0 (a * b * (a * b + 1)) after ≡ add_cell a b c n (part 0 (a * b * (a * b + 1)) before)
  pub row : 0 < n → part (rows_from + c * (a * b)) (a * b) after ≡ take (a * b) (cell_row a b c)
  -- what lies between the system and the cell's row stays, and what lies behind the row
  pub earlier : (o l : ℕ) → a * b * (a * b + 1) ≤ o → o + l ≤ rows_from + c * (a * b) → part o l after ≡ part o l before
  pub later : (o : ℕ) → rows_from + c * (a * b) + a * b ≤ o → drop o after ≡ drop o before

-- the lent memory before and after something was done in the places of the system and of the rows: what lies between them stays, and what lies behind the rows
pub record Aside (a b : ℕ) (before after : List Float) : Type 0 where
  pub amid : part (a * b * (a * b + 1)) (rows_from - a * b * (a * b + 1)) after ≡ part (a * b * (a * b + 1)) (rows_from - a * b * (a * b + 1)) before
  pub behind : drop (rows_from + rows_places a b) after ≡ drop (rows_from + rows_places a b) before

-- the lent memory before and after all cells with the counts ns were added
pub record CellsAdded (a b : ℕ) (ns : List ℕ) (before after : List Float) : Type 0 where
  pub system : part 0 (a * b * (a * b + 1)) after ≡ add_cells a b ns (part 0 (a * b * (a * b + 1)) before)
  pub rows : Kept a b ns rows_from (cells_of a b) after
  pub aside : Aside a b before after
