-- What the code keeps between its steps. No public contract cites these words.
use Rattle.std.specs.Prelude.{ℕ, ◌*◌, ◌/◌, ◌%◌, ◌+◌, ◌-◌, ◌≡◌, List, Float, set}
use Rattle.base.specs.Limits.{most_levels, most_cells}
use Rattle.base.specs.Loop.{loop}
use Rattle.matrix_linear.specs.Inverse.{zero_at}
use Rattle.matrix_linear.specs.Rows.{at}
use Rattle.base.specs.Lists.{part}
use Rattle.twoway_type3.specs.declared.wald.Solved.{Solved}
use Rattle.twoway_type3.specs.Matrices.{half_of}
use Rattle.twoway_type3.specs.Answer.{beta, inverse, solved_skips}

-- place q of a left half that is laid out for the inverse (`half_of`)
abbrev pub half_at : ℕ → ℕ → ℕ → List Float → ℕ → Float
half_at n from w m q = half_of n from w m (q / (2 * n)) (q % (2 * n))

-- `work[p + j] = work[q + j]`
abbrev pub copy_at : ℕ → ℕ → ℕ → List Float → List Float
copy_at q p j m = set m (p + j) (at m (q + j))

-- one row of it: the n places from q on come to p, and n zeros behind them
unfoldable pub half_row : ℕ → ℕ → ℕ → List Float → List Float
half_row n q p m = loop 0 n (zero_at (p + n)) (loop 0 n (copy_at q p) m)

-- row i of a block whose rows begin at `from` and lie w apart comes to row i of those that begin at `to`
abbrev pub half_step : ℕ → ℕ → ℕ → ℕ → ℕ → List Float → List Float
half_step to n from w i m = half_row n (from + i * w) (to + i * (2 * n)) m

-- where the inverse lies in the lent memory: behind a system of the most cells
abbrev pub inverse_from : ℕ
inverse_from = most_cells * (most_cells + 1)

-- where an effect's block lies: behind an inverse of the most cells
abbrev pub block_from : ℕ
block_from = inverse_from + most_cells * (2 * most_cells)

-- the most columns of an effect: those of the interaction
abbrev pub most_columns : ℕ
most_columns = (most_levels - 1) * (most_levels - 1)

-- the lent memory before and after its system was solved, and what was skipped
pub record IsSolved (a b : ℕ) (before after : List Float) (skips : Solved) : Type 0 where
  pub coefficients : part 0 (a * b * (a * b + 1)) after ≡ beta (part 0 (a * b * (a * b + 1)) before) a b
  pub inverted : part inverse_from (a * b * (2 * (a * b))) after ≡ inverse (part 0 (a * b * (a * b + 1)) before) a b
  pub skipped : skips ≡ solved_skips (part 0 (a * b * (a * b + 1)) before) a b
