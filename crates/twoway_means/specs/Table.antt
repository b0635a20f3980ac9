-- What is told of the cells cs of a two-way design. They lie by A, then by B: cell (i, j) of b columns has the number i * b + j.
use Rattle.std.specs.Prelude.{ℕ, ◌+◌, ◌*◌, Bool, false, cond, leb, ltb, Float, length, get_or, take, replicate}
use mathlib.Core.List.{List, [], foldl}
use Rattle.std.specs.Float.{nan}
use Rattle.base.specs.Limits.{most_readings, most_levels, most_cells}
use Rattle.base.specs.Lists.{total, cut, listed}
use Rattle.base.specs.Loop.{loop}
use Rattle.float.specs.Words.{◌⊕◌, ◌⊘◌, plus_zero, one}
use Rattle.stats.specs.Sums.{add_by, sq_dist, mean_of}
use Rattle.twoway_means.specs.declared.Tally.{Tally}
use Rattle.twoway_means.specs.declared.CellTable.{CellTable}

abbrev pub cell_at : List (List Float) → ℕ → List Float
cell_at cs c = get_or cs c []

-- `sum += y; count += 1.0`
abbrev pub tally : Tally → Float → Tally
tally t y = record { sum = t.sum ⊕ y; count = t.count ⊕ one }

abbrev pub nothing : Tally
nothing = record { sum = plus_zero; count = plus_zero }

-- the readings of a line of n cells, the first of them s, each d further on
abbrev pub line_step : List (List Float) → ℕ → ℕ → ℕ → Tally → Tally
line_step cs s d q t = foldl tally t (cell_at cs (s + q * d))

unfoldable pub tally_line : List (List Float) → ℕ → ℕ → ℕ → Tally
tally_line cs s d n = loop 0 n (line_step cs s d) nothing

unfoldable pub no_levels : List Float
no_levels = replicate most_levels plus_zero

unfoldable pub no_cells : List Float
no_cells = replicate most_cells plus_zero

-- the mean of all readings at a level: of m levels, of which each has n cells; the levels' first cells lie e apart, a level's cells d apart
abbrev pub margin : List (List Float) → ℕ → ℕ → ℕ → ℕ → Float
margin cs e d n i = (tally_line cs (i * e) d n).sum ⊘ (tally_line cs (i * e) d n).count

unfoldable pub margins : List (List Float) → ℕ → ℕ → ℕ → ℕ → List Float
margins cs m e d n = listed m (margin cs e d n) no_levels

-- the mean of each cell
abbrev pub cell_mean : List (List Float) → ℕ → Float
cell_mean cs c = mean_of (cell_at cs c)

unfoldable pub cell_means : List (List Float) → ℕ → List Float
cell_means cs k = listed k (cell_mean cs) no_cells

-- the squared distances of the readings from their cell's mean, added up cell by cell from 0.0
abbrev pub error_step : List (List Float) → List Float → ℕ → Float → Float
error_step cs means c t = foldl (add_by (sq_dist (get_or means c nan))) t (cell_at cs c)

unfoldable pub ss_error : List (List Float) → List Float → ℕ → Float
ss_error cs means k = loop 0 k (error_step cs means) plus_zero

-- the table of a rows and b columns: at most 6 of each, at most 512 readings, a count for each cell, and enough readings; else nothing but zeros
abbrev pub no_table : CellTable
no_table = record { cell_means = no_cells; marginal_means_a = no_levels; marginal_means_b = no_levels; ss_error = plus_zero }

abbrev pub table_of : List (List Float) → ℕ → ℕ → CellTable
table_of cs a b = record {
  cell_means = cell_means cs (a * b);
  marginal_means_a = margins cs a b 1 b;
  marginal_means_b = margins cs b 1 b a;
  ss_error = ss_error cs (cell_means cs (a * b)) (a * b);
}

unfoldable pub table_fits : List ℕ → List Float → ℕ → ℕ → Bool
table_fits ns xs a b =
    cond (ltb most_levels a) false
    (cond (ltb most_levels b) false
    (cond (ltb most_readings (length xs)) false
    (cond (ltb (length ns) (a * b)) false
    (leb (total (take (a * b) ns)) (length xs)))))

unfoldable pub cell_table : List ℕ → List Float → ℕ → ℕ → CellTable
cell_table ns xs a b = cond (table_fits ns xs a b) (table_of (cut (take (a * b) ns) xs) a b) no_table
