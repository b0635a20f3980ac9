-- Where each cell begins, if the cells lie one after another and have ns readings.
use Rattle.std.specs.Prelude.{ℕ, ◌+◌, cond, List, [], ◌∷◌, ltb, length, replicate}
use Rattle.base.specs.Limits.{most_cells, most_readings}
use Rattle.base.specs.Lists.{total, over}

-- the first begins at `at`; last stands where all end
unfoldable pub sums : ℕ → List ℕ → List ℕ
sums at [] = at ∷ []
sums at (n ∷ ns) = at ∷ sums (at + n) ns

unfoldable pub no_starts : List ℕ
no_starts = replicate (most_cells + 1) 0

-- zeros where there are over 36 cells, or over 512 readings in all
unfoldable pub starts_of : List ℕ → List ℕ
starts_of ns =
    cond (ltb most_cells (length ns)) no_starts
    (cond (ltb most_readings (total ns)) no_starts
    (over (sums 0 ns) no_starts))
