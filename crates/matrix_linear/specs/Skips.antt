-- Which columns an elimination skips, told from the matrix as it is before each of them. `by` is what is done in a column: `column` in the solver, `full_column` in the inverse.
use Rattle.std.specs.Prelude.{ℕ, ◌+◌, ◌*◌, Bool, true, false, cond, List, Float}
use Rattle.base.specs.Loop.{loop}
use Rattle.matrix_linear.specs.Rows.{pivoted, skips}
use Rattle.matrix_linear.specs.declared.Elimination.{Elimination}

-- is the pivot of column col too small? It is looked at where the swap has put it
unfoldable pub pivot_skips : ℕ → ℕ → ℕ → List Float → Bool
pivot_skips n w col m = skips (pivoted n w col m) (col * w + col)

-- the matrix before column col: the columns before it, one after another
unfoldable pub before_column : (ℕ → List Float → List Float) → ℕ → List Float → List Float
before_column by col m = loop 0 col by m

-- is column col skipped?
unfoldable pub skipped_in : (ℕ → List Float → List Float) → ℕ → ℕ → ℕ → List Float → Bool
skipped_in by n w col m = pivot_skips n w col (before_column by col m)

-- one more where it is
abbrev pub one_more : Bool → ℕ → ℕ
one_more b k = k + cond b 1 0

-- how many of the n columns are skipped
unfoldable pub skipped_of : (ℕ → List Float → List Float) → ℕ → ℕ → List Float → ℕ
skipped_of by n w m = loop 0 n (λ col. one_more (skipped_in by n w col m)) 0

-- what a call says that took the rows and skipped k columns; and one that did not take them
abbrev pub taken_with : ℕ → Elimination
taken_with k = record { taken = true; skipped = k }

abbrev pub not_taken : Elimination
not_taken = record { taken = false; skipped = 0 }
