-- Where all cells have as many readings, each mean square is a double with a clear sign: a sum of squares over its degrees of freedom.
use Prim.Native.Nat.{ℕ, ◌-◌, ◌*◌, ◌<◌}
use mathlib.Core.Path.{◌≡◌}
use mathlib.Core.List.{List}
use borrow.Author.Tests.{eq-eqb}
use lib.Dec.{T}
use lib.Ieee.{Float, binary64, fits}
use lib.Ieee.Fits.{div-fits}
use lib.ListN.{length, get_or, take}
use Rattle.float.specs.Words.{◌⊘◌, count}
use Rattle.float.proofs.Clear.{Clear, count_clear, over_clear}
use Rattle.twoway_balanced.specs.Squares.{other_count}
use Rattle.twoway_balanced.proofs.Squares.{Cleared, balanced_clear}
use Rattle.twoway_checks.specs.Cells.{cells, cell_counts}
use Rattle.twoway_means.specs.Table.{cell_means}
use Rattle.twoway_means.proofs.Squares.{error_clear}
use Rattle.twoway.specs.declared.TwoWayAnovaResult.{TwoWayAnovaResult}
use Rattle.twoway.specs.Results.{answer_of}
use Rattle.twoway.specs.Anova.{squares_of, two_way_of}

-- a double with a clear sign
abbrev pub MeanSquare : Float → Type 0
MeanSquare x = T (fits binary64 x) × Clear x

pub record MeanSquares (t : TwoWayAnovaResult) : Type 0 where
  pub a : MeanSquare t.factor_a.ms
  pub b : MeanSquare t.factor_b.ms
  pub ab : MeanSquare t.interaction.ms
  pub e : MeanSquare t.residual.ms

over_df : (ss : Float) (n : ℕ) → Clear ss → MeanSquare (ss ⊘ count n)
over_df ss n c = (div-fits binary64 ss (count n), over_clear ss (count n) c (count_clear n))

module _ (xs : List Float) (us vs : List ℕ) (a b : ℕ) (p : 0 < a) (q : 0 < b) (even : other_count (cell_counts a b xs us vs) ≡ get_or (cell_counts a b xs us vs) 0 0) where
  squares_clear : Cleared (squares_of xs us vs a b (take (a * b) (cell_means (cells a b xs us vs) (a * b))) (cell_counts a b xs us vs))
  unfolding squares_of
  squares_clear = rw (eq-eqb _ _ even) (balanced_clear _ _ a b p q)

  pub mean_squares : MeanSquares (two_way_of xs us vs a b)
  unfolding answer_of
  mean_squares =
      record {
        a = over_df _ (a - 1) squares_clear.a;
        b = over_df _ (b - 1) squares_clear.b;
        ab = over_df _ ((a - 1) * (b - 1)) squares_clear.ab;
        e = over_df _ (length xs - a * b) (error_clear _ _ _);
      }
