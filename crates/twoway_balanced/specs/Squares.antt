-- The sums of squares of a balanced design, from the means ms of its cells. They lie by A, then by B: cell (i, j) of b columns has the number i * b + j.
use Rattle.std.specs.Prelude.{ℕ, ◌+◌, ◌*◌, cond, List, [], ◌∷◌, ltb, eqb, Float, length, get_or, set, take, replicate}
use Rattle.std.specs.Float.{nan}
use Rattle.base.specs.Limits.{most_levels, most_readings}
use Rattle.base.specs.Loop.{loop}
use Rattle.float.specs.Words.{◌⊕◌, ◌⊖◌, ◌⊗◌, ◌⊘◌, count, square, plus_zero}
use Rattle.stats.specs.Sums.{sum, sq_dev}
use Rattle.results.specs.declared.Effects.{Effects}
use Rattle.results.specs.Effects.{no_skips, no_effects}

-- ---- is a design balanced?

-- the first of these counts that is not n; n where none is
unfoldable pub unlike : ℕ → List ℕ → ℕ
unlike n [] = n
unlike n (m ∷ ms) = cond (eqb m n) (unlike n ms) m

-- the first count that differs from the first of them: a design is balanced where it is the first count itself
unfoldable pub other_count : List ℕ → ℕ
other_count ns = unlike (get_or ns 0 0) ns

-- ---- the sums of squares

abbrev pub at : List Float → ℕ → Float
at ms c = get_or ms c nan

-- n means, the first of them s, each d further on, added up from 0.0
abbrev pub line_step : List Float → ℕ → ℕ → ℕ → Float → Float
line_step ms s d q t = t ⊕ at ms (s + q * d)

unfoldable pub mean_line : List Float → ℕ → ℕ → ℕ → Float
mean_line ms s d n = loop 0 n (line_step ms s d) plus_zero

-- the marginal means, here of the cells' means: of m levels with n cells each; the levels' first cells lie e apart, a level's cells d apart
abbrev pub margin_step : List Float → ℕ → ℕ → ℕ → ℕ → List Float → List Float
margin_step ms e d n i out = set out i (mean_line ms (i * e) d n ⊘ count n)

unfoldable pub mean_margins : List Float → ℕ → ℕ → ℕ → ℕ → List Float
mean_margins ms m e d n = loop 0 m (margin_step ms e d n) (replicate most_levels plus_zero)

-- the interaction of a cell: what its mean has beside the means of its row and its column and the grand mean
abbrev pub effect : Float → Float → Float → Float → Float
effect m ma mb g = m ⊖ ma ⊖ mb ⊕ g

abbrev pub ab_step : List Float → Float → List Float → Float → Float → ℕ → ℕ → Float → Float
ab_step ms ma mb g r s j t = t ⊕ r ⊗ square (effect (at ms (s + j)) ma (at mb j) g)

unfoldable pub ab_row : List Float → Float → List Float → Float → Float → ℕ → ℕ → Float → Float
ab_row ms ma mb g r s b t = loop 0 b (ab_step ms ma mb g r s) t

abbrev pub row_step : List Float → List Float → List Float → Float → Float → ℕ → ℕ → Float → Float
row_step ms ma mb g r b i t = ab_row ms (at ma i) mb g r (i * b) b t

unfoldable pub ss_ab : List Float → List Float → List Float → Float → Float → ℕ → ℕ → Float
ss_ab ms ma mb g r a b = loop 0 a (row_step ms ma mb g r b) plus_zero

abbrev pub means_a : List Float → ℕ → ℕ → List Float
means_a ms a b = mean_margins ms a b 1 b

abbrev pub means_b : List Float → ℕ → ℕ → List Float
means_b ms a b = mean_margins ms b 1 b a

-- the mean of the cells' means, which is not the reported grand mean
abbrev pub grand_of_means : List Float → ℕ → ℕ → Float
grand_of_means ms a b = sum ms ⊘ count (a * b)

abbrev pub effects_of : List Float → ℕ → ℕ → ℕ → Effects
effects_of ms r a b = record {
  ss_a = count (r * b) ⊗ sq_dev (grand_of_means ms a b) (take a (means_a ms a b));
  ss_b = count (r * a) ⊗ sq_dev (grand_of_means ms a b) (take b (means_b ms a b));
  ss_ab = ss_ab ms (means_a ms a b) (means_b ms a b) (grand_of_means ms a b) (count r) a b;
  skips = no_skips;
}

-- at most 6 levels each, at most 512 readings a cell, a mean for each cell; else zeros
unfoldable pub balanced_ss : List Float → ℕ → ℕ → ℕ → Effects
balanced_ss ms r a b =
    cond (ltb most_levels a) no_effects
    (cond (ltb most_levels b) no_effects
    (cond (ltb most_readings r) no_effects
    (cond (eqb (length ms) (a * b)) (effects_of ms r a b) no_effects)))
