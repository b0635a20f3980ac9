-- What the calls `mean` and `variance` answer: a number, or a refusal.
use Rattle.std.specs.Prelude.{ℕ, List, ltb, eqb, Float, length, Result, Ok, Err}
use Rattle.base.specs.declared.Refusal.{Refusal}
use Rattle.base.specs.Limits.{most_readings, fewest_readings}
use Rattle.base.specs.Refusals.{refuse, none, when, ◌or_else◌, guarded}
use Rattle.float.specs.Words.{plus_zero}
use Rattle.stats.specs.Sums.{mean_of, variance_of}
use Rattle.stats.specs.declared.Figure.{Figure}

-- the mean of n readings: too many, or none
unfoldable pub mean_refusal : ℕ → Refusal
mean_refusal n =
    when (ltb most_readings n) (refuse 11 2 n)
    or_else when (eqb n 0) (refuse 1 0 0)

-- the variance of n readings: too many, or fewer than two
unfoldable pub variance_refusal : ℕ → Refusal
variance_refusal n =
    when (ltb most_readings n) (refuse 11 2 n)
    or_else when (ltb n fewest_readings) (refuse 2 fewest_readings n)

-- the same said by the fewest readings that are taken: too many, or fewer
abbrev pub counted : ℕ → ℕ → Refusal → Refusal
counted fewest n too_few =
    when (ltb most_readings n) (refuse 11 2 n)
    or_else when (ltb n fewest) too_few

abbrev pub figure : Float → Figure
figure x = record { refusal = none; value = x }

abbrev pub refused_figure : Refusal → Figure
refused_figure r = record { refusal = r; value = plus_zero }

-- what was found, or the refusal in its place
abbrev pub figure_of : Result Float Refusal → Figure
figure_of (Ok x) = figure x
figure_of (Err r) = refused_figure r

unfoldable pub mean_answer : List Float → Figure
mean_answer xs = guarded (mean_refusal (length xs)) refused_figure (figure (mean_of xs))

unfoldable pub variance_answer : List Float → Figure
variance_answer xs = guarded (variance_refusal (length xs)) refused_figure (figure (variance_of xs))
