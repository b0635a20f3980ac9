-- Sums of readings in the order of the source, one rounding per operation.
use Rattle.std.specs.Prelude.{◌-◌, Bool, true, false, cond, Float, length}
use mathlib.Core.List.{List, [], ◌∷◌, foldl}
use Rattle.std.specs.Float.Ieee.{is_nan}
use Rattle.float.specs.Words.{◌⊕◌, ◌⊖◌, ◌⊘◌, count, minus_zero, square}

-- `.map(f).sum()`: f of each element, added up from -0.0 in their order
abbrev pub add_by : {A : Type 0} → (A → Float) → Float → A → Float
add_by f t x = t ⊕ f x

unfoldable pub sum_by : {A : Type 0} → (A → Float) → List A → Float
sum_by f xs = foldl (add_by f) minus_zero xs

-- `.sum()`
abbrev pub itself : Float → Float
itself x = x

abbrev pub sum : List Float → Float
sum xs = sum_by itself xs

-- the squared distance of a reading from m, and of all of them added up
abbrev pub sq_dist : Float → Float → Float
sq_dist m x = square (x ⊖ m)

abbrev pub sq_dev : Float → List Float → Float
sq_dev m xs = sum_by (sq_dist m) xs

-- the mean: the sum over the number of readings
abbrev pub mean_of : List Float → Float
mean_of xs = sum xs ⊘ count (length xs)

-- the variance: the squared distances from the mean over one less
abbrev pub variance_of : List Float → Float
variance_of xs = sq_dev (mean_of xs) xs ⊘ count (length xs - 1)

-- does the test hold of one of the readings?
unfoldable pub some : (Float → Bool) → List Float → Bool
some test [] = false
some test (x ∷ xs) = cond (test x) true (some test xs)

-- is one of the readings a NaN?
abbrev pub has_nan : List Float → Bool
has_nan xs = some is_nan xs
