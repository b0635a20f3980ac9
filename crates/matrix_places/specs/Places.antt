-- Places of flat matrices: a[i][j] of rows of k places is place i * k + j.
use Rattle.std.specs.Prelude.{ℕ, ◌+◌, ◌-◌, ◌*◌, Bool, cond, ◌||◌, List, eqb, leb, ltb, get_or, length, set, Float}
use Rattle.std.specs.Float.{nan}
use Rattle.base.specs.Limits.{most_conditions}
use Rattle.base.specs.Loop.{loop}
use Rattle.float.specs.Words.{◌⊕◌, ◌⊖◌, ◌⊗◌, ◌⊘◌}

-- what place k holds
abbrev pub at : List Float → ℕ → Float
at m k = get_or m k nan

-- the most contrasts: one less than the most conditions
abbrev pub most_contrasts : ℕ
most_contrasts = most_conditions - 1

-- p rows of k places are refused in memory of this length: no row or too many, no place or too many, no room
unfoldable pub refuses : ℕ → ℕ → ℕ → ℕ → Bool
refuses most p k len = eqb p 0 || (ltb most p || (ltb most_conditions p || (eqb k 0 || (ltb most_conditions k || ltb len (p * k)))))

-- place m of x, counted from p on in steps of s, times place m of y, counted from q on in steps of t, is added to the sum
abbrev pub dot_at : List Float → ℕ → ℕ → List Float → ℕ → ℕ → ℕ → Float → Float
dot_at x p s y q t m sum = sum ⊕ at x (p + m * s) ⊗ at y (q + m * t)

-- n such products, added up from z: -0.0 where the source says `.sum()`, +0.0 where it has a loop
unfoldable pub dot : Float → List Float → ℕ → ℕ → List Float → ℕ → ℕ → ℕ → Float
dot z x p s y q t n = loop 0 n (dot_at x p s y q t) z

-- n places from p on in steps of s do not all lie in memory of this length: too many, too far apart, begun behind the end, ended behind it
unfoldable pub lacks : ℕ → ℕ → ℕ → ℕ → Bool
lacks p s n len = ltb most_conditions n || (ltb most_conditions s || (ltb len p || leb (len + s) (p + n * s)))

-- the sum where all places are there, and z where one is lacking
unfoldable pub dot_in : Float → List Float → ℕ → ℕ → List Float → ℕ → ℕ → ℕ → Float
dot_in z x p s y q t n = cond (lacks p s n (length x)) z (cond (lacks q t n (length y)) z (dot z x p s y q t n))

-- f times place j of the row that begins at p is taken from place j of the row that begins at q
abbrev pub less_at : ℕ → ℕ → Float → ℕ → List Float → List Float
less_at p q f j m = set m (q + j) (at m (q + j) ⊖ f ⊗ at m (p + j))

-- f times the row that begins at p is taken from the row that begins at q, in the columns from i on; both have w places
unfoldable pub less_row : ℕ → ℕ → Float → ℕ → ℕ → List Float → List Float
less_row p q f i w m = loop i w (less_at p q f) m

-- place j of the row that begins at p is divided by d
abbrev pub over_at : ℕ → Float → ℕ → List Float → List Float
over_at p d j m = set m (p + j) (at m (p + j) ⊘ d)

-- the row of w places that begins at p is divided by d
unfoldable pub over_row : ℕ → Float → ℕ → List Float → List Float
over_row p d w m = loop 0 w (over_at p d) m

-- memory of this length is too short for the row of w places that begins at p
unfoldable pub short : ℕ → ℕ → ℕ → Bool
short p w len = ltb len (p + w)

-- the steps where the rows are there, and the memory as it was where one is not
unfoldable pub less_row_in : ℕ → ℕ → Float → ℕ → ℕ → List Float → List Float
less_row_in p q f i w m = cond (short p w (length m)) m (cond (short q w (length m)) m (less_row p q f i w m))

unfoldable pub over_row_in : ℕ → Float → ℕ → List Float → List Float
over_row_in p d w m = cond (short p w (length m)) m (over_row p d w m)
