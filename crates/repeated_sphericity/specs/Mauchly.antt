-- Mauchly's W of a matrix m of p rows of p, and its degrees of freedom.
use Rattle.std.specs.Prelude.{ℕ, ◌+◌, ◌*◌, cond, List, Float}
use Rattle.std.specs.Float.Ieee.{lt}
use Rattle.base.specs.Loop.{loop}
use Rattle.float.specs.Words.{◌⊕◌, ◌⊖◌, ◌⊘◌, count, plus_zero, minus_zero, one, two, tinier}
use Rattle.float.specs.Singles.{abs_of, clamp_of, power_of}
use Rattle.matrix_linear.specs.Determinant.{matrix_determinant}
use Rattle.matrix_places.specs.Places.{at}

-- `(0..p).map(|i| m[i][i]).sum()`
abbrev pub trace_at : ℕ → List Float → ℕ → Float → Float
trace_at p m i t = t ⊕ at m (i * p + i)

unfoldable pub trace : ℕ → List Float → Float
trace p m = loop 0 p (trace_at p m) minus_zero

-- the mean of the diagonal
unfoldable pub mean_trace : ℕ → List Float → Float
mean_trace p m = trace p m ⊘ count p

-- the determinant
unfoldable pub det : ℕ → List Float → Float
det p m = (matrix_determinant p m).1

-- `det / mean.powi(p)` where the mean's absolute value is above 1e-15, which a NaN is not; else 1.0
unfoldable pub w_raw : ℕ → List Float → Float
w_raw p m = cond (lt tinier (abs_of (mean_trace p m))) (det p m ⊘ power_of (mean_trace p m) p) one

-- `.clamp(0.0, 1.0)`, which keeps a NaN and a -0.0
unfoldable pub mauchly_w : ℕ → List Float → Float
mauchly_w p m = clamp_of (w_raw p m) plus_zero one

-- `(p * (p + 1)) as f64 / 2.0 - 1.0`
unfoldable pub df_w : ℕ → Float
df_w p = count (p * (p + 1)) ⊘ two ⊖ one
