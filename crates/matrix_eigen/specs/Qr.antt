-- `qr_decomposition` of n rows of n places, by Gram and Schmidt. A state is a pair: the column and R, or Q and R.
use Rattle.std.specs.Prelude.{ℕ, ◌+◌, ◌*◌, Bool, true, false, cond, List, length, set, replicate, Float}
use Rattle.std.specs.Float.Ieee.{lt}
use Rattle.base.specs.Lists.{over}
use Rattle.base.specs.Loop.{loop}
use Rattle.float.specs.Words.{◌⊖◌, ◌⊗◌, ◌⊘◌, plus_zero, minus_zero, tinier}
use Rattle.root.specs.Root.{sqrt_of}
use Rattle.lent.specs.Wiping.{zeros}
use Rattle.matrix_places.specs.Places.{at, most_contrasts, refuses, dot}

-- room for a column
unfoldable pub blank_column : List Float
blank_column = replicate most_contrasts plus_zero

-- `v[k] = a[k][j]`
abbrev pub take_at : ℕ → List Float → ℕ → ℕ → List Float → List Float
take_at n a j k v = set v k (at a (k * n + j))

-- column j of a
unfoldable pub column_of : ℕ → List Float → ℕ → List Float → List Float
column_of n a j v = loop 0 n (take_at n a j) v

-- `(0..n).map(|k| q[k][i] * a[k][j]).sum()`: of the column of a, not of what is left of it
abbrev pub column_dot : ℕ → List Float → ℕ → List Float → ℕ → Float
column_dot n q i a j = dot minus_zero q i n a j n n

-- `v[k] -= f * q[k][i]`
abbrev pub less_column_at : ℕ → List Float → ℕ → Float → ℕ → List Float → List Float
less_column_at n q i f k v = set v k (at v k ⊖ f ⊗ at q (k * n + i))

unfoldable pub less_column : ℕ → List Float → ℕ → Float → List Float → List Float
less_column n q i f v = loop 0 n (less_column_at n q i f) v

-- the projection onto column i of q, taken from v and put to r[i][j]
unfoldable pub project : ℕ → List Float → List Float → ℕ → ℕ → List Float × List Float → List Float × List Float
project n a q j i s = (less_column n q i (column_dot n q i a j) s.0, set s.1 (i * n + j) (column_dot n q i a j))

-- the projections onto all columns before j
unfoldable pub projections : ℕ → List Float → List Float → ℕ → List Float × List Float → List Float × List Float
projections n a q j s = loop 0 j (project n a q j) s

-- `v.iter().map(|x| x * x).sum::<f64>().sqrt()`
abbrev pub norm : ℕ → List Float → Float
norm n v = sqrt_of (dot minus_zero v 0 1 v 0 1 n)

-- `q[k][j] = v[k] / d`
abbrev pub put_at : ℕ → List Float → ℕ → Float → ℕ → List Float → List Float
put_at n v j d k q = set q (k * n + j) (at v k ⊘ d)

unfoldable pub put_column : ℕ → List Float → ℕ → Float → List Float → List Float
put_column n v j d q = loop 0 n (put_at n v j d) q

-- column j of q where the norm is above 1e-15, which a NaN is not: otherwise it stays as it is
unfoldable pub new_column : ℕ → ℕ → List Float → List Float → List Float
new_column n j v q = cond (lt tinier (norm n v)) (put_column n v j (norm n v) q) q

-- that, and r[j][j], which is the norm in both cases
unfoldable pub normalize : ℕ → ℕ → List Float → List Float × List Float → List Float × List Float
normalize n j v s = (new_column n j v s.0, set s.1 (j * n + j) (norm n v))

-- what is left of column j of a, and R with the projections
unfoldable pub remains : ℕ → List Float → List Float → ℕ → List Float → List Float × List Float
remains n a q j r = projections n a q j (column_of n a j blank_column, r)

-- column j of Q and of R
unfoldable pub qr_column : ℕ → List Float → ℕ → List Float × List Float → List Float × List Float
qr_column n a j s = normalize n j (remains n a s.0 j s.1).0 (s.0, (remains n a s.0 j s.1).1)

-- all columns
unfoldable pub qr_columns : ℕ → List Float → List Float × List Float → List Float × List Float
qr_columns n a s = loop 0 n (qr_column n a) s

-- the first k places hold +0.0, the others what they held
unfoldable pub wiped : ℕ → List Float → List Float
wiped k m = over (zeros k) m

-- from +0.0 in all places
unfoldable pub qr_of : ℕ → List Float → List Float × List Float → List Float × List Float
qr_of n a s = qr_columns n a (wiped (n * n) s.0, wiped (n * n) s.1)

-- the memory after the call, and whether the matrices were taken
unfoldable pub qr_decomposition : ℕ → List Float → List Float × List Float → (List Float × List Float) × Bool
qr_decomposition n a s =
    cond (refuses most_contrasts n n (length a)) (s, false)
    (cond (refuses most_contrasts n n (length s.0)) (s, false)
    (cond (refuses most_contrasts n n (length s.1)) (s, false)
    (qr_of n a s, true)))
