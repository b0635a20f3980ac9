-- `matrix_multiply` and `matrix_multiply_csc`: sums of products from +0.0.
use Rattle.std.specs.Prelude.{ℕ, ◌+◌, ◌*◌, Bool, true, false, cond, ◌||◌, List, leb, ltb, length, set, replicate, Float}
use Rattle.base.specs.Limits.{most_conditions}
use Rattle.base.specs.Loop.{loop}
use Rattle.float.specs.Words.{plus_zero}
use Rattle.matrix_places.specs.Places.{most_contrasts, refuses, dot}

-- out[i][j] becomes the sum of the l products of row i of a and column j of b, which begins at j * u and whose places are t apart
abbrev pub product_at : List Float → List Float → ℕ → ℕ → ℕ → ℕ → ℕ → ℕ → List Float → List Float
product_at a b u t l w i j out = set out (i * w + j) (dot plus_zero a (i * l) 1 b (j * u) t l)

-- row i of the product, which has w places
unfoldable pub product_row : List Float → List Float → ℕ → ℕ → ℕ → ℕ → ℕ → List Float → List Float
product_row a b u t l w i out = loop 0 w (product_at a b u t l w i) out

-- the product's n rows
unfoldable pub product : List Float → List Float → ℕ → ℕ → ℕ → ℕ → ℕ → List Float → List Float
product a b u t n l w out = loop 0 n (product_row a b u t l w) out

-- one of the matrices does not fit, in memories of these lengths: the rows of a in x, the rows of the product in z, or the columns of b in y
unfoldable pub misfits : ℕ → ℕ → ℕ → ℕ → ℕ → ℕ → ℕ → ℕ → Bool
misfits x y u t n l w z =
    refuses most_conditions n l x || (refuses most_conditions n w z
    || (ltb most_conditions u || (ltb most_conditions t || leb (y + t + u) (w * u + l * t))))

-- the product where all fit, and out as it was where one does not
unfoldable pub product_in : List Float → List Float → ℕ → ℕ → ℕ → ℕ → ℕ → List Float → List Float
product_in a b u t n l w out = cond (misfits (length a) (length b) u t n l w (length out)) out (product a b u t n l w out)

-- A B, for n rows of l places and l rows of w
abbrev pub times : ℕ → ℕ → ℕ → List Float → List Float → List Float → List Float
times n l w a b out = product a b 1 w n l w out

-- A B', for n rows of l places and w rows of l: column j of B' is row j of B
abbrev pub times_turned : ℕ → ℕ → ℕ → List Float → List Float → List Float → List Float
times_turned n l w a b out = product a b l 1 n l w out

-- room for as many rows as there may be contrasts, of as many places as there may be conditions
unfoldable pub blank : List Float
blank = replicate (most_contrasts * most_conditions) plus_zero

-- C S, and (C S) C'
unfoldable pub csc : ℕ → ℕ → List Float → List Float → List Float → List Float
csc p k c s out = times_turned p k p (times p k k c s blank) c out

-- the memory after the call, and whether the matrices were taken
unfoldable pub matrix_multiply_csc : ℕ → ℕ → List Float → List Float → List Float → List Float × Bool
matrix_multiply_csc p k c s out =
    cond (refuses most_contrasts p k (length c)) (out, false)
    (cond (refuses most_conditions k k (length s)) (out, false)
    (cond (refuses most_contrasts p p (length out)) (out, false)
    (csc p k c s out, true)))
