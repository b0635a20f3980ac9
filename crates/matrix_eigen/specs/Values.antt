-- `compute_eigenvalues` of n rows of n places: a hundred rounds, and then the diagonal.
use Rattle.std.specs.Prelude.{ℕ, ◌+◌, ◌*◌, Bool, true, false, cond, List, length, set, replicate, Float}
use Rattle.base.specs.Loop.{loop}
use Rattle.float.specs.Words.{plus_zero}
use Rattle.matrix_places.specs.Places.{at, most_contrasts, refuses}
use Rattle.matrix_product.specs.Product.{times}
use Rattle.matrix_eigen.specs.Qr.{qr_columns}

-- room for the largest matrix that is taken, with +0.0 in all its places
unfoldable pub zeros : List Float
zeros = replicate (most_contrasts * most_contrasts) plus_zero

-- Q and R of the matrix
unfoldable pub qr_here : ℕ → List Float → List Float × List Float
qr_here n m = qr_columns n m (zeros, zeros)

-- the matrix becomes R Q
unfoldable pub round : ℕ → List Float → List Float
round n m = times n n n (qr_here n m).1 (qr_here n m).0 m

-- a round, whichever it is
abbrev pub round_at : ℕ → ℕ → List Float → List Float
round_at n i m = round n m

-- exactly a hundred of them
unfoldable pub rounds : ℕ → List Float → List Float
rounds n m = loop 0 100 (round_at n) m

-- `eigenvalues[i] = matrix[i][i]`
abbrev pub diagonal_at : ℕ → List Float → ℕ → List Float → List Float
diagonal_at n m i v = set v i (at m (i * n + i))

unfoldable pub diagonal : ℕ → List Float → List Float → List Float
diagonal n m v = loop 0 n (diagonal_at n m) v

-- the memory after the call, and whether the matrix was taken
unfoldable pub compute_eigenvalues : ℕ → List Float × List Float → (List Float × List Float) × Bool
compute_eigenvalues n s =
    cond (refuses most_contrasts n n (length s.0)) (s, false)
    (cond (refuses most_contrasts n 1 (length s.1)) (s, false)
    ((rounds n s.0, diagonal n (rounds n s.0) s.1), true))
