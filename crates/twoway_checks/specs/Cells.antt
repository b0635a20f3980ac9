-- Readings in the cells of two factors. xs are the readings; us are their codes of factor A, vs their codes of factor B.
use Rattle.std.specs.Prelude.{ℕ, zero, suc, ◌+◌, ◌*◌, ◌/◌, ◌%◌, cond, ◌&&◌, List, [], ◌∷◌, map, eqb, Float, length}

-- cell (i, j): the readings with these two codes, in input order
unfoldable pub cell : ℕ → ℕ → List Float → List ℕ → List ℕ → List Float
cell i j [] us vs = []
cell i j (x ∷ xs) [] vs = []
cell i j (x ∷ xs) (u ∷ us) [] = []
cell i j (x ∷ xs) (u ∷ us) (v ∷ vs) = cond (eqb u i && eqb v j) (x ∷ cell i j xs us vs) (cell i j xs us vs)

-- n numbers, from k on
unfoldable pub numbers : ℕ → ℕ → List ℕ
numbers k zero = []
numbers k (suc n) = k ∷ numbers (suc k) n

-- the number of the cell of the codes u and v, where factor B has b levels: cells are counted by A, then B, from 0
abbrev pub cell_number : ℕ → ℕ → ℕ → ℕ
cell_number b u v = u * b + v

-- cell number c, where factor B has b levels
abbrev pub numbered : ℕ → List Float → List ℕ → List ℕ → ℕ → List Float
numbered b xs us vs c = cell (c / b) (c % b) xs us vs

-- all cells of a levels and b levels, by A, then B
unfoldable pub cells : ℕ → ℕ → List Float → List ℕ → List ℕ → List (List Float)
cells a b xs us vs = map (numbered b xs us vs) (numbers 0 (a * b))

-- how many readings each cell has
abbrev pub cell_counts : ℕ → ℕ → List Float → List ℕ → List ℕ → List ℕ
cell_counts a b xs us vs = map length (cells a b xs us vs)
