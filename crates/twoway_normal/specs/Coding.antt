-- Effect coding: the row of the design matrix that a reading has. There is a place for each cell that there may be and one more; a * b of them are used, and the reading's value stands behind these.
use Rattle.std.specs.Prelude.{ℕ, ◌+◌, ◌-◌, ◌*◌, cond, List, eqb, set, Float}
use Rattle.std.specs.Float.Ieee.{neg}
use Rattle.base.specs.Limits.{most_cells}
use Rattle.base.specs.Loop.{loop}
use Rattle.float.specs.Words.{◌⊗◌, plus_zero, one}
use Rattle.lent.specs.Wiping.{zeros}
use Rattle.matrix_places.specs.Places.{at}

-- column k of a factor with so many levels, at the code u: 1 at its own level, -1 at the last level, else 0
unfoldable pub effect_code : ℕ → ℕ → ℕ → Float
effect_code levels u k = cond (eqb u k) one (cond (eqb u (levels - 1)) (neg one) plus_zero)

-- `x[p + k]` becomes that
abbrev pub code_at : ℕ → ℕ → ℕ → ℕ → List Float → List Float
code_at p levels u k x = set x (p + k) (effect_code levels u k)

-- the columns of a factor, from place p on
unfoldable pub codes_from : ℕ → ℕ → ℕ → List Float → List Float
codes_from p levels u x = loop 0 (levels - 1) (code_at p levels u) x

-- the product of column ka of A and column kb of B, behind the columns of both
abbrev pub product_at : ℕ → ℕ → ℕ → ℕ → List Float → List Float
product_at a b ka kb x = set x (a + (b - 1) + (ka * (b - 1) + kb)) (at x (1 + ka) ⊗ at x (a + kb))

-- of column ka of A and all columns of B
unfoldable pub products_of : ℕ → ℕ → ℕ → List Float → List Float
products_of a b ka x = loop 0 (b - 1) (product_at a b ka) x

-- of all columns of both
unfoldable pub products : ℕ → ℕ → List Float → List Float
products a b x = loop 0 (a - 1) (products_of a b) x

-- the row of codes u and v: 1, the columns of A, those of B, the products; and behind them the value y
unfoldable pub design_row : ℕ → ℕ → ℕ → ℕ → Float → List Float
design_row a b u v y = set (products a b (codes_from a b v (codes_from 1 a u (set (zeros (most_cells + 1)) 0 one)))) (a * b) y
