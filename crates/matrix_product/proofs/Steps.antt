-- One place of a product, from what the code worked out.
use Prim.Native.Nat.{ℕ, ◌+◌, ◌*◌, ◌<◌}
use mathlib.Core.Path.{◌≡◌, ap}
use mathlib.Core.List.{List}
use lib.ListN.{set}
use lib.Ieee.{Float}
use Rattle.base.specs.Loop.{loop}
use Rattle.base.proofs.Loops.{step}
use Rattle.float.specs.Words.{plus_zero}
use Rattle.matrix_places.specs.Places.{dot}
use Rattle.matrix_product.specs.Product.{product_at}

-- place j of row i of a product: x is its sum
pub product_step : (a b : List Float) (u t l w i j : ℕ) (out : List Float) {x : Float} {whole : List Float}
    → loop j w (product_at a b u t l w i) out ≡ whole → j < w → x ≡ dot plus_zero a (i * l) 1 b (j * u) t l → loop (j + 1) w (product_at a b u t l w i) (set out (i * w + j) x) ≡ whole
product_step a b u t l w i j out e h q = step j w (product_at a b u t l w i) out _ _ e h (ap (set out (i * w + j)) q)
