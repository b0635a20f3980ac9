-- Squares are added up to a float whose sign is clear: from any such, and, where there is one, from -0.0.
use Prim.Native.Nat.{◌<◌}
use mathlib.Core.Path.{refl}
use mathlib.Core.List.{List, [], ◌∷◌, foldl}
use native.Mathlib.Nat.{lt_irrefl}
use lib.Ieee.{Float}
use lib.ListN.{length}
use Rattle.float.specs.Words.{◌⊕◌, ◌⊖◌}
use Rattle.float.proofs.Clear.{Clear, plus_clear, start_clear, times_clear}
use Rattle.stats.specs.Sums.{add_by, sum_by, sq_dist, sq_dev}

module _ (m : Float) where
  dist_clear : (x : Float) → Clear (sq_dist m x)
  dist_clear x = times_clear (x ⊖ m) (x ⊖ m) refl

  pub squares_clear : (xs : List Float) (t : Float) → Clear t → Clear (foldl (add_by (sq_dist m)) t xs)
  squares_clear [] t c = c
  squares_clear (x ∷ xs) t c = squares_clear xs (t ⊕ sq_dist m x) (plus_clear t (sq_dist m x) c (dist_clear x))

  pub sq_dev_clear : (xs : List Float) → 0 < length xs → Clear (sq_dev m xs)
  unfolding sum_by
  sq_dev_clear [] h = absurd (lt_irrefl 0 h)
  sq_dev_clear (x ∷ xs) h = squares_clear xs _ (start_clear (sq_dist m x) (dist_clear x))
