-- Laws of a sum that a loop adds up: what is left to add from i on, from t, gives the whole sum.
use mathlib.Core.Path.{◌≡◌, refl}
use mathlib.Core.List.{List, [], ◌∷◌, map, foldl}
use Prim.Native.Nat.{ℕ, ◌+◌, ◌<◌, ◌≤◌}
use Rattle.std.specs.List.{fold}
use lib.ListN.{get_or, length}
use lib.Ieee.{Float}
use Rattle.base.proofs.Folds.{rest, fold_step, fold_ends}
use Rattle.float.specs.Words.{◌⊕◌, minus_zero}
use Rattle.stats.specs.Sums.{add_by, sum_by}

module _ {A : Type 0} (f : A → Float) (xs : List A) where
  abbrev pub Left : Float → ℕ → Type 0
  Left t i = rest (add_by f) xs t i ≡ sum_by f xs

  pub sum_starts : Left minus_zero 0
  unfolding sum_by
  sum_starts = refl

  pub sum_step : (d : A) (i : ℕ) (t t' : Float) → Left t i → i < length xs → t' ≡ t ⊕ f (get_or xs i d) → Left t' (i + 1)
  sum_step d i t t' e h q = fold_step (add_by f) xs d i t t' e h q

  pub sum_ends : (i : ℕ) (t : Float) → Left t i → length xs ≤ i → t ≡ sum_by f xs
  sum_ends i t e h = fold_ends (add_by f) xs i t e h

-- f of each, added up, is the sum by f
pub sum_of_map : {A : Type 0} (f : A → Float) (t : Float) (xs : List A) → fold (λ a x. a ⊕ x) t (map f xs) ≡ foldl (add_by f) t xs
sum_of_map f t [] = refl
sum_of_map f t (x ∷ xs) = sum_of_map f (t ⊕ f x) xs
