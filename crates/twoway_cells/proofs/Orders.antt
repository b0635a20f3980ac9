-- The readings of the 36 keys one after another are the cells one after another: the empty ones behind them add nothing.
use mathlib.Core.Path.{◌≡◌, refl}
use mathlib.Core.List.{List, [], ◌∷◌, ◌++◌, flatten, append-nil, append_assoc}
use Prim.Native.Nat.{ℕ, zero, suc, ◌*◌, ◌≤◌, ◌<◌}
use lib.Ieee.{Float}
use lib.ListN.{length, replicate}
use Rattle.twoway_checks.specs.Checks.{largest}
use Rattle.twoway_checks.specs.Inner.{keys, sorted}
use Rattle.twoway_checks.proofs.Keys.{sorted_cells}
use Rattle.twoway_cells.specs.Organized.{cell_order}

module _ {A : Type 0} where
  flatten_append : (gs hs : List (List A)) → flatten (gs ++ hs) ≡ flatten gs ++ flatten hs
  unfolding flatten
  flatten_append [] hs = refl
  flatten_append (g ∷ gs) hs = rw (flatten_append gs hs, append_assoc)

  flatten_empty : (n : ℕ) → flatten (replicate {A = List A} n []) ≡ []
  unfolding flatten
  flatten_empty zero = refl
  flatten_empty (suc n) = flatten_empty n

pub sorted_order : (a b : ℕ) (xs : List Float) (us vs : List ℕ) → length us ≡ length xs → length vs ≡ length xs → largest us < a → largest vs < b → a * b ≤ 36
    → flatten (sorted (keys b us vs) xs) ≡ cell_order a b xs us vs
sorted_order a b xs us vs e f p q l = rw (sorted_cells a b xs us vs e f p q l, flatten_append, flatten_empty, append-nil)
