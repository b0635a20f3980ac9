-- Laws of a factor's codes: the fold that finds the largest, and that none is above it.
use mathlib.Core.Path.{◌≡◌, sym, ◌∙◌}
use mathlib.Core.List.{List, [], ◌∷◌, foldl}
use Prim.Native.Nat.{ℕ, zero, suc, ◌≤◌, ◌<◌, max}
use native.Mathlib.Nat.{not-suc-le-zero, le_of_suc-le-suc}
use native.Mathlib.Omega.{arith}
use lib.ListN.{length, get_or}
use Rattle.twoway_checks.specs.Checks.{largest}

pub code_le : (us : List ℕ) (i : ℕ) → i < length us → get_or us i 0 ≤ largest us
unfolding largest
code_le [] i h = absurd (not-suc-le-zero h)
code_le (u ∷ us) zero h = omega arith
code_le (u ∷ us) (suc i) h = omega (arith, code_le us i (le_of_suc-le-suc h))

-- the fold from any start
largest_from : (us : List ℕ) (m : ℕ) → foldl max m us ≡ max m (largest us)
unfolding largest
largest_from [] m = omega arith
largest_from (u ∷ us) m = largest_from us (max m u) ∙ omega arith

pub largest_fold : (us : List ℕ) → largest us ≡ foldl max 0 us
largest_fold us = sym (largest_from us 0 ∙ omega arith)
