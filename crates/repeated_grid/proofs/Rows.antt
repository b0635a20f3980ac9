-- Laws of the rows of a table: a row ends within the readings, its part is the row, and the means have their places.
use mathlib.Core.Path.{◌≡◌}
use mathlib.Core.List.{List}
use Prim.Native.Nat.{ℕ, ◌+◌, ◌*◌, ◌-◌, ◌≤◌, ◌<◌}
use native.Mathlib.Nat.{add-sub_cancel_left}
use native.Mathlib.Omega.{arith}
use lib.Ieee.{Float}
use lib.ListN.{length, take, drop, length-take}
use Rattle.base.specs.Lists.{part}
use Rattle.base.proofs.Bounds.{row_end}
use Rattle.repeated_grid.specs.declared.Grid.{Grid}
use Rattle.repeated_grid.specs.Inner.{Fitting}

module _ (xs : List Float) (n k : ℕ) (f : Fitting xs n k) where
  pub row_within : (i : ℕ) → i < n → i * k + k ≤ length xs
  row_within i h = rw f.all (row_end i n k h (omega arith))

-- what every grid keeps
pub fitting : (grid : Grid) → Fitting grid.readings.now grid.n grid.k
fitting grid = record { subjects = grid.subjects; conditions = grid.conditions; all = grid.all }

-- `&xs[at..at + k]`, as the code takes it
pub row_part : (at k : ℕ) (xs : List Float) → take (at + k - at) (drop at xs) ≡ part at k xs
unfolding part
row_part at k xs = rw add-sub_cancel_left

-- a row has no more places than there are sums
pub row_short : (grid : Grid) (at : ℕ) → length (part at grid.k grid.readings.now) ≤ 12
unfolding part
row_short grid at = rw length-take (omega (arith, grid.conditions))
