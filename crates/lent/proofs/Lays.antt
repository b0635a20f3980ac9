-- Numbers laid into memory that has places enough.
use Prim.Native.Nat.{ℕ, ◌≤◌}
use mathlib.Core.Path.{◌≡◌, ◌∙◌, sym}
use mathlib.Core.List.{List, map, map-id}
use native.Mathlib.Omega.{arith}
use borrow.Author.Tests.{le-ltb}
use lib.Ieee.{Float}
use lib.ListN.{length}
use Rattle.base.specs.Lists.{over}
use Rattle.base.proofs.Fills.{fill_ends, fill}
use Rattle.base.proofs.Runs.{over_all}
use Rattle.lent.specs.Laying.{laid}

-- a number is put as it is
abbrev pub itself : Float → Float
itself x = x

module _ (numbers out : List Float) where
  abbrev pub each : List Float
  each = over (map itself numbers) out

  pub laid_room : length numbers ≤ length out → laid numbers out ≡ over numbers out
  unfolding laid
  laid_room h = rw (le-ltb (length out) (length numbers) h)

  -- where each number has been put into its place
  pub all_put : (out' : List Float) (i : ℕ) → length numbers ≤ length out → fill itself numbers out' i ≡ each → length numbers ≤ i → out' ≡ laid numbers out
  all_put out' i h e ends = rw (map-id numbers) at (fill_ends itself numbers out' i e ends) ∙ sym (laid_room h)

  -- as many places as numbers
  pub laid_all : length out ≡ length numbers → laid numbers out ≡ numbers
  laid_all e = laid_room (omega arith) ∙ over_all numbers out e
