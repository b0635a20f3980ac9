-- The part that a view takes of the readings is its group.
use mathlib.Core.Path.{◌≡◌}
use mathlib.Core.List.{List, []}
use Prim.Native.Nat.{ℕ, ◌<◌}
use native.Mathlib.Nat.{add-sub_cancel_left}
use lib.Ieee.{Float}
use lib.ListN.{length, take, get_or}
use Rattle.base.specs.Lists.{total, cut}
use Rattle.base.proofs.Cuts.{cut_at}
use Rattle.base.proofs.Searches.{here}

pub view_here : (xs : List Float) (ns : List ℕ) (g : ℕ) → g < length ns → here xs ns g (total (take g ns)) ≡ get_or (cut ns xs) g []
view_here xs ns g h = rw (cut_at ns g xs h, add-sub_cancel_left)
