-- What is left to put from group g on gives the whole, of the distances and of their rows.
use Prim.Native.Nat.{◌+◌}
use mathlib.Core.Path.{◌≡◌}
use mathlib.Core.List.{map, flatten}
use lib.ListN.{length, drop}
use Rattle.base.specs.Lists.{total, over}
use Rattle.oneway_rows.specs.Rows.{row_answer}
use Rattle.oneway.specs.Summary.{size_of}
use Rattle.oneway.specs.Levene.{distances_of}
use Rattle.oneway.proofs.Distances.{putting, rowing}
use Rattle.oneway.proofs.levene.put_distances.Given as goal

abbrev pub invariant-loop-g : goal.invariant-loop-g
invariant-loop-g l =
    (l.at + total (map size_of (drop l.g l.rows)) ≡ length l.readings) × (length l.out ≡ length l.readings) × (length l.far ≡ length l.initial.far)
    × (putting l.rows l.readings l.g l.at l.out ≡ flatten (distances_of l.rows l.readings))
    × (rowing l.rows l.readings l.g l.at l.far ≡ over (map row_answer (distances_of l.rows l.readings)) l.initial.far)
