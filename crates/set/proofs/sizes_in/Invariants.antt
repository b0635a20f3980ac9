-- The sizes of what is left, laid over the places from g on, give those of all; what was added up and what is left is the sum of all.
use Prim.Native.Nat.{◌≤◌, ◌+◌, ◌*◌}
use mathlib.Core.Path.{◌≡◌}
use mathlib.Core.List.{map}
use lib.ListN.{length, drop}
use Rattle.base.specs.Lists as Lists
use Rattle.base.specs.Lists.{over, words}
use Rattle.base.proofs.Fills.{fill}
use Rattle.results.specs.Results.{no_sizes}
use Rattle.set.specs.Bytes.{little}
use Rattle.set.proofs.sizes_in.Given as goal

abbrev pub invariant-loop-g : goal.invariant-loop-g
invariant-loop-g l =
    (length l.sizes ≡ 16) × (l.total ≤ l.g * 65535) × (l.total + Lists.total (drop l.g (map little (words 2 l.k l.bytes))) ≡ Lists.total (map little (words 2 l.k l.bytes)))
    × (fill little (words 2 l.k l.bytes) l.sizes l.g ≡ over (map little (words 2 l.k l.bytes)) no_sizes)
