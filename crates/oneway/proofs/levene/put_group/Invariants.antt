-- The distances of what is left, laid over the places from i on, give all.
use mathlib.Core.Path.{◌≡◌}
use mathlib.Core.List.{map}
use lib.ListN.{length}
use Rattle.base.proofs.Fills.{fill}
use Rattle.oneway.specs.Levene.{distance}
use Rattle.oneway.proofs.levene.put_group.Given as goal

abbrev pub invariant-loop-i : goal.invariant-loop-i
invariant-loop-i l = (length l.out ≡ length l.group) × (fill (distance l.mean) l.group l.out l.i ≡ map (distance l.mean) l.group)
