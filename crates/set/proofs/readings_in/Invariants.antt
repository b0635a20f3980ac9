-- The readings of what is left, laid over the places from i on, give those of all.
use mathlib.Core.Path.{◌≡◌}
use mathlib.Core.List.{map}
use lib.ListN.{length}
use Rattle.base.specs.Lists.{over, words}
use Rattle.base.proofs.Fills.{fill}
use Rattle.set.specs.Bytes.{reading}
use Rattle.set.specs.Sets.{no_readings}
use Rattle.set.proofs.readings_in.Given as goal

abbrev pub invariant-loop-i : goal.invariant-loop-i
invariant-loop-i l = (length l.readings ≡ 512) × (fill reading (words 8 l.n l.bytes) l.readings l.i ≡ over (map reading (words 8 l.n l.bytes)) no_readings)
