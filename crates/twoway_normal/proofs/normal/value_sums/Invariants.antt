-- What is left to add gives the whole, where i readings were added; what is left of the readings and their codes stands behind these.
use Prim.Native.Nat.{◌*◌}
use mathlib.Core.Path.{◌≡◌}
use lib.ListN.{length, drop}
use Rattle.base.specs.Limits.{most_cells}
use Rattle.base.specs.Loop.{loop}
use Rattle.lent.specs.Wiping.{zeros}
use Rattle.twoway_normal.proofs.Readings.{add_reading}
use Rattle.twoway_normal.proofs.normal.value_sums.Given as goal

abbrev pub invariant-loop-y : goal.invariant-loop-y
invariant-loop-y l =
    (l.p ≡ l.levels.a * l.levels.b)
    × (length l.sums ≡ most_cells)
    × (l.y-iterator.a.a.rest.now ≡ drop (length l.yielded) l.values)
    × (l.y-iterator.a.b.rest.now ≡ drop (length l.yielded) l.factor_a)
    × (l.y-iterator.b.rest.now ≡ drop (length l.yielded) l.factor_b)
    × (loop (length l.yielded) (length l.values) (add_reading l.values l.factor_a l.factor_b l.levels.a l.levels.b l.rows) l.sums ≡ loop 0 (length l.values) (add_reading l.values l.factor_a l.factor_b l.levels.a l.levels.b l.rows) (zeros most_cells))
