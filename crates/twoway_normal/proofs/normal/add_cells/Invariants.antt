use Prim.Native.Nat.{◌+◌, ◌*◌}
use mathlib.Core.Path.{◌≡◌}
use lib.ListN.{length, get_or}
use Rattle.base.specs.Limits.{scratch_places}
use Rattle.base.specs.Lists.{part}
use Rattle.base.specs.Loop.{loop}
use Rattle.twoway_normal.specs.Counted.{cells_of}
use Rattle.twoway_normal.specs.Equations.{rows_from}
use Rattle.twoway_normal.specs.Inner.{Kept, Aside, add_cell, add_cells}
use Rattle.twoway_normal.proofs.normal.add_cells.Given as goal

abbrev pub invariant-loop-c : goal.invariant-loop-c
invariant-loop-c l = (let z = l.levels.a * l.levels.b * (l.levels.a * l.levels.b + 1) in (length l.work ≡ scratch_places) × (loop l.c (cells_of l.levels.a l.levels.b) (λ d. add_cell l.levels.a l.levels.b d (get_or l.counts d 0)) (part 0 z l.work) ≡ add_cells l.levels.a l.levels.b l.counts (part 0 z l.initial.work)) × Kept l.levels.a l.levels.b l.counts rows_from l.c l.work × Aside l.levels.a l.levels.b l.initial.work l.work)
