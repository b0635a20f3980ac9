-- A cell lies between its start and the next one (`is_cell`).
use Rattle.std.proofs.Common.{arith}
use Rattle.twoway_means.proofs.Places.{few}
use Rattle.twoway_means.proofs.Cells.cell.Goals as goal

pub offset_bounds-self-inside-c : goal.offset_bounds-self-inside-c
offset_bounds-self-inside-c c = omega (arith, few _ _ _ c.self.invariant _ (rw (← c.self.view_is) at c.requires))

pub bounds-self-inside-c : goal.bounds-self-inside-c
bounds-self-inside-c c = omega (arith, few _ _ _ c.self.invariant _ (rw (← c.self.view_is) at c.requires))

pub overflow_add-result : goal.overflow_add-result
overflow_add-result c = omega (arith, few _ _ _ c.self.invariant _ (rw (← c.self.view_is) at c.requires))

pub offset_bounds-self-inside-c-2 : goal.offset_bounds-self-inside-c-2
offset_bounds-self-inside-c-2 c = omega (arith, few _ _ _ c.self.invariant _ (rw (← c.self.view_is) at c.requires))

pub bounds-self-inside-c-2 : goal.bounds-self-inside-c-2
bounds-self-inside-c-2 c = omega (arith, few _ _ _ c.self.invariant _ (rw (← c.self.view_is) at c.requires))
