-- After i readings each cell holds those of its readings that came so far, in their order, from its start on (`Placed`); no cell reaches into the next, since its count is all that will come.
use Rattle.std.proofs.Common.{arith}
use Rattle.twoway_cells.proofs.Laying.{begun, place_here, room_here, one_more, all_laid}
use Rattle.twoway_cells.proofs.sort.lay.Goals as goal

pub loop-i-init : goal.loop-i-init
loop-i-init c = begun _ _ _ _ _ _ c.requires c.starts_of-next.ensures

pub bounds-next-c : goal.bounds-next-c
bounds-next-c c =
    let place = place_here _ _ _ _ _ _ c.requires _ _ _ c.loop-i.invariant c.loop-i-test.true _ c.cell_number-c.ensures in
    omega (arith, place)

pub offset_bounds-scratch-at : goal.offset_bounds-scratch-at
offset_bounds-scratch-at c =
    let room = room_here _ _ _ _ _ _ c.requires _ _ _ c.loop-i.invariant c.loop-i-test.true _ c.cell_number-c.ensures in
    omega (arith, room)

pub bounds-scratch-at : goal.bounds-scratch-at
bounds-scratch-at c = room_here _ _ _ _ _ _ c.requires _ _ _ c.loop-i.invariant c.loop-i-test.true _ c.cell_number-c.ensures

pub overflow_add-next : goal.overflow_add-next
overflow_add-next c =
    let room = room_here _ _ _ _ _ _ c.requires _ _ _ c.loop-i.invariant c.loop-i-test.true _ c.cell_number-c.ensures in
    omega (arith, room)

pub bounds-next-c-in-loop-i : goal.bounds-next-c-in-loop-i
bounds-next-c-in-loop-i c =
    let place = place_here _ _ _ _ _ _ c.requires _ _ _ c.loop-i.invariant c.loop-i-test.true _ c.cell_number-c.ensures in
    omega (arith, place)

pub loop-i-preserved : goal.loop-i-preserved
loop-i-preserved c = one_more _ _ _ _ _ _ c.requires _ _ _ c.loop-i.invariant c.loop-i-test.true _ c.cell_number-c.ensures

pub returns : goal.returns
returns c = all_laid _ _ _ _ _ _ c.requires _ _ _ c.loop-i.invariant c.loop-i-test.false
