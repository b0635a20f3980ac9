-- A passed design (`Held`) has its cells one after another in the scratch, so the table is that of the cells; the effects wipe the scratch, readings and all.
use Rattle.std.proofs.Common.{sym, arith}
use Rattle.twoway.proofs.Design.{refused_there, ready, small, answer_there, front_length}
use Rattle.twoway_cells.proofs.Designs.{held, passes}
use Rattle.twoway.proofs.two_way_anova.Goals as goal

pub returns-in-Err : goal.returns-in-Err
returns-in-Err c = refused_there _ _ _ _ _ _ c.organize_two_way_data.ensures c.in-Err.is c.refused.ensures

pub overflow_mul-k : goal.overflow_mul-k
overflow_mul-k c = omega (arith, (held _ _ _ _ _ c.organize_two_way_data.ensures c.in-Ok.is).few)

pub slice_bounds-cell_table-end : goal.slice_bounds-cell_table-end
slice_bounds-cell_table-end c =
    let hold = held _ _ _ _ _ c.organize_two_way_data.ensures c.in-Ok.is in omega (arith, hold.most, hold.lent)

pub slice_bounds-cell_table-end-2 : goal.slice_bounds-cell_table-end-2
slice_bounds-cell_table-end-2 c = sym (front_length _ _ _ _ _ _ (held _ _ _ _ _ c.organize_two_way_data.ensures c.in-Ok.is))

pub shared_ref_as_front-cell_table : goal.shared_ref_as_front-cell_table
shared_ref_as_front-cell_table c = (held _ _ _ _ _ c.organize_two_way_data.ensures c.in-Ok.is).few

pub squares-e-requires : goal.squares-e-requires
squares-e-requires c = ready _ _ _ _ _ _ (held _ _ _ _ _ c.organize_two_way_data.ensures c.in-Ok.is)

pub answer-requires : goal.answer-requires
answer-requires c = small _ _ _ _ _ _ (held _ _ _ _ _ c.organize_two_way_data.ensures c.in-Ok.is)

pub returns : goal.returns
returns c =
    answer_there _ _ _ _ _ _ (held _ _ _ _ _ c.organize_two_way_data.ensures c.in-Ok.is) _ _ _ _ (passes _ _ _ _ _ c.organize_two_way_data.ensures c.in-Ok.is) c.cell_table-t.ensures c.squares-e.ensures c.answer.ensures
