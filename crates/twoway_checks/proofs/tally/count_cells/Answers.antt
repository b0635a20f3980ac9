-- Each reading adds one in the place of its key, which is one of the 36 since both codes are below 6: that is the fold `tally`.
use Rattle.std.proofs.Common.{rules, arith}
use Rattle.std.proofs.lemmas.Slice.Zip.{either_empty_from_Zip}
use Rattle.twoway_checks.specs.Data.{no_counts}
use Rattle.twoway_checks.proofs.Counting.{counting_starts, place_here, room_here, counting_turn, counting_ends}
use Rattle.twoway_checks.proofs.tally.count_cells.Goals as goal

pub loop-a-init : goal.loop-a-init
unfolding no_counts
loop-a-init c = counting_starts c.args.factor_a.now c.args.factor_b.now _ _ c.args.levels_b c.requires (search rules) (search rules)

pub bounds-counts-cell_number : goal.bounds-counts-cell_number
bounds-counts-cell_number c = place_here _ _ _ _ _ _ _ _ c.loop-a.invariant c.in-Some.ensures.steps.0 c.in-Some.ensures.steps.1 _ c.cell_number.ensures

pub overflow_add-counts : goal.overflow_add-counts
overflow_add-counts c =
    let room = room_here _ _ _ _ _ _ _ _ c.loop-a.invariant c.in-Some.ensures.steps.0 c.in-Some.ensures.steps.1 _ c.cell_number.ensures in
    omega (arith, room)

pub bounds-counts-cell_number-in-loop-a : goal.bounds-counts-cell_number-in-loop-a
bounds-counts-cell_number-in-loop-a c = place_here _ _ _ _ _ _ _ _ c.loop-a.invariant c.in-Some.ensures.steps.0 c.in-Some.ensures.steps.1 _ c.cell_number.ensures

pub loop-a-preserved : goal.loop-a-preserved
loop-a-preserved c = counting_turn _ _ _ _ _ _ _ _ c.loop-a.invariant c.in-Some.ensures.steps.0 c.in-Some.ensures.steps.1 _ c.cell_number.ensures

pub returns : goal.returns
returns c = counting_ends _ _ _ _ c.loop-a.invariant (either_empty_from_Zip c.loop-a.a-iterator c.next.new.self _ c.in-None.is c.next.ensures.steps)
