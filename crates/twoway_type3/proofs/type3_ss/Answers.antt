-- Where the sizes fit, the normal equations and the effects are worked out in the first 6,400 places, and the wipe leaves no trace of that; where they do not, nothing is touched.
use mathlib.Core.Path.{◌≡◌}
use lib.ListN.{take}
use Rattle.base.specs.Limits.{scratch_places}
use Rattle.twoway_normal.proofs.Laid.{equations_room, equations_taken}
use Rattle.twoway_type3.proofs.Answers.{not_taken_lem, taken}
use Rattle.twoway_type3.proofs.type3_ss.Goals as goal

pub unwrap-room-requires : goal.unwrap-room-requires
unwrap-room-requires c = c.first_chunk_mut.ensures.variant.1 (equations_room _ _ _ _ _ _ c.normal_equations.ensures c.if-normal_equations.true)

pub invariant_of-all_effects : goal.invariant_of-all_effects
invariant_of-all_effects c =
    let f = (equations_taken _ _ _ _ _ _ c.normal_equations.ensures c.if-normal_equations.true).0 in
    record { in_range = (f.least_a, f.most_a, f.least_b, f.most_b) }

pub returns-then-normal_equations : goal.returns-then-normal_equations
returns-then-normal_equations c =
    let chunk = rw c.unwrap-room.ensures at c.first_chunk_mut.ensures.cases in
    let here : c.unwrap-room.result.now ≡ take scratch_places c.normal_equations.new.work = chunk.same in
    taken _ _ _ _ _ _ c.normal_equations.ensures c.if-normal_equations.true (rw here at c.all_effects.ensures)

pub returns-else-normal_equations : goal.returns-else-normal_equations
returns-else-normal_equations c =
    not_taken_lem _ _ _ _ _ _ c.normal_equations.ensures c.if-normal_equations.false c.no_effects.ensures
