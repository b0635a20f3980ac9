-- Each reading finds the row of its cell, which is kept since the cell has a reading.
use mathlib.Core.Path.{refl, ap, ◌∙◌}
use mathlib.Core.List.{List}
use native.Mathlib.Omega.{arith}
use lib.ListN.{get_or}
use lib.Ieee.{Float, nan}
use mathlib.Core.Logic.{inl, inr}
use Rattle.std.proofs.Common.{sym, None, length, ◌≤◌, ◌≡◌}
use lib.ListN.{length-append}
use Rattle.std.proofs.lemmas.List.{nil_from_length}
use Rattle.std.proofs.lemmas.Slice.Zip.{either_empty_from_Zip}
use Rattle.base.proofs.Loops.{step, ends}
use Rattle.base.proofs.Rests.{first_left, over_at}
use Rattle.matrix_places.specs.Places.{at}
use Rattle.twoway_normal.specs.Counted.{cell_of}
use Rattle.twoway_normal.proofs.Readings.{add_reading, values_walk}
use Rattle.twoway_normal.proofs.Sizes.{cells_most}
use Rattle.twoway_normal.proofs.normal.value_sums.Goals as goal

pub loop-y-preserved : goal.loop-y-preserved
unfolding add_reading
loop-y-preserved c =
    let i = length c.loop-y.yielded in
    let y = first_left c.args.values.now i nan (sym c.loop-y.invariant.2 ∙ c.in-Some.ensures.steps.0.0) in
    let u = first_left c.args.factor_a.now i 0 (sym c.loop-y.invariant.3 ∙ c.in-Some.ensures.steps.0.1) in
    let v = first_left c.args.factor_b.now i 0 (sym c.loop-y.invariant.4 ∙ c.in-Some.ensures.steps.1) in
    let w : c.cell_of-c.result ≡ cell_of c.args.levels.a c.args.levels.b (get_or c.args.factor_a.now i 0) (get_or c.args.factor_b.now i 0) = c.cell_of-c.ensures ∙ rw (u.1, v.1) in
    rw (length-append c.loop-y.yielded _) (c.loop-y.invariant.0, omega arith, y.2, u.2, v.2, step _ _ _ _ _ _ c.loop-y.invariant.5 y.0 (c.add_value.ensures ∙ rw (y.1, w)))

pub returns : goal.returns
returns c =
    let i = length c.loop-y.yielded in
    let done : length c.args.values.now ≤ i =
    elim c.in-None.ensures.steps [
      | inl z ↦ elim (either_empty_from_Zip c.loop-y.y-iterator.a z.0 None refl z.1) [
        | inl e ↦ over_at c.args.values.now i (sym c.loop-y.invariant.2 ∙ e)
        | inr e ↦ omega (arith, over_at c.args.factor_a.now i (sym c.loop-y.invariant.3 ∙ e), c.requires.0.codes_a)
      ]
      | inr n ↦ omega (arith, over_at c.args.factor_b.now i (sym c.loop-y.invariant.4 ∙ nil_from_length _ n.1.0), c.requires.0.codes_b)
    ] in
    let e = ends _ _ _ _ _ c.loop-y.invariant.5 done in
    let m = cells_most c.args.levels.a c.args.levels.b c.requires.0.most_a c.requires.0.most_b in
    λ j h.
    ap (λ (sums : List Float). at sums j) e
    ∙ values_walk c.args.values.now c.args.factor_a.now c.args.factor_b.now c.args.levels.a c.args.levels.b c.requires.0 c.args.rows.now c.requires.2 m j h
