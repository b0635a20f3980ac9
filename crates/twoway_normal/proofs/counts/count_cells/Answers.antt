-- Each reading adds one in the place of its cell, which is one of the 49.
use Rattle.std.proofs.Common.{rules, refl, ap, ◌∙◌, arith, [], ◌∷◌}
use lib.ListN.{length-set, length-append}
use Rattle.std.proofs.lemmas.Slice.Zip.{zip_turn}
use Rattle.base.specs.Lists.{bump}
use Rattle.base.proofs.Loops.{step}
use Rattle.twoway_normal.specs.Counted.{counts_of, most_counts}
use Rattle.twoway_normal.proofs.Coded.{place_below}
use Rattle.twoway_normal.proofs.Tallies.{no_count, one_more_lem}
use Rattle.twoway_normal.proofs.counts.count_cells.Goals as goal

pub loop-u-init : goal.loop-u-init
unfolding counts_of
loop-u-init c = (refl, (λ d. let z = no_count most_counts d in omega (arith, z)), refl)

pub loop-u-preserved : goal.loop-u-preserved
loop-u-preserved c =
    let z = zip_turn c.args.factor_a.now c.args.factor_b.now c.loop-u.yielded _ c.loop-u.u-iterator c.next.new.self c.next.result (search rules) (search rules) c.loop-u.yielded_by _ c.in-Some.is c.next.ensures.steps in
    let p = place_below _ _ _ _ c.args.levels.in_range.1 c.args.levels.in_range.3 c.cell_of.ensures in
    rw (length-append c.loop-u.yielded ((c.in-Some.u, c.in-Some.v) ∷ [])) (
      simp length-set c.loop-u.invariant.0,
      (λ d. omega (arith, c.loop-u.invariant.1 d, one_more_lem c.loop-u.counts c.cell_of.result d (omega (arith, p, c.loop-u.invariant.0)))),
      step _ _ _ _ _ _ c.loop-u.invariant.2 z.0 (ap (bump c.loop-u.counts) (c.cell_of.ensures ∙ rw (z.2 0, z.3 0))),
    )
