-- `solve` leaves the coefficients and the inverse in their places, and each effect leaves both as they were, so the three effects read the same ones.
use Prim.Native.Nat.{◌*◌, ◌≤◌}
use mathlib.Core.Path.{◌≡◌, ap, ◌∙◌}
use native.Mathlib.Omega.{arith}
use lib.ListN.{length}
use Rattle.base.specs.Limits.{most_cells, scratch_places}
use Rattle.lent.specs.Wiping.{zeros}
use Rattle.lent.proofs.Wipes.{wiped_short}
use Rattle.twoway_type3.proofs.Chains.{effects_chain}
use Rattle.twoway_normal.proofs.Sizes.{cells_most}
use Rattle.twoway_type3.proofs.wald.all_effects.Goals as goal

pub returns : goal.returns
returns c =
    let all_columns : c.args.levels.a * c.args.levels.b ≤ most_cells = cells_most c.args.levels.a c.args.levels.b c.args.levels.in_range.1 c.args.levels.in_range.3 in
    let long : length c.wald_ss-ss_ab.new.work ≡ scratch_places = c.wald_ss-ss_ab.array_long in (
      c.wipe.ensures ∙ wiped_short _ (omega arith) ∙ ap zeros long,
      effects_chain _ c.args.levels.a c.args.levels.b all_columns c.solve-solved.new.work c.wald_ss-ss_a.new.work c.wald_ss-ss_b.new.work c.wald_ss-ss_ab.new.work (c.solve-solved.ensures.coefficients, c.solve-solved.ensures.inverted) c.solve-solved.ensures.skipped c.wald_ss-ss_a.ensures c.wald_ss-ss_b.ensures c.wald_ss-ss_ab.ensures,
    )
