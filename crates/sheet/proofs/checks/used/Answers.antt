-- Sound rows are few enough to be added up.
use Rattle.std.proofs.Common.{rules, ◌≡◌, length, arith}
use Rattle.base.proofs.Order.{was_passed}
use Rattle.oneway_rows.proofs.Counted.{sound}
use Rattle.sheet.proofs.checks.used.Goals as goal

pub ahead-requires : goal.ahead-requires
ahead-requires c =
    let n : length c.args.sheet.now.rows ≡ 16 = search rules in
    omega (arith, n, sound _ _ (was_passed _ tt c.rows_refusal.ensures c.in-Ok.is))
