-- An append asks what a replacement of the group's first reading asks, and then whether a place is free (`append_full`, where none is).
use Rattle.std.proofs.Common.{rules, ◌≡◌, length, arith}
use Rattle.base.proofs.Order.{was_passed}
use Rattle.sheet.specs.Calls.{Replace}
use Rattle.sheet.proofs.Judged.{asked}
use Rattle.sheet.proofs.checks.append_refusal.Goals as goal

pub ahead-requires : goal.ahead-requires
ahead-requires c =
    let n : length c.args.sheet.now.rows ≡ 16 = search rules in
    omega (arith, n, asked (Replace c.args.group 0 c.args.x) c.args.sheet.now.groups c.args.sheet.now.rows (was_passed _ _ c.replace_refusal.ensures c.in_ok-replace_refusal.was))
