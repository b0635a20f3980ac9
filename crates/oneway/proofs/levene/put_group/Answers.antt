-- Each place gets the distance of the reading at it; there are as many places as readings, so nothing else is left.
use mathlib.Core.Path.{◌≡◌, ◌∙◌}
use native.Mathlib.Omega.{arith}
use mathlib.Core.List.{map}
use lib.ListN.{length, length-map}
use Rattle.base.proofs.Fills.{fill_starts}
use Rattle.base.proofs.Runs.{over_all}
use Rattle.oneway.specs.Levene.{distance}
use Rattle.oneway.proofs.levene.put_group.Goals as goal

pub loop-i-init : goal.loop-i-init
loop-i-init c =
    let f = distance c.args.mean in
    let n : length (map f c.args.group.now) ≡ length c.args.group.now = length-map c.args.group.now f in
    (c.requires, fill_starts f c.args.group.now c.args.out.now (omega (arith, c.requires)) ∙ over_all (map f c.args.group.now) c.args.out.now (omega (arith, c.requires, n)))
