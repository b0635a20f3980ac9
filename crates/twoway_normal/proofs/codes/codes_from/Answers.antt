-- Column after column of the factor is put down; none reads what another wrote.
use Prim.Native.Nat.{◌+◌}
use mathlib.Core.Path.{ap}
use native.Mathlib.Omega.{arith}
use lib.ListN.{length-set, set}
use lib.Ieee.{Float}
use Rattle.base.proofs.Loops.{step}
use Rattle.twoway_normal.proofs.codes.codes_from.Goals as goal

pub loop-k-preserved : goal.loop-k-preserved
loop-k-preserved c = (c.loop-k.invariant.0, simp length-set c.loop-k.invariant.1, step _ _ _ _ _ _ c.loop-k.invariant.2 (omega arith) (ap (λ (y : Float). set c.loop-k.x (c.args.p + c.loop-k.k) y) c.effect_code.ensures))
