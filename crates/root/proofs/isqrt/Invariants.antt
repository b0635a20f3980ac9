use Prim.Native.Nat.{◌+◌, ◌*◌, ◌^◌, ◌<◌}
use Rattle.root.proofs.isqrt.Given as goal

abbrev pub invariant-loop-r : goal.invariant-loop-r
invariant-loop-r l = (l.n < (l.r + 1) * (l.r + 1)) × (l.r < 2 ^ 30)

abbrev pub decreases-loop-r : goal.decreases-loop-r
decreases-loop-r l = l.r
