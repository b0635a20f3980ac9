use Prim.Native.Nat.{◌*◌}
use mathlib.Core.Path.{◌≡◌}
use lib.ListN.{length}
use lib.ListN.{drop}
use lib.Seq.{sets}
use Rattle.base.specs.Lists.{run}
use Rattle.base.specs.Lists.{over}
use Rattle.bench.specs.Calls.{float_bytes}
use Rattle.bench.proofs.put_floats.Given as goal

abbrev pub invariant-loop-x : goal.invariant-loop-x
invariant-loop-x l = (length l.out ≡ length l.initial.out) × (l.at ≡ l.x-index * 8) × (sets l.out l.at (run float_bytes (drop l.x-index l.figures)) ≡ over (run float_bytes l.figures) l.initial.out)
