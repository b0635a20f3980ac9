use mathlib.Core.Path.{◌≡◌}
use lib.ListN.{length}
use Rattle.base.specs.Limits.{scratch_places}
use Rattle.base.specs.Loop.{loop}
use Rattle.twoway_type3.specs.Inner.{half_step}
use Rattle.twoway_type3.proofs.half.left_half.Given as goal

abbrev pub invariant-loop-i : goal.invariant-loop-i
invariant-loop-i l = (length l.work ≡ scratch_places) × (loop l.i l.n (half_step l.to l.n l.from l.w) l.work ≡ loop 0 l.n (half_step l.to l.n l.from l.w) l.initial.work)
