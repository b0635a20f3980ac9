-- Place after place of the diagonal is added to one running sum.
use Rattle.std.proofs.Common.{◌≡◌}
use Rattle.base.specs.Loop.{loop}
use Rattle.repeated_sphericity.specs.Mauchly.{trace_at, trace}
use Rattle.repeated_sphericity.proofs.mauchly.Csc.trace.Given as goal

abbrev pub invariant-loop-i : goal.invariant-loop-i
invariant-loop-i l = loop l.i l.self.p (trace_at l.self.p l.self.places) l.t ≡ trace l.self.p l.self.places
