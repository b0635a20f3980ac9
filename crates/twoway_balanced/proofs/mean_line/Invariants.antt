use Prim.Native.Nat.{◌≤◌}
use mathlib.Core.Path.{◌≡◌}
use Rattle.twoway_balanced.specs.Squares.{line_step, mean_line}
use Rattle.base.specs.Loop.{loop}
use Rattle.twoway_balanced.proofs.mean_line.Given as goal

abbrev pub invariant-loop-q : goal.invariant-loop-q
invariant-loop-q l = (l.q ≤ l.n) × (loop l.q l.n (line_step l.means l.s l.d) l.t ≡ mean_line l.means l.s l.d l.n)
