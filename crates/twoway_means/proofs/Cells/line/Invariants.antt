-- What is left to add from cell q of the line on gives the whole.
use mathlib.Core.Path.{◌≡◌}
use Rattle.twoway_means.specs.Table.{tally_line, line_step}
use Rattle.base.specs.Loop.{loop}
use Rattle.twoway_means.proofs.Cells.line.Given as goal

abbrev pub invariant-loop-q : goal.invariant-loop-q
invariant-loop-q l = loop l.q l.n (line_step l.self l.s l.d) l.t ≡ tally_line l.self l.s l.d l.n
