-- What is still to be added to the running sum, from column j on, gives the whole.
use mathlib.Core.Path.{◌≡◌}
use Rattle.twoway_type3.specs.Wald.{wald_at, wald_row}
use Rattle.base.specs.Loop.{loop}
use Rattle.twoway_type3.proofs.wald.Columns.wald_row.Given as goal

abbrev pub invariant-loop-j : goal.invariant-loop-j
invariant-loop-j l = loop l.j l.n (wald_at l.p l.s l.n l.beta l.cov l.i) l.t ≡ wald_row l.p l.s l.n l.beta l.cov l.i l.ss
