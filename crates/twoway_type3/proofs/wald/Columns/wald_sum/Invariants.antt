-- Row after row is added to one running sum.
use mathlib.Core.Path.{◌≡◌}
use Rattle.twoway_type3.specs.Wald.{wald_row, wald_sum}
use Rattle.base.specs.Loop.{loop}
use Rattle.twoway_type3.proofs.wald.Columns.wald_sum.Given as goal

abbrev pub invariant-loop-i : goal.invariant-loop-i
invariant-loop-i l = loop l.i l.self.n (wald_row l.self.p l.self.s l.self.n l.beta l.cov) l.ss ≡ wald_sum l.self.p l.self.s l.self.n l.beta l.cov
