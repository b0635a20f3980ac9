use mathlib.Core.Path.{◌≡◌}
use lib.ListN.{length}
use Rattle.base.specs.Loop.{loop}
use Rattle.twoway_normal.specs.Inner.{add_row, add_products}
use Rattle.twoway_normal.proofs.normal.add_products.Given as goal

abbrev pub invariant-loop-j : goal.invariant-loop-j
invariant-loop-j l = (length l.m ≡ length l.initial.m) × (loop l.j l.p (add_row l.w l.n l.x) l.m ≡ add_products l.p l.w l.n l.x l.initial.m)
