use Prim.Native.Nat.{◌-◌}
use mathlib.Core.Path.{◌≡◌}
use lib.ListN.{length}
use Rattle.base.specs.Loop.{loop}
use Rattle.twoway_normal.specs.Coding.{products_of, products}
use Rattle.twoway_normal.proofs.codes.products.Given as goal

abbrev pub invariant-loop-ka : goal.invariant-loop-ka
invariant-loop-ka l = (l.ka-end ≡ l.levels.a - 1) × (length l.x ≡ 37) × (loop l.ka (l.levels.a - 1) (products_of l.levels.a l.levels.b) l.x ≡ products l.levels.a l.levels.b l.initial.x)
