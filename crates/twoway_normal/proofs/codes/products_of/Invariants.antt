use Prim.Native.Nat.{◌-◌}
use mathlib.Core.Path.{◌≡◌}
use lib.ListN.{length}
use Rattle.base.specs.Loop.{loop}
use Rattle.twoway_normal.specs.Coding.{product_at, products_of}
use Rattle.twoway_normal.proofs.codes.products_of.Given as goal

abbrev pub invariant-loop-kb : goal.invariant-loop-kb
invariant-loop-kb l = (l.kb-end ≡ l.b - 1) × (length l.x ≡ 37) × (loop l.kb (l.b - 1) (product_at l.a l.b l.ka) l.x ≡ products_of l.a l.b l.ka l.initial.x)
