-- The products lie behind the columns that they are made of, so no product overwrites a factor.
use mathlib.Core.Path.{refl}
use native.Mathlib.Omega.{arith}
use lib.ListN.{length-set}
use Rattle.base.proofs.Loops.{step}
use Rattle.twoway_normal.proofs.codes.products_of.Goals as goal

pub loop-kb-preserved : goal.loop-kb-preserved
loop-kb-preserved c = (c.loop-kb.invariant.0, simp length-set c.loop-kb.invariant.1, step _ _ _ _ _ _ c.loop-kb.invariant.2 (omega arith) refl)
