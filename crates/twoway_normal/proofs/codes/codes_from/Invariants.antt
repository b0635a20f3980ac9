use Prim.Native.Nat.{◌-◌}
use mathlib.Core.Path.{◌≡◌}
use lib.ListN.{length}
use Rattle.base.specs.Loop.{loop}
use Rattle.twoway_normal.specs.Coding.{code_at, codes_from}
use Rattle.twoway_normal.proofs.codes.codes_from.Given as goal

abbrev pub invariant-loop-k : goal.invariant-loop-k
invariant-loop-k l = (l.k-end ≡ l.levels - 1) × (length l.x ≡ 37) × (loop l.k (l.levels - 1) (code_at l.p l.levels l.u) l.x ≡ codes_from l.p l.levels l.u l.initial.x)
