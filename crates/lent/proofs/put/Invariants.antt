-- What is left of the numbers, laid over the places from i on, gives all.
use Prim.Native.Nat.{◌≤◌}
use mathlib.Core.Path.{◌≡◌}
use lib.ListN.{length}
use Rattle.base.proofs.Fills.{fill}
use Rattle.lent.proofs.Lays.{itself, each}
use Rattle.lent.proofs.put.Given as goal

abbrev pub invariant-loop-i : goal.invariant-loop-i
invariant-loop-i l = (length l.numbers ≤ length l.initial.out) × (length l.out ≡ length l.initial.out) × (fill itself l.numbers l.out l.i ≡ each l.numbers l.initial.out)
