-- The two ways out of the call, behind its own check.
use mathlib.Core.Path.{◌≡◌}
use mathlib.Core.List.{List}
use Prim.Native.Nat.{ℕ, ◌≤◌}
use borrow.Author.Tests.{eq-eqb, ne_eqb, le-ltb}
use lib.Dec.{eqb}
use lib.Ieee.{Float}
use lib.ListN.{length}
use Rattle.lent.specs.Laying.{laid}
use Rattle.lent.proofs.Lays.{laid_room}
use Rattle.repeated.specs.declared.RmAnovaResult.{RmAnovaResult}
use Rattle.repeated.specs.Anova.{repeated_measures_anova}
use Rattle.speed_repeated.specs.Calls.{numbers_of, handed, timed}

module _ (xs : List Float) (ns : List ℕ) (word : ℕ) (out : List Float) (r : RmAnovaResult) (told : r ≡ repeated_measures_anova xs ns (eqb word 1)) where
  -- an analysis that is accepted hands out its numbers
  pub accepted : (s : List Float) → 8 ≤ length out → r.refusal.number ≡ 0 → s ≡ laid (numbers_of r) out → (s, 0) ≡ timed xs ns word out
  unfolding timed handed
  accepted s h z p = rw (le-ltb (length out) 8 h, ← told, eq-eqb r.refusal.number 0 z, p, laid_room (numbers_of r) out h)

  -- and one that is refused its refusal's number
  pub refused : 8 ≤ length out → (r.refusal.number ≡ 0 → ⊥) → (out, r.refusal.number) ≡ timed xs ns word out
  unfolding timed handed
  refused h n = rw (le-ltb (length out) 8 h, ← told, ne_eqb r.refusal.number 0 n)
