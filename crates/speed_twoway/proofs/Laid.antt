-- The two ways out of the call, behind its own check.
use mathlib.Core.Path.{◌≡◌}
use mathlib.Core.List.{List}
use Prim.Native.Nat.{ℕ, ◌≤◌}
use borrow.Author.Tests.{eq-eqb, ne_eqb, le-ltb}
use lib.Ieee.{Float}
use lib.ListN.{length}
use Rattle.lent.specs.Laying.{laid}
use Rattle.lent.proofs.Lays.{laid_room}
use Rattle.twoway.specs.declared.TwoWayAnovaResult.{TwoWayAnovaResult}
use Rattle.twoway.specs.Anova.{two_way_anova}
use Rattle.speed_twoway.specs.Calls.{numbers_of, handed, timed}

module _ (xs : List Float) (us vs : List ℕ) (scratch out left : List Float) (r : TwoWayAnovaResult) (told : ◌≡◌ {A = List Float × TwoWayAnovaResult} (left, r) (two_way_anova xs us vs scratch)) where
  -- an analysis that is accepted hands out its numbers
  pub accepted : (s : List Float) → 6 ≤ length out → r.refusal.number ≡ 0 → s ≡ laid (numbers_of r) out → (left, (s, 0)) ≡ timed xs us vs scratch out
  unfolding timed handed
  accepted s h z p = rw (le-ltb (length out) 6 h, ← told, eq-eqb r.refusal.number 0 z, p, laid_room (numbers_of r) out h)

  -- and one that is refused its refusal's number
  pub refused : 6 ≤ length out → (r.refusal.number ≡ 0 → ⊥) → (left, (out, r.refusal.number)) ≡ timed xs us vs scratch out
  unfolding timed handed
  refused h n = rw (le-ltb (length out) 6 h, ← told, ne_eqb r.refusal.number 0 n)
