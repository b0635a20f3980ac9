-- The two ends of `normal_equations`.
use Prim.Native.Nat.{ℕ}
use mathlib.Core.Path.{◌≡◌}
use mathlib.Core.Bool.{Bool, true, false}
use mathlib.Core.List.{List}
use lib.ListN.{length}
use lib.Ieee.{Float}
use Rattle.twoway_normal.specs.Equations.{laid_system, normal_equations}
use Rattle.twoway_normal.specs.Shape.{fits}

module _ (values : List Float) (us vs : List ℕ) (a b : ℕ) (work : List Float) where
  pub not_taken_lem : fits (length values) (length us) (length vs) a b (length work) ≡ false → ◌≡◌ {A = List Float × Bool} (work, false) (normal_equations values us vs a b work)
  unfolding normal_equations
  not_taken_lem e = rw e

  pub taken : {w : List Float} → fits (length values) (length us) (length vs) a b (length work) ≡ true → w ≡ laid_system values us vs a b work → ◌≡◌ {A = List Float × Bool} (w, true) (normal_equations values us vs a b work)
  unfolding normal_equations
  taken e p = rw (e, p)
