-- What all the tests of what is taken leave known.
use Prim.Native.Nat.{ℕ, ◌≤◌}
use mathlib.Core.Path.{◌≡◌}
use mathlib.Core.Bool.{true, ◌&&◌}
use mathlib.Core.List.{List}
use borrow.Author.Tests.{leb-true, eqb-true}
use lib.Dec.{leb, eqb}
use lib.ListN.{length}
use lib.Ieee.{Float}
use Rattle.base.specs.Limits.{most_levels, most_readings, scratch_places}
use Rattle.base.proofs.Faults.{both}
use Rattle.twoway_normal.specs.Inner.{Fitting}
use Rattle.twoway_normal.specs.Shape.{factor_fits, fits}

factor_known : (levels codes n : ℕ) → factor_fits levels codes n ≡ true → (2 ≤ levels) × (levels ≤ most_levels) × (codes ≡ n)
unfolding factor_fits
factor_known levels codes n e =
    let p = both (leb 2 levels) (leb levels most_levels && eqb codes n) e in
    let q = both (leb levels most_levels) (eqb codes n) p.1 in
    (leb-true 2 levels p.0, leb-true levels most_levels q.0, eqb-true codes n q.1)

module _ (values : List Float) (us vs : List ℕ) (a b lent : ℕ) where
  pub fitting : fits (length values) (length us) (length vs) a b lent ≡ true → Fitting values us vs a b × (scratch_places ≤ lent)
  unfolding fits
  fitting e =
      let p = both (factor_fits a (length us) (length values)) (factor_fits b (length vs) (length values) && (leb (length values) most_readings && leb scratch_places lent)) e in
      let q = both (factor_fits b (length vs) (length values)) (leb (length values) most_readings && leb scratch_places lent) p.1 in
      let r = both (leb (length values) most_readings) (leb scratch_places lent) q.1 in
      let f = factor_known a (length us) (length values) p.0 in
      let g = factor_known b (length vs) (length values) q.0 in
      (record { least_a = f.0; most_a = f.1; least_b = g.0; most_b = g.1; codes_a = f.2; codes_b = g.2; few = leb-true (length values) most_readings r.0 }, leb-true scratch_places lent r.1)
