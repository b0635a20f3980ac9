-- What the definitions say of odd data, in words.
use Prim.Native.Nat.{ℕ, zero, suc, ◌+◌, ◌-◌, ◌<◌, ◌≤◌}
use mathlib.Core.Path.{◌≡◌, refl, subst}
use mathlib.Core.Bool.{Bool, true, false}
use mathlib.Core.List.{List}
use native.Mathlib.Omega.{arith}
use borrow.Author.Tests.{eqb-true, eqb-false}
use lib.Dec.{eqb}
use lib.Ieee.{Float, nan, is_nan, div, lt, of_bits, of_int}
use Rattle.float.specs.Words.{◌⊘◌, count, plus_zero, minus_zero, one, tinier}
use Rattle.float.specs.Singles.{abs_of, least_of, greatest_of, clamp_of}
use Rattle.float.proofs.Operands.{greatest_of_nan, clamp_keeps_nan, clamp_keeps_minus_zero}
use Rattle.repeated_sphericity.specs.Epsilons.{square_sum, gg_raw, epsilon_gg}
use Rattle.repeated_sphericity.specs.Mauchly.{trace, mean_trace, w_raw, mauchly_w}

-- P holds of the n numbers from a on, so it holds of each of them
Each : (ℕ → Type 0) → ℕ → ℕ → Type 0
Each P a zero = Unit {0}
Each P a (suc n) = P a × Each P (a + 1) n

each_at : (P : ℕ → Type 0) (n a k : ℕ) → Each P a n → a ≤ k → k < a + n → P k
unfolding Each
each_at P zero a k t h l = absurd (omega arith)
each_at P (suc n) a k t h l = either (eqb a k) refl (each_at P n (a + 1) k t.1)
  where
    either : (b : Bool) → eqb a k ≡ b → (a + 1 ≤ k → k < a + 1 + n → P k) → P k
    either true e f = subst P (eqb-true a k e) t.0
    either false e f = let ne = eqb-false a k e in f (omega (arith, ne)) (omega arith)

-- the bound 1/(k - 1) lies below 1.0, and 1.0 within the bounds
abbrev Bounds : ℕ → Type 0
Bounds k = (least_of (one ⊘ count (k - 1)) one ≡ one ⊘ count (k - 1)) × (least_of (greatest_of one (one ⊘ count (k - 1))) one ≡ one)

bounds : Each Bounds 3 10
unfolding Each least_of greatest_of is_nan lt div of_bits of_int
bounds = ((refl, refl), ((refl, refl), ((refl, refl), ((refl, refl), ((refl, refl), ((refl, refl), ((refl, refl), ((refl, refl), ((refl, refl), ((refl, refl), tt))))))))))

module _ (k : ℕ) (vs : List Float) (h : 3 ≤ k) (l : k ≤ 12) where
  -- a NaN for an estimate becomes the lower bound
  pub nan_is_lifted : gg_raw (k - 1) vs ≡ nan → epsilon_gg k vs ≡ one ⊘ count (k - 1)
  unfolding epsilon_gg
  nan_is_lifted e = rw (e, (greatest_of_nan (one ⊘ count (k - 1))).0) (each_at Bounds 10 3 k bounds h (omega arith)).0

  -- a squared sum that is not above 1e-15, as a NaN is not, gives 1.0
  pub faint_is_one : lt tinier (square_sum vs) ≡ false → epsilon_gg k vs ≡ one
  unfolding epsilon_gg gg_raw
  faint_is_one e = rw e (each_at Bounds 10 3 k bounds h (omega arith)).1

module _ (p : ℕ) (m : List Float) where
  -- a trace that is a NaN gives 1.0
  pub lost_trace_is_one : trace p m ≡ nan → mauchly_w p m ≡ one
  unfolding mauchly_w w_raw mean_trace clamp_of abs_of lt div of_bits
  lost_trace_is_one e = rw e

  -- W keeps a NaN and a -0.0
  pub w_keeps_nan : w_raw p m ≡ nan → mauchly_w p m ≡ nan
  unfolding mauchly_w
  w_keeps_nan e = rw e (clamp_keeps_nan plus_zero one)

  pub w_keeps_minus_zero : w_raw p m ≡ minus_zero → mauchly_w p m ≡ minus_zero
  unfolding mauchly_w
  w_keeps_minus_zero e = rw e clamp_keeps_minus_zero
