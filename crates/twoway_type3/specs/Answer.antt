-- The unbalanced branch of `compute_two_way_type3_ss`.
use Rattle.std.specs.Prelude.{ℕ, ◌+◌, ◌-◌, ◌*◌, cond, List, length, Float}
use Rattle.lent.specs.Wiping.{wiped}
use Rattle.matrix_linear.specs.System.{solve_linear_system}
use Rattle.matrix_linear.specs.Inverse.{matrix_inverse}
use Rattle.results.specs.declared.Effects.{Effects}
use Rattle.results.specs.Effects.{no_effects}
use Rattle.twoway_normal.specs.Normal.{normal_system}
use Rattle.twoway_normal.specs.Shape.{fits}
use Rattle.twoway_type3.specs.Matrices.{left_half}
use Rattle.twoway_type3.specs.Wald.{wald_ss}
use Rattle.twoway_type3.specs.declared.wald.Effect.{Effect}
use Rattle.twoway_type3.specs.declared.wald.Solved.{Solved}

-- a and b levels; m is the system of the normal equations
module _ (m : List Float) (a b : ℕ) where
  -- X'X, the left of the system, on the left of the rows for its inverse
  abbrev pub cross_products : List Float
  cross_products = left_half (a * b) 0 (a * b + 1) m

  -- the coefficients: the last column of the solved system
  unfoldable pub beta : List Float
  beta = (solve_linear_system (a * b) m).0

  -- the inverse of X'X, on the right of its rows
  unfoldable pub inverse : List Float
  inverse = (matrix_inverse (a * b) cross_products).0

  -- how many columns the solver skipped, and the inverse
  unfoldable pub solved_skips : Solved
  solved_skips = record { solver = (solve_linear_system (a * b) m).1.skipped; inverse = (matrix_inverse (a * b) cross_products).1.skipped }

  -- the effect with the n columns from s on
  abbrev pub effect : ℕ → ℕ → Effect
  effect s n = wald_ss (a * b) s n beta inverse

  -- A has the columns behind the first, B those behind A's, and the interaction the rest
  abbrev pub effect_a : Effect
  effect_a = effect 1 (a - 1)

  abbrev pub effect_b : Effect
  effect_b = effect a (b - 1)

  abbrev pub effect_ab : Effect
  effect_ab = effect (a + (b - 1)) ((a - 1) * (b - 1))

  -- their sums of squares, and what each elimination skipped, in the order in which they are made
  unfoldable pub effects_from : Effects
  effects_from = record {
    ss_a = effect_a.ss;
    ss_b = effect_b.ss;
    ss_ab = effect_ab.ss;
    skips = record { solver = solved_skips.solver; inverse = solved_skips.inverse; block_a = effect_a.skipped; block_b = effect_b.skipped; block_ab = effect_ab.skipped };
  }

-- of readings with codes
abbrev pub all_effects : List Float → List ℕ → List ℕ → ℕ → ℕ → Effects
all_effects values us vs a b = effects_from (normal_system values us vs a b) a b

-- the memory after the call, and the sums of squares
unfoldable pub type3_ss : List Float → List ℕ → List ℕ → ℕ → ℕ → List Float → List Float × Effects
type3_ss values us vs a b work =
    cond (fits (length values) (length us) (length vs) a b (length work)) (wiped work, all_effects values us vs a b) (work, no_effects)
