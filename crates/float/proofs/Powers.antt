-- One turn of the rule of `power_of`, its end, and its first powers.
use Prim.Native.Nat.{ℕ, zero, suc, ◌/◌, ◌%◌, ◌^◌, ◌<◌}
use mathlib.Core.Path.{◌≡◌, refl}
use native.Mathlib.Omega.{arith}
use native.Mathlib.Nat.{pow-succ'}
use borrow.Author.Tests.{eq-eqb, ne_eqb}
use lib.Dec.{T}
use lib.Ieee.{Float, binary64, fits}
use lib.Ieee.Fits.{mul-fits}
use Rattle.float.specs.Words.{◌⊗◌, one, square}
use Rattle.float.proofs.Values.{one_times}
use Rattle.float.specs.Singles.{next_result, next_base, power_from, power_of}

-- What is left to do from here gives the whole, and n turns are enough for it.
abbrev pub Leaves : Float → Float → ℕ → Float → Type 0
Leaves result base p whole = (n : ℕ) × (p < 2 ^ n) × (power_from n result base p ≡ whole)

-- One turn makes r of the result and b of the base.
module _ (result base : Float) (p : ℕ) where
  pub odd_turn : {r : Float} → p % 2 ≡ 1 → r ≡ result ⊗ base → r ≡ next_result p result base
  odd_turn h e = rw (eq-eqb (p % 2) 1 h) e

  pub even_turn : {r : Float} → (p % 2 ≡ 1 → ⊥) → r ≡ result → r ≡ next_result p result base
  even_turn h e = rw (ne_eqb (p % 2) 1 h) e

  module _ (whole : Float) where
    turn : {r b : Float} → Leaves result base p whole → (p ≡ 0 → ⊥) → r ≡ next_result p result base → b ≡ next_base (p / 2) base → Leaves r b (p / 2) whole
    unfolding power_from
    turn (zero, h, e) more i j = absurd (more (omega arith))
    turn (suc n, h, e) more i j = (n, omega (arith, pow-succ' 2 n), rw (i, j) (rw (ne_eqb p 0 more) at e))

    pub next_turn : {r : Float} → Leaves result base p whole → (p ≡ 0 → ⊥) → r ≡ next_result p result base → (p / 2 ≡ 0 → ⊥) → Leaves r (base ⊗ base) (p / 2) whole
    next_turn l more i h = turn l more i (rw (ne_eqb (p / 2) 0 h))

    pub last_turn : {r : Float} → Leaves result base p whole → (p ≡ 0 → ⊥) → r ≡ next_result p result base → p / 2 ≡ 0 → Leaves r base (p / 2) whole
    last_turn l more i h = turn l more i (rw (eq-eqb (p / 2) 0 h))

    pub ends : Leaves result base p whole → p ≡ 0 → result ≡ whole
    unfolding power_from
    ends (zero, h, e) z = e
    ends (suc n, h, e) z = rw (eq-eqb p 0 z) at e

-- The first powers: `powi(2)` is x * x, with no rounding by the 1 that the rule starts from.
pub power_none : (x : Float) → power_of x 0 ≡ one
unfolding power_of
power_none x = refl

pub power_one : (x : Float) → T (fits binary64 x) → power_of x 1 ≡ x
unfolding power_of
power_one x f = one_times x f

pub power_two : (x : Float) → power_of x 2 ≡ square x
unfolding power_of
power_two x = one_times (square x) (mul-fits binary64 x x)
