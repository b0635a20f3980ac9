-- Where the pivot's row is found: from the diagonal row on, within the matrix.
use Prim.Native.Nat.{ℕ, ◌+◌, ◌*◌, ◌<◌, ◌≤◌}
use native.Mathlib.Omega.{arith}
use mathlib.Core.Path.{◌≡◌, refl}
use mathlib.Core.Bool.{Bool, true, false, cond}
use mathlib.Core.List.{List}
use lib.Ieee.{Float, lt}
use Rattle.base.proofs.Bounds.{then_of, else_of}
use Rattle.float.specs.Singles.{abs_of}
use Rattle.matrix_linear.specs.Rows.{at, better, pivot_row}
use Rattle.base.proofs.Walks.{walks}

either_lt : (b : Bool) (x y n : ℕ) → x < n → y < n → cond b x y < n
either_lt true x y n h k = h
either_lt false x y n h k = k

-- the better of two rows is one of them
pub better_lt : (m : List Float) (w col r best n : ℕ) → r < n → best < n → better m w col r best < n
unfolding better
better_lt m w col r best n h k = either_lt (lt (abs_of (at m (best * w + col))) (abs_of (at m (r * w + col)))) r best n h k

either_le : (b : Bool) (x y n : ℕ) → n ≤ x → n ≤ y → n ≤ cond b x y
either_le true x y n h k = h
either_le false x y n h k = k

-- the pivot's row is not above the diagonal's
pub pivot_from : (n w col : ℕ) (m : List Float) → col < n → col ≤ pivot_row n w col m
unfolding pivot_row better
pivot_from n w col m h =
    (walks (better m w col) (λ r best. (col < r) × (col ≤ best)) n
    (λ r best l e. (omega arith, either_le (lt (abs_of (at m (best * w + col))) (abs_of (at m (r * w + col)))) r best col (omega arith) e.1))
    (col + 1) col (omega arith) (omega arith, omega arith)).1

-- a and b are the absolute values that the code compared
module _ (m : List Float) (w col r best : ℕ) {a b : Float} (p : a ≡ abs_of (at m (best * w + col))) (q : b ≡ abs_of (at m (r * w + col))) where
  compared : {t : Bool} → lt a b ≡ t → lt (abs_of (at m (best * w + col))) (abs_of (at m (r * w + col))) ≡ t
  compared e = rw (p, q) at e

  pub strictly_larger : lt a b ≡ true → r ≡ better m w col r best
  unfolding better
  strictly_larger e = then_of (lt (abs_of (at m (best * w + col))) (abs_of (at m (r * w + col)))) r best (compared e) refl

  pub not_larger : lt a b ≡ false → best ≡ better m w col r best
  unfolding better
  not_larger e = else_of (lt (abs_of (at m (best * w + col))) (abs_of (at m (r * w + col)))) r best (compared e) refl
