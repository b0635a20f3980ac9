-- Sizes that fit are taken: where the first tests pass, none of the tests behind them refuses.
use Prim.Native.Nat.{ℕ, ◌-◌, ◌<◌, ◌≤◌}
use mathlib.Core.Path.{◌≡◌, refl}
use mathlib.Core.Bool.{Bool, true, false, cond}
use mathlib.Core.List.{List}
use native.Mathlib.Omega.{arith}
use lib.Ieee.{Float}
use lib.ListN.{length}
use Rattle.base.proofs.Bounds.{product_le}
use Rattle.matrix_product.specs.Product.{matrix_multiply_csc}
use Rattle.matrix_places.proofs.Sizes.{not_refused}
use Rattle.repeated_contrasts.specs.Covariance.{cov_matrix}
use Rattle.repeated_contrasts.specs.Contrasts.{orthonormal_contrasts, through_contrasts, fits, contrast_covariance}
use Rattle.repeated_contrasts.proofs.Sizes.{laid}
use Rattle.repeated_contrasts.proofs.Lengths.{matrix_length, orthonormal_length}

pub taken : (n k : ℕ) (xs ms out : List Float) → fits n k (length xs) (length ms) (length out) ≡ true → (contrast_covariance n k xs ms out).1 ≡ true
unfolding contrast_covariance through_contrasts matrix_multiply_csc
taken n k xs ms out h =
    let l = laid n k xs ms (length out) h in
    let low : 0 < k - 1 = omega (arith, l.0.low_k) in
    let high : k - 1 ≤ 11 = omega (arith, l.0.high_k) in
    let some : 0 < k = omega (arith, l.0.low_k) in
    let c = not_refused 11 (k - 1) k (length (orthonormal_contrasts k)) (omega arith) (record { some_rows = low; few_rows = high; some_places = some; few_places = l.0.high_k; held = rw (orthonormal_length k) (product_le 11 12 high l.0.high_k) }) in
    let s = not_refused 12 k k (length (cov_matrix n k xs ms)) (omega arith) (record { some_rows = some; few_rows = l.0.high_k; some_places = some; few_places = l.0.high_k; held = rw (matrix_length n k xs ms) (product_le 12 12 l.0.high_k l.0.high_k) }) in
    let o = not_refused 11 (k - 1) (k - 1) (length out) (omega arith) (record { some_rows = low; few_rows = high; some_places = low; few_places = omega (arith, high); held = l.1 }) in
    rw (h, c, s, o)

-- and sizes that are taken fit
pub taken_fits : (n k : ℕ) (xs ms out : List Float) → (contrast_covariance n k xs ms out).1 ≡ true → fits n k (length xs) (length ms) (length out) ≡ true
unfolding contrast_covariance
taken_fits n k xs ms out h = go (fits n k (length xs) (length ms) (length out)) refl h
  where
    go : (b : Bool) → fits n k (length xs) (length ms) (length out) ≡ b → (cond b (through_contrasts n k xs ms out) (out, false)).1 ≡ true → fits n k (length xs) (length ms) (length out) ≡ true
    go true e t = e
    go false e t = cc
