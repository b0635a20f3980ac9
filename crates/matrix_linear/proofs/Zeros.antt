-- Back substitution puts +0.0 where the divisor is too small, and the call hands that +0.0 out.
use Prim.Native.Nat.{ℕ, ◌+◌, ◌-◌, ◌*◌, ◌<◌, ◌≤◌}
use mathlib.Core.Path.{◌≡◌, refl, sym, ◌∙◌}
use mathlib.Core.Bool.{Bool, true, false}
use mathlib.Core.List.{List}
use native.Mathlib.Omega.{arith}
use borrow.Author.Tests.{ltb-true, ltb-false}
use lib.Dec.{ltb}
use lib.ListN.{length, set, length-set}
use lib.Seq.{get_or-set_same, get_or-set_other}
use lib.Ieee.{Float, nan, lt}
use Rattle.base.proofs.Bounds.{row_end}
use Rattle.float.specs.Words.{plus_zero, tiny}
use Rattle.float.specs.Singles.{abs_of}
use Rattle.matrix_linear.specs.Rows.{at, room, skips}
use Rattle.matrix_linear.specs.System.{forward, skipped_column, back_value, back_row, backward, solve_linear_system}
use Rattle.base.proofs.Walks.{walks}
use Rattle.base.proofs.Places.{other_row, other_column}
use Rattle.matrix_linear.proofs.Lengths.{room_length, forward_length}
use Rattle.matrix_linear.proofs.Untouched.{skipped_at_end}

-- n rows, of which row i has the divisor d, too small
module _ (n i : ℕ) (h : i < n) (d : Float) (small : lt (abs_of d) tiny ≡ true) where
  abbrev Held : ℕ → List Float → Type 0
  Held k s = (n * (n + 1) ≤ length s) × ((at s (i * (n + 1) + i) ≡ d) × (n - 1 - i < k → at s (i * (n + 1) + n) ≡ plus_zero))

  value : (s : List Float) → at s (i * (n + 1) + i) ≡ d → back_value n i s ≡ plus_zero
  unfolding back_value
  value s e = rw (e, small)

  divisor_kept : (k : ℕ) (s : List Float) → at s (i * (n + 1) + i) ≡ d → at (back_row n k s) (i * (n + 1) + i) ≡ d
  unfolding back_row
  divisor_kept k s e =
      get_or-set_other s ((n - 1 - k) * (n + 1) + n) (i * (n + 1) + i) _ nan
      (λ q. other_column (n - 1 - k) i (n + 1) n i h (omega arith) (sym q))
      ∙ e

  zero_put : (k : ℕ) (s : List Float) → k < n → Held k s → n - 1 - i < k + 1 → at (back_row n k s) (i * (n + 1) + n) ≡ plus_zero
  unfolding back_row
  zero_put k s g p q = go (ltb (n - 1 - i) k) refl
    where
      go : (b : Bool) → ltb (n - 1 - i) k ≡ b → at (set s ((n - 1 - k) * (n + 1) + n) (back_value n (n - 1 - k) s)) (i * (n + 1) + n) ≡ plus_zero
      go true e =
          let less = ltb-true (n - 1 - i) k e in
          get_or-set_other s ((n - 1 - k) * (n + 1) + n) (i * (n + 1) + n) _ nan
          (λ r. other_row (n - 1 - k) i (n + 1) n n (omega arith) (omega arith) (sym r))
          ∙ p.1.1 less
      go false e =
          let z : n - 1 - k ≡ i = omega (arith, ltb-false (n - 1 - i) k e) in
          let r = row_end i n (n + 1) h p.0 in
          rw z (get_or-set_same s (i * (n + 1) + n) (back_value n i s) nan (omega (arith, r)) ∙ value s p.1.0)

  long : (k : ℕ) (s : List Float) → n * (n + 1) ≤ length s → n * (n + 1) ≤ length (back_row n k s)
  unfolding back_row
  long k s l = rw length-set l

  zero_stays : (m : List Float) → n * (n + 1) ≤ length m → at m (i * (n + 1) + i) ≡ d → at (backward n m) (i * (n + 1) + n) ≡ plus_zero
  unfolding backward
  zero_stays m l e =
      (walks (back_row n) Held n (λ k s g p. (long k s p.0, (divisor_kept k s p.1.0, zero_put k s g p)))
      0 m (omega arith) (l, (e, λ q. absurd (omega arith)))).1.1 (omega arith)

module _ (n i : ℕ) (m : List Float) (h : i < n) (taken : room n (n + 1) m ≡ true) where
  -- a divisor of the eliminated matrix that is too small: the solution has +0.0 there
  pub skipped_zero : skips (forward n (n + 1) m) (i * (n + 1) + i) ≡ true → at (solve_linear_system n m).0 (i * (n + 1) + n) ≡ plus_zero
  unfolding solve_linear_system
  skipped_zero e =
      let l = room_length n (n + 1) m taken in
      rw taken (zero_stays n i h (at (forward n (n + 1) m) (i * (n + 1) + i)) e (forward n (n + 1) m) (rw (forward_length n (n + 1) m) l) refl)

  -- a column that was skipped: the solution has +0.0 there
  pub skipped_column_zero : skipped_column n (n + 1) i m ≡ true → at (solve_linear_system n m).0 (i * (n + 1) + n) ≡ plus_zero
  skipped_column_zero e = skipped_zero (skipped_at_end n (n + 1) i m h (omega arith) ∙ e)
