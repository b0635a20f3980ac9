-- Each step keeps the length of the memory, so a caller goes on with what it lent.
use Prim.Native.Nat.{ℕ, ◌+◌, ◌*◌, ◌≤◌}
use mathlib.Core.Path.{◌≡◌, refl, ◌∙◌}
use mathlib.Core.Bool.{Bool, true, false, cond}
use mathlib.Core.List.{List}
use borrow.Author.Tests.{leb-true}
use lib.Dec.{eqb, leb}
use lib.ListN.{length, length-set}
use lib.Ieee.{Float}
use Rattle.base.proofs.Loops.{loop_length}
use Rattle.base.proofs.Faults.{both}
use Rattle.matrix_places.specs.Places.{at, less_row}
use Rattle.matrix_places.proofs.Rows.{less_length, over_length}
use Rattle.matrix_linear.specs.Rows.{most_rows, room, skips, swap_at, swap_rows, pivot_row, pivoted, clear_row, clear_below}
use Rattle.matrix_linear.specs.System.{cleared, column, forward, back_row, backward, solve_linear_system}
use Rattle.matrix_linear.specs.Inverse.{zero_at, zero_right, unit_row, unit, clear_other, clear_others, scaled, reduced, full_column, full_columns, matrix_inverse}

-- rows that are taken lie in the memory
pub room_length : (n w : ℕ) (m : List Float) → room n w m ≡ true → n * w ≤ length m
room_length n w m e = leb-true (n * w) (length m) (both (leb n most_rows) (leb (n * w) (length m)) e).1

either_length : {A : Type 0} (b : Bool) (x y m : List A) → length x ≡ length m → length y ≡ length m → length (cond b x y) ≡ length m
either_length true x y m p q = p
either_length false x y m p q = q

swap_length : (w a b : ℕ) (m : List Float) → length (swap_rows w a b m) ≡ length m
unfolding swap_rows
swap_length w a b m = loop_length 0 w (swap_at (a * w) (b * w)) (λ j s. simp length-set) m

pub pivoted_length : (n w col : ℕ) (m : List Float) → length (pivoted n w col m) ≡ length m
unfolding pivoted
pivoted_length n w col m = swap_length w col (pivot_row n w col m) m

pub column_length : (n w col : ℕ) (m : List Float) → length (column n w col m) ≡ length m
unfolding column cleared clear_below clear_row
column_length n w col m =
    let p = pivoted n w col m in
    either_length (skips p (col * w + col)) p (clear_below n w col p) p refl
    (loop_length (col + 1) n (clear_row w col) (λ r s. less_length (col * w) (r * w) _ col w s) p)
    ∙ pivoted_length n w col m

pub forward_length : (n w : ℕ) (m : List Float) → length (forward n w m) ≡ length m
unfolding forward
forward_length n w m = loop_length 0 n (column n w) (column_length n w) m

back_length : (n k : ℕ) (m : List Float) → length (back_row n k m) ≡ length m
unfolding back_row
back_length n k m = simp length-set

pub backward_length : (n : ℕ) (m : List Float) → length (backward n m) ≡ length m
unfolding backward
backward_length n m = loop_length 0 n (back_row n) (back_length n) m

pub other_length : (w col r : ℕ) (m : List Float) → length (clear_other w col r m) ≡ length m
unfolding clear_other
other_length w col r m = either_length (eqb r col) m (less_row (col * w) (r * w) (at m (r * w + col)) 0 w m) m refl (less_length (col * w) (r * w) _ 0 w m)

pub scaled_length : (w col : ℕ) (m : List Float) → length (scaled w col m) ≡ length m
unfolding scaled
scaled_length w col m = over_length (col * w) _ w m

pub full_length : (n w col : ℕ) (m : List Float) → length (full_column n w col m) ≡ length m
unfolding full_column reduced clear_others
full_length n w col m =
    let p = pivoted n w col m in
    either_length (skips p (col * w + col)) p (clear_others n w col (scaled w col p)) p refl
    (loop_length 0 n (clear_other w col) (other_length w col) (scaled w col p) ∙ scaled_length w col p)
    ∙ pivoted_length n w col m

pub unit_length : (n : ℕ) (m : List Float) → length (unit n m) ≡ length m
unfolding unit unit_row zero_right
unit_length n m =
    loop_length 0 n (unit_row n) (λ i s. simp length-set (loop_length 0 n (zero_at (i * (2 * n) + n)) (λ j t. simp length-set) s)) m

first : {A : Type 0} (b : Bool) (x m : List Float) (y z : A) → length x ≡ length m → length (cond {A = List Float × A} b (x, y) (m, z)).0 ≡ length m
first true x m y z p = p
first false x m y z p = refl

pub solve_length : (n : ℕ) (m : List Float) → length (solve_linear_system n m).0 ≡ length m
unfolding solve_linear_system
solve_length n m =
    first (room n (n + 1) m) (backward n (forward n (n + 1) m)) m _ _ (backward_length n (forward n (n + 1) m) ∙ forward_length n (n + 1) m)

pub inverse_length : (n : ℕ) (m : List Float) → length (matrix_inverse n m).0 ≡ length m
unfolding matrix_inverse full_columns
inverse_length n m =
    first (room n (2 * n) m) (full_columns n (2 * n) (unit n m)) m _ _
    (loop_length 0 n (full_column n (2 * n)) (full_length n (2 * n)) (unit n m) ∙ unit_length n m)
