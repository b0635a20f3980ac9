-- Elimination in a column leaves the rows above it alone, so what a column left on the diagonal stays to the end.
use Prim.Native.Nat.{ℕ, ◌+◌, ◌*◌, ◌<◌, ◌≤◌}
use mathlib.Core.Path.{◌≡◌, refl, ap, ◌∙◌}
use mathlib.Core.Bool.{Bool, true, false, cond}
use mathlib.Core.List.{List}
use native.Mathlib.Omega.{arith}
use lib.ListN.{set}
use lib.Seq.{get_or-set_other}
use lib.Ieee.{Float, nan, lt}
use Rattle.base.specs.Loop.{loop}
use Rattle.base.proofs.Loops.{loop_map}
use Rattle.float.specs.Words.{tiny}
use Rattle.float.specs.Singles.{abs_of}
use Rattle.matrix_places.specs.Places.{at, less_at, less_row, over_at, over_row}
use Rattle.matrix_linear.specs.Rows.{swap_at, swap_rows, pivot_row, pivoted, skips, clear_row, clear_below}
use Rattle.matrix_linear.specs.System.{cleared, column, forward, skipped_column, skipped_count, small_divisors}
use Rattle.matrix_linear.specs.Skips.{before_column, pivot_skips, skipped_in, skipped_of}
use Rattle.base.proofs.Walks.{untouched, settled}
use Rattle.base.proofs.Places.{another_row}
use Rattle.matrix_linear.proofs.Candidates.{pivot_from}

-- place x of row i
module _ (w i x : ℕ) (h : x < w) where
  abbrev held : List Float → Float
  held m = at m (i * w + x)

  set_other : (r j : ℕ) (y : Float) (m : List Float) → (i ≡ r → ⊥) → j < w → held (set m (r * w + j) y) ≡ held m
  set_other r j y m d l = get_or-set_other m (r * w + j) (i * w + x) y nan (another_row i r w x j d h l)

  swap_other : (a b : ℕ) (m : List Float) → (i ≡ a → ⊥) → (i ≡ b → ⊥) → held (swap_rows w a b m) ≡ held m
  unfolding swap_rows
  swap_other a b m p q =
      untouched held (swap_at (a * w) (b * w)) 0 w
      (λ j s k l. set_other b j _ (set s (a * w + j) (at s (b * w + j))) q l ∙ set_other a j _ s p l)
      m (omega arith)

  pub less_other : (p r : ℕ) (f : Float) (c : ℕ) (m : List Float) → c ≤ w → (i ≡ r → ⊥) → held (less_row p (r * w) f c w m) ≡ held m
  unfolding less_row
  less_other p r f c m l d = untouched held (less_at p (r * w) f) c w (λ j s k q. set_other r j _ s d q) m l

  pub over_other : (r : ℕ) (d : Float) (m : List Float) → (i ≡ r → ⊥) → held (over_row (r * w) d w m) ≡ held m
  unfolding over_row
  over_other r d m q = untouched held (over_at (r * w) d) 0 w (λ j s k l. set_other r j _ s q l) m (omega arith)

  pub pivoted_above : (n col : ℕ) (m : List Float) → i < col → col < n → held (pivoted n w col m) ≡ held m
  unfolding pivoted
  pivoted_above n col m p q =
      let b = pivot_from n w col m q in
      swap_other col (pivot_row n w col m) m (λ e. omega arith) (λ e. omega arith)

  clear_above : (n col : ℕ) (m : List Float) → i ≤ col → col < n → n ≤ w → held (clear_below n w col m) ≡ held m
  unfolding clear_below clear_row
  clear_above n col m p q l =
      untouched held (clear_row w col) (col + 1) n (λ r s k g. less_other (col * w) r _ col s (omega arith) (λ e. omega arith)) m (omega arith)

  cleared_above : (n col : ℕ) (m : List Float) → i ≤ col → col < n → n ≤ w → held (cleared n w col m) ≡ held m
  unfolding cleared
  cleared_above n col m p q l = go (skips m (col * w + col))
    where
      go : (b : Bool) → held (cond b m (clear_below n w col m)) ≡ held m
      go true = refl
      go false = clear_above n col m p q l

  column_above : (n col : ℕ) (m : List Float) → i < col → col < n → n ≤ w → held (column n w col m) ≡ held m
  unfolding column
  column_above n col m p q l = cleared_above n col (pivoted n w col m) (omega arith) q l ∙ pivoted_above n col m p q

-- the eliminated matrix has a divisor too small exactly where the column was skipped
pub skipped_at_end : (n w i : ℕ) (m : List Float) → i < n → n ≤ w → skips (forward n w m) (i * w + i) ≡ skipped_column n w i m
unfolding forward column skipped_in pivot_skips before_column
skipped_at_end n w i m h l =
    ap (λ (x : Float). lt (abs_of x) tiny)
    (settled (λ (s : List Float). at s (i * w + i)) (column n w) i n (λ j s p q. column_above w i i (omega arith) n j s p q l) m h
    ∙ cleared_above w i i (omega arith) n i (pivoted n w i (loop 0 i (column n w) m)) (omega arith) h l)

-- and as many are too small as columns were skipped
pub skipped_as_many : (n w : ℕ) (m : List Float) → n ≤ w → small_divisors n w (forward n w m) ≡ skipped_count n w m
unfolding small_divisors skipped_of
skipped_as_many n w m l =
    loop_map (λ (k : ℕ). k) (λ k. Unit {0}) n _ _
    (λ i k h t. (ap (λ (b : Bool). k + cond b 1 0) (skipped_at_end n w i m h l), tt))
    0 0 (omega arith) tt
