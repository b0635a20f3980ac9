-- The ways through one column, each from what the code worked out step by step: p, x, y are the memory after a step.
use Prim.Native.Nat.{ℕ, ◌+◌, ◌*◌, ◌<◌, ◌≤◌}
use mathlib.Core.Path.{◌≡◌, refl, sym, ap, ◌∙◌}
use mathlib.Core.Bool.{Bool, true, false}
use mathlib.Core.List.{List}
use native.Mathlib.Omega.{arith}
use borrow.Author.Tests.{eq-eqb}
use lib.ListN.{set}
use lib.Seq.{set-get_or}
use lib.Ieee.{Float, nan, eq}
use Rattle.base.specs.Loop.{loop}
use Rattle.base.proofs.Loops.{step}
use Rattle.base.proofs.Walks.{walks}
use Rattle.base.proofs.Bounds.{then_of, else_of}
use Rattle.float.specs.Words.{plus_zero}
use Rattle.matrix_places.specs.Places.{at}
use Rattle.matrix_linear.specs.Rows.{swap_at, swap_rows, pivot_row, pivoted, skips, clear_below}
use Rattle.matrix_linear.specs.Skips.{pivot_skips, one_more}
use Rattle.matrix_linear.specs.Inner.{counted, column_by}
use Rattle.matrix_linear.specs.System.{cleared, column}
use Rattle.matrix_linear.specs.Inverse.{clear_other, clear_others, scaled, reduced, full_column}
use Rattle.matrix_linear.specs.Determinant.{turned, pivotless, swept, det_try, det_column}

-- the pivot's row has come up
pub pivot_came : (n w col : ℕ) (m : List Float) {p : ℕ} {x : List Float} → p ≡ pivot_row n w col m → x ≡ swap_rows w col p m → x ≡ pivoted n w col m
unfolding pivoted
pivot_came n w col m e q = rw (← e) q

-- p is the matrix as the swap left it
module _ (n w col : ℕ) (m : List Float) {p : List Float} (e : p ≡ pivoted n w col m) where
  moved : {b : Bool} → skips p (col * w + col) ≡ b → skips (pivoted n w col m) (col * w + col) ≡ b
  moved h = ap (λ (s : List Float). skips s (col * w + col)) (sym e) ∙ h

  -- the pivot is too small, and the memory stays as the swap left it; or `clear` goes on
  module _ (clear : ℕ → ℕ → ℕ → List Float → List Float) where
    pub left_alone : skips p (col * w + col) ≡ true → p ≡ column_by clear n w col m
    left_alone h = then_of (skips (pivoted n w col m) (col * w + col)) _ _ (moved h) e

    pub gone_on : {x : List Float} → skips p (col * w + col) ≡ false → x ≡ clear n w col p → x ≡ column_by clear n w col m
    gone_on h q = else_of (skips (pivoted n w col m) (col * w + col)) _ _ (moved h) (q ∙ ap (clear n w col) e)

  -- so in elimination, and in inversion
  pub column_skipped : skips p (col * w + col) ≡ true → p ≡ column n w col m
  unfolding column cleared
  column_skipped = left_alone clear_below

  pub full_skipped : skips p (col * w + col) ≡ true → p ≡ full_column n w col m
  unfolding full_column reduced
  full_skipped = left_alone (λ n w col m. clear_others n w col (scaled w col m))

  -- and the count of either, j where it was k: one more where the column was skipped; x is the memory after the column
  pub counts : (by : ℕ → List Float → List Float) {x : List Float} {t : Bool} (j k : ℕ) → skips p (col * w + col) ≡ t → x ≡ by col m → j ≡ one_more t k → j ≤ k + 1 → ((x, j) ≡ counted by n w col (m, k)) × (j ≤ k + 1)
  unfolding pivot_skips
  counts by j k h q e l = (λ i. (q i, (e ∙ ap (λ (t : Bool). one_more t k) (sym (moved h))) i), l)

-- a row that changes places with itself
pub swap_own : (w a b : ℕ) (m : List Float) → a ≡ b → m ≡ swap_rows w a b m
unfolding swap_rows
swap_own w a b m e =
    rw e (
    walks (swap_at (b * w) (b * w)) (λ j s. m ≡ s) w
    (λ j s l q. let k = b * w + j in q ∙ sym (ap (λ (t : List Float). set t k (at s k)) (set-get_or s k nan) ∙ set-get_or s k nan))
    0 m (omega arith) refl)

-- row col itself is passed over
pub own_row : (n w col r : ℕ) (m : List Float) {whole : List Float} → loop r n (clear_other w col) m ≡ whole → r ≡ col → col < n → loop (col + 1) n (clear_other w col) m ≡ whole
unfolding clear_other
own_row n w col r m e q h = step col n (clear_other w col) m m _ (rw q at e) h (rw (eq-eqb col col refl))

-- the determinant, with its sign s: a column before had no pivot, or this one has none, or rows change places
module _ (n col : ℕ) (m : List Float) (s : Float) where
  pub det_stopped : eq s plus_zero ≡ true → (m, s) ≡ det_column n col (m, s)
  unfolding det_column
  det_stopped h = rw h

  module _ (h : eq s plus_zero ≡ false) {p : ℕ} (e : p ≡ pivot_row n n col m) where
    pub det_pivotless : pivotless n col p m ≡ true → (m, plus_zero) ≡ det_column n col (m, s)
    unfolding det_column det_try
    det_pivotless k = rw (h, ← e, k)

    pub det_swept : {x y : List Float} {t : Float} → pivotless n col p m ≡ false → x ≡ swap_rows n col p m → y ≡ clear_below n n col x → t ≡ turned p col s → (y, t) ≡ det_column n col (m, s)
    unfolding det_column det_try swept
    det_swept k q r u = rw (h, ← e, k, ← q, ← r, ← u)
