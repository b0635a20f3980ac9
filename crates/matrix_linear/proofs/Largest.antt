-- The pivot's row is the first of the largest ones: no row from the diagonal's on is strictly larger in the column, and none before it is as large.
-- A NaN is not larger, nothing is larger than a NaN, and it equals nothing: a NaN on the diagonal stays the pivot, and none comes up from below. So the row is pinned.
use Prim.Native.Nat.{ℕ, ◌+◌, ◌*◌, ◌<◌, ◌≤◌}
use mathlib.Core.Path.{◌≡◌, refl, sym, ◌∙◌}
use mathlib.Core.Bool.{Bool, true, false, cond, true≢false}
use mathlib.Core.List.{List}
use native.Mathlib.Omega.{arith}
use native.Mathlib.Nat.{le_of_lt}
use borrow.Author.Tests.{ltb-true, ltb-false, le-ltb, ne_eqb}
use lib.Dec.{ltb}
use lib.Ieee.{Float, nan, inf, fin, lt, eq, is_nan, up, down}
use lib.Ieee.Fits.{down_pos}
use lib.Ieee.Positive.{through}
use Rattle.float.specs.Singles.{abs_of}
use Rattle.matrix_linear.specs.Rows.{at, better, pivot_row}
use Rattle.base.proofs.Walks.{walks}

-- what did not beat a does not beat what beat a
pub not_beaten : (a b c : Float) → lt (abs_of a) (abs_of b) ≡ true → lt (abs_of a) (abs_of c) ≡ false → lt (abs_of b) (abs_of c) ≡ false
unfolding lt abs_of
not_beaten a nan c h k = refl
not_beaten a (inf s) nan h k = refl
not_beaten a (inf s) (inf t) h k = refl
not_beaten a (inf s) (fin t n d) h k = refl
not_beaten a (fin s m e) nan h k = refl
not_beaten nan (fin s m e) (inf t) h k = cc
not_beaten (inf u) (fin s m e) (inf t) h k = cc
not_beaten (fin u l g) (fin s m e) (inf t) h k = cc
not_beaten nan (fin s m e) (fin t n d) h k = cc
not_beaten (inf u) (fin s m e) (fin t n d) h k = cc
not_beaten (fin u l g) (fin s m e) (fin t n d) h k =
    le-ltb (m * up e * down d) (n * up d * down e)
    (through (n * up d) (l * up g) (m * up e) (down d) (down g) (down e) (down_pos g)
    (ltb-false (l * up g * down d) (n * up d * down g) k)
    (le_of_lt (ltb-true (l * up g * down e) (m * up e * down g) h)))

-- what did not beat a is not as large as what beat a
not_level : (a b c : Float) → lt (abs_of a) (abs_of b) ≡ true → lt (abs_of a) (abs_of c) ≡ false → eq (abs_of c) (abs_of b) ≡ false
unfolding lt eq abs_of
not_level a b nan h k = refl
not_level a nan (inf t) h k = refl
not_level a (inf s) (inf t) h k = cc
not_level a (fin s m e) (inf t) h k = refl
not_level a nan (fin t n d) h k = refl
not_level a (inf s) (fin t n d) h k = refl
not_level nan (fin s m e) (fin t n d) h k = cc
not_level (inf u) (fin s m e) (fin t n d) h k = cc
not_level (fin u l g) (fin s m e) (fin t n d) h k = rw (ne_eqb (n * up d * down e) (m * up e * down d) differ)
  where
    differ : n * up d * down e ≡ m * up e * down d → ⊥
    differ q =
        let r = through (m * up e) (n * up d) (l * up g) (down e) (down d) (down g) (down_pos d) (omega arith) (ltb-false (l * up g * down d) (n * up d * down g) k) in
        omega (arith, r, ltb-true (l * up g * down e) (m * up e * down g) h)

itself : (x : Float) → lt (abs_of x) (abs_of x) ≡ false
unfolding lt abs_of
itself nan = refl
itself (inf s) = refl
itself (fin s m e) = le-ltb (m * up e * down e) (m * up e * down e) (omega arith)

-- a NaN is not beaten, and beats nothing
nan_not_beaten : (x y : Float) → is_nan x ≡ true → lt (abs_of x) (abs_of y) ≡ false
unfolding is_nan lt abs_of
nan_not_beaten nan y h = refl
nan_not_beaten (inf s) y h = cc
nan_not_beaten (fin s k e) y h = cc

nan_beats_none : (x y : Float) → is_nan y ≡ true → lt (abs_of x) (abs_of y) ≡ false
unfolding is_nan lt abs_of
nan_beats_none nan nan h = refl
nan_beats_none (inf s) nan h = refl
nan_beats_none (fin s k e) nan h = refl
nan_beats_none x (inf s) h = cc
nan_beats_none x (fin s k e) h = cc

module _ (m : List Float) (w col : ℕ) where
  -- is row j larger than row `best` in the column?
  abbrev beats : ℕ → ℕ → Bool
  beats j best = lt (abs_of (at m (best * w + col))) (abs_of (at m (j * w + col)))

  -- `best` is beaten by none of the rows from col to r
  abbrev Unbeaten : ℕ → ℕ → Type 0
  Unbeaten r best = (col < r) × ((j : ℕ) → col ≤ j → j < r → beats j best ≡ false)

  alone : (j : ℕ) → col ≤ j → j < col + 1 → beats j col ≡ false
  alone j h k = let z : j ≡ col = omega arith in rw z (itself (at m (col * w + col)))

  -- one row more is asked
  asked : (r best : ℕ) → Unbeaten r best → (j : ℕ) → col ≤ j → j < r + 1 → beats j (better m w col r best) ≡ false
  unfolding better
  asked r best p j h k = go (beats r best) refl
    where
      by : (b : Bool) → ltb j r ≡ b → (j < r → beats j r ≡ false) → beats j r ≡ false
      by true e f = f (ltb-true j r e)
      by false e f = let z : j ≡ r = omega (arith, ltb-false j r e) in rw z (itself (at m (r * w + col)))

      stay : (b : Bool) → ltb j r ≡ b → beats r best ≡ false → beats j best ≡ false
      stay true e f = p.1 j h (ltb-true j r e)
      stay false e f = let z : j ≡ r = omega (arith, ltb-false j r e) in rw z f

      go : (b : Bool) → beats r best ≡ b → beats j (cond b r best) ≡ false
      go true e = by (ltb j r) refl (λ l. not_beaten (at m (best * w + col)) (at m (r * w + col)) (at m (j * w + col)) e (p.1 j h l))
      go false e = stay (ltb j r) refl e

  -- is row j as large as row `best` in the column?
  abbrev level : ℕ → ℕ → Bool
  level j best = eq (abs_of (at m (j * w + col))) (abs_of (at m (best * w + col)))

  -- and none before `best` is as large
  abbrev First : ℕ → ℕ → Type 0
  First r best = Unbeaten r best × ((j : ℕ) → col ≤ j → j < best → level j best ≡ false)

  before : (r best : ℕ) → First r best → (j : ℕ) → col ≤ j → j < better m w col r best → level j (better m w col r best) ≡ false
  unfolding better
  before r best p j h = go (beats r best) refl
    where
      go : (b : Bool) → beats r best ≡ b → j < cond b r best → level j (cond b r best) ≡ false
      go true e l = not_level (at m (best * w + col)) (at m (r * w + col)) (at m (j * w + col)) e (p.0.1 j h l)
      go false e l = p.1 j h l

  found : (n : ℕ) → col < n → First n (pivot_row n w col m)
  unfolding pivot_row
  found n h =
      walks (better m w col) First n (λ r best l p. ((omega arith, asked r best p.0), before r best p))
      (col + 1) col (omega arith) ((omega arith, alone), λ j a b. absurd (omega arith))

  pub no_row_larger : (n : ℕ) → col < n → (j : ℕ) → col ≤ j → j < n → lt (abs_of (at m (pivot_row n w col m * w + col))) (abs_of (at m (j * w + col))) ≡ false
  no_row_larger n h = (found n h).0.1

  pub first_of_equal : (n : ℕ) → col < n → (j : ℕ) → col ≤ j → j < pivot_row n w col m → eq (abs_of (at m (j * w + col))) (abs_of (at m (pivot_row n w col m * w + col))) ≡ false
  first_of_equal n h = (found n h).1

  -- a NaN on the diagonal stays the pivot
  pub nan_stays : (n : ℕ) → col < n → is_nan (at m (col * w + col)) ≡ true → pivot_row n w col m ≡ col
  unfolding pivot_row better
  nan_stays n h e =
      walks (better m w col) (λ r best. best ≡ col) n
      (λ r best l q. rw (q, nan_not_beaten (at m (col * w + col)) (at m (r * w + col)) e))
      (col + 1) col (omega arith) refl

  -- a row that takes over does not hold a NaN
  taken_over : (r best : ℕ) → (is_nan (at m (best * w + col)) ≡ true → best ≡ col) → is_nan (at m (better m w col r best * w + col)) ≡ true → better m w col r best ≡ col
  unfolding better
  taken_over r best p = go (beats r best) refl
    where
      go : (b : Bool) → beats r best ≡ b → is_nan (at m (cond b r best * w + col)) ≡ true → cond b r best ≡ col
      go true e h = absurd (true≢false (sym e ∙ nan_beats_none (at m (best * w + col)) (at m (r * w + col)) h))
      go false e h = p h

  -- and none comes up from below: a pivot that is a NaN was on the diagonal
  pub nan_never_comes : (n : ℕ) → col < n → is_nan (at m (pivot_row n w col m * w + col)) ≡ true → pivot_row n w col m ≡ col
  unfolding pivot_row
  nan_never_comes n h =
      walks (better m w col) (λ r best. is_nan (at m (best * w + col)) ≡ true → best ≡ col) n
      (λ r best l p. taken_over r best p)
      (col + 1) col (omega arith) (λ e. refl)
