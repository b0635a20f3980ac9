-- A later column neither swaps nor divides a row above it, and takes from it a multiple of its pivot's row: so the row of a skipped column ends as the swap left it, less those multiples.
use Prim.Native.Nat.{ℕ, ◌+◌, ◌*◌, ◌<◌, ◌≤◌}
use mathlib.Core.Path.{◌≡◌, refl, sym, ap, ◌∙◌}
use mathlib.Core.Bool.{Bool, true, false, cond}
use mathlib.Core.List.{List}
use native.Mathlib.Omega.{arith}
use borrow.Author.Tests.{eqb-false, ne_eqb}
use lib.Dec.{eqb}
use lib.ListN.{length, length-set}
use lib.Seq.{get_or-set_same, get_or-set_other}
use lib.Ieee.{Float, nan}
use Rattle.base.specs.Loop.{loop}
use Rattle.base.proofs.Loops.{loop_length}
use Rattle.base.proofs.Walks.{walks, untouched, settled}
use Rattle.base.proofs.Places.{other_column}
use Rattle.base.proofs.Bounds.{row_end}
use Rattle.float.specs.Words.{◌⊖◌, ◌⊗◌}
use Rattle.matrix_places.specs.Places.{at, less_at, less_row}
use Rattle.matrix_linear.specs.Rows.{room, pivoted, skips}
use Rattle.matrix_linear.specs.Skips.{before_column, pivot_skips, skipped_in}
use Rattle.matrix_linear.specs.Inverse.{unit, clear_other, clear_others, scaled, reduced, full_column, full_columns, skipped_inverse, matrix_inverse}
use Rattle.matrix_linear.proofs.Lengths.{room_length, pivoted_length, other_length, scaled_length, full_length, unit_length}
use Rattle.matrix_linear.proofs.Skipped.{next_column, skipped_inverse_kept}
use Rattle.matrix_linear.proofs.Untouched.{less_other, over_other, pivoted_above}

-- row i less f times row c: each column is reached once
module _ (w c i x : ℕ) (f : Float) (m : List Float) (h : x < w) where
  -- the matrix before the turn of column x, which is as it was
  abbrev reached : List Float
  reached = loop 0 x (less_at (c * w) (i * w) f) m

  column_was : (k : ℕ) → at reached (k * w + x) ≡ at m (k * w + x)
  column_was k =
      untouched (λ (s : List Float). at s (k * w + x)) (less_at (c * w) (i * w) f) 0 x
      (λ j s p q. get_or-set_other s (i * w + j) (k * w + x) _ nan (other_column k i w x j q h)) m (omega arith)

  less_own : i * w + w ≤ length m → at (less_row (c * w) (i * w) f 0 w m) (i * w + x) ≡ at m (i * w + x) ⊖ f ⊗ at m (c * w + x)
  unfolding less_row
  less_own l =
      let e = loop_length 0 x (less_at (c * w) (i * w) f) (λ j s. simp length-set) m in
      settled (λ (s : List Float). at s (i * w + x)) (less_at (c * w) (i * w) f) x w (λ j s p q. get_or-set_other s (i * w + j) (i * w + x) _ nan (λ z. omega arith)) m h
      ∙ (get_or-set_same reached (i * w + x) _ nan (omega arith)
      ∙ rw (column_was i, column_was c))

-- the turn of row r leaves row k alone, if k is another row or the pivot's
row_kept : (w c k x r : ℕ) (m : List Float) → x < w → (eqb r c ≡ false → k ≡ r → ⊥) → at (clear_other w c r m) (k * w + x) ≡ at m (k * w + x)
unfolding clear_other
row_kept w c k x r m h d = go (eqb r c) refl
  where
    go : (b : Bool) → eqb r c ≡ b → at (cond b m (less_row (c * w) (r * w) (at m (r * w + c)) 0 w m)) (k * w + x) ≡ at m (k * w + x)
    go true e = refl
    go false e = less_other w k x h (c * w) r _ 0 m (omega arith) (d e)

-- all rows but row c: row i, above it, is reached once
module _ (n w c i x : ℕ) (m : List Float) (g : i < c) (h : c < n) (l : n ≤ w) (k : n * w ≤ length m) (q : x < w) where
  -- the matrix before the turn of row i, in which it and row c are as they were
  abbrev till : List Float
  till = loop 0 i (clear_other w c) m

  row_was : (j y : ℕ) → y < w → ((r : ℕ) → r < i → eqb r c ≡ false → j ≡ r → ⊥) → at till (j * w + y) ≡ at m (j * w + y)
  row_was j y b d = untouched (λ (s : List Float). at s (j * w + y)) (clear_other w c) 0 i (λ r s p a. row_kept w c j y r s b (d r a)) m (omega arith)

  own_turn : at (clear_other w c i till) (i * w + x) ≡ at till (i * w + x) ⊖ at till (i * w + c) ⊗ at till (c * w + x)
  unfolding clear_other
  own_turn =
      let e = loop_length 0 i (clear_other w c) (other_length w c) m in
      rw (ne_eqb i c (λ z. omega arith)) (less_own w c i x (at till (i * w + c)) till q (row_end i n w (omega arith) (omega arith)))

  others_cleared : at (clear_others n w c m) (i * w + x) ≡ at m (i * w + x) ⊖ at m (i * w + c) ⊗ at m (c * w + x)
  unfolding clear_others
  others_cleared =
      settled (λ (s : List Float). at s (i * w + x)) (clear_other w c) i n (λ r s a b. row_kept w c i x r s q (λ e z. omega arith)) m (omega arith)
      ∙ (own_turn
      ∙ rw (row_was i x q (λ r b e z. omega arith), row_was i c (omega arith) (λ r b e z. omega arith), row_was c x q (λ r b e z. eqb-false r c e (sym z))))

-- the swap leaves row i alone, and so does dividing the pivot's row
scaled_above : (n w c i x : ℕ) (m : List Float) → i < c → c < n → x < w → at (scaled w c (pivoted n w c m)) (i * w + x) ≡ at m (i * w + x)
unfolding scaled
scaled_above n w c i x m g h q = over_other w i x q c _ (pivoted n w c m) (λ e. omega arith) ∙ pivoted_above w i x q n c m g h

-- a later column c takes from row i the row's place in column c times the divided pivot's row, or nothing where it is skipped
pub later_column : (n w c i x : ℕ) (m : List Float) → i < c → c < n → n ≤ w → n * w ≤ length m → x < w
    → at (full_column n w c m) (i * w + x) ≡ cond (pivot_skips n w c m) (at m (i * w + x)) (at m (i * w + x) ⊖ at m (i * w + c) ⊗ at (scaled w c (pivoted n w c m)) (c * w + x))
unfolding full_column reduced pivot_skips
later_column n w c i x m g h l k q = go (skips (pivoted n w c m) (c * w + c))
  where
    go : (b : Bool)
        → at (cond b (pivoted n w c m) (clear_others n w c (scaled w c (pivoted n w c m)))) (i * w + x)
        ≡ cond b (at m (i * w + x)) (at m (i * w + x) ⊖ at m (i * w + c) ⊗ at (scaled w c (pivoted n w c m)) (c * w + x))
    go true = pivoted_above w i x q n c m g h
    go false =
        let e = scaled_length w c (pivoted n w c m) ∙ pivoted_length n w c m in
        others_cleared n w c i x (scaled w c (pivoted n w c m)) g h l (omega arith) q
        ∙ rw (scaled_above n w c i x m g h q, scaled_above n w c i c m g h (omega arith))

-- y, place x of row i, less what the later column c takes from it: nothing where the column is skipped, else the row's place in column c times place x of the divided pivot's row
abbrev pub less_later : ℕ → List Float → ℕ → ℕ → ℕ → Float → Float
less_later n m i x c y =
    let b = before_column (full_column n (2 * n)) c (unit n m) in
    cond (skipped_inverse n c m) y (y ⊖ at b (i * (2 * n) + c) ⊗ at (scaled (2 * n) c (pivoted n (2 * n) c b)) (c * (2 * n) + x))

-- the matrix before column c of the inversion
abbrev before_column_lem : ℕ → List Float → ℕ → List Float
before_column_lem n m c = before_column (full_column n (2 * n)) c (unit n m)

before_length : (n : ℕ) (m : List Float) (c : ℕ) → length (before_column_lem n m c) ≡ length m
unfolding before_column
before_length n m c = loop_length 0 c (full_column n (2 * n)) (full_length n (2 * n)) (unit n m) ∙ unit_length n m

module _ (n col : ℕ) (m : List Float) (x : ℕ) (h : col < n) (q : x < 2 * n) where
  -- place x of row col
  abbrev place : List Float → Float
  place s = at s (col * (2 * n) + x)

  module _ (l : n * (2 * n) ≤ length m) where
    one_later : (c : ℕ) → col < c → c < n → less_later n m col x c (place (before_column_lem n m c)) ≡ place (before_column_lem n m (c + 1))
    unfolding skipped_in
    one_later c p k =
        let e = before_length n m c in
        sym (ap place (next_column (full_column n (2 * n)) c (unit n m)) ∙ later_column n (2 * n) c col x (before_column_lem n m c) p k (omega arith) (omega arith) q)

    -- the row of a skipped column, in the finished matrix
    pub skipped_finished : skipped_inverse n col m ≡ true
        → at (full_columns n (2 * n) (unit n m)) (col * (2 * n) + x)
        ≡ loop (col + 1) n (less_later n m col x) (at (pivoted n (2 * n) col (before_column (full_column n (2 * n)) col (unit n m))) (col * (2 * n) + x))
    unfolding full_columns before_column
    skipped_finished e =
        sym (walks (less_later n m col x) (λ c y. (col < c) × (y ≡ place (before_column_lem n m c))) n
        (λ c y k p. (omega arith, ap (less_later n m col x c) p.1 ∙ one_later c p.0 k))
        (col + 1) _ (omega arith) (omega arith, ap place (sym (skipped_inverse_kept n col m e)))).1

  module _ (taken : room n (2 * n) m ≡ true) (e : skipped_inverse n col m ≡ true) where
    -- the same of what the call leaves
    pub skipped_inverse_finished : at (matrix_inverse n m).0 (col * (2 * n) + x)
        ≡ loop (col + 1) n (less_later n m col x) (at (pivoted n (2 * n) col (before_column (full_column n (2 * n)) col (unit n m))) (col * (2 * n) + x))
    unfolding matrix_inverse
    skipped_inverse_finished = rw taken (skipped_finished (room_length n (2 * n) m taken) e)

    -- where every later column is skipped too, the row is what the swap left
    pub skipped_rest_kept : ((c : ℕ) → col < c → c < n → skipped_inverse n c m ≡ true)
        → at (matrix_inverse n m).0 (col * (2 * n) + x) ≡ at (pivoted n (2 * n) col (before_column (full_column n (2 * n)) col (unit n m))) (col * (2 * n) + x)
    skipped_rest_kept rest =
        skipped_inverse_finished ∙ untouched (λ (y : Float). y) (less_later n m col x) (col + 1) n (λ c y a b. rw (rest c (omega arith) b)) _ (omega arith)
