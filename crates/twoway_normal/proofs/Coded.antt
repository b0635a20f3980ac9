-- Each place of a row of codes is 1, -1 or a zero, and turns on the reading's cell alone.
use Prim.Native.Nat.{ℕ, ◌+◌, ◌-◌, ◌*◌, ◌/◌, ◌%◌, ◌<◌, ◌≤◌, min}
use mathlib.Core.Path.{◌≡◌, refl, sym, subst, ap, ◌∙◌}
use mathlib.Core.Bool.{Bool, true, false}
use native.Mathlib.Nat.{mod-lt, div-add-mod', div-lt_iff_lt-mul}
use native.Mathlib.Omega.{arith}
use borrow.Author.Tests.{ltb-true, ltb-false, ne_eqb}
use lib.Dec.{eqb, ltb}
use lib.Ieee.{Float, neg, of_bits}
use Rattle.base.specs.Limits.{most_levels}
use Rattle.base.proofs.Bounds.{row_end, product_le}
use Rattle.float.specs.Words.{◌⊗◌, plus_zero, one}
use Rattle.matrix_places.specs.Places.{at}
use Rattle.twoway_normal.specs.Coding.{effect_code, design_row}
use Rattle.twoway_normal.specs.Counted.{cell_of, cells_of, cell_row, most_counts}
use Rattle.twoway_normal.proofs.Columns.{row_first, row_a, row_b, row_ab}
use Rattle.twoway_normal.proofs.Sizes.{columns}
use Rattle.twoway_normal.proofs.Tallies.{Small, small_product}
use Rattle.twoway_normal.proofs.Ways.{row_of_lem, column_of_lem}

-- ---- the codes
small_one : Small one
unfolding of_bits
small_one = record { sign = false; size = 1; value = (refl, refl); few = omega arith }

small_minus : Small (neg one)
unfolding of_bits neg
small_minus = record { sign = true; size = 1; value = (refl, refl); few = omega arith }

small_zero : Small plus_zero
unfolding of_bits
small_zero = record { sign = false; size = 0; value = (refl, refl); few = omega arith }

small_code : (levels u k : ℕ) → Small (effect_code levels u k)
unfolding effect_code
small_code levels u k = go (eqb u k) (eqb u (levels - 1)) refl refl
  where
    go : (s t : Bool) → eqb u k ≡ s → eqb u (levels - 1) ≡ t → Small (effect_code levels u k)
    go true t p q = rw p small_one
    go false true p q = rw (p, q) small_minus
    go false false p q = rw (p, q) small_zero

-- all codes beyond the levels have the same columns
level_code : (levels u k : ℕ) → k < levels - 1 → effect_code levels u k ≡ effect_code levels (min u levels) k
unfolding effect_code
level_code levels u k h = go (ltb u levels) refl
  where
    go : (t : Bool) → ltb u levels ≡ t → effect_code levels u k ≡ effect_code levels (min u levels) k
    go true e = let l = ltb-true u levels e in let m : min u levels ≡ u = omega (arith, l) in rw m
    go false e =
        let l = ltb-false u levels e in
        let m : min u levels ≡ levels = omega (arith, l) in
        rw (m, ne_eqb u k (λ q. omega (arith, l)), ne_eqb u (levels - 1) (λ q. omega (arith, l)), ne_eqb levels k (λ q. omega arith), ne_eqb levels (levels - 1) (λ q. omega arith))

-- ---- the row
module _ (a b : ℕ) (low-a : 2 ≤ a) (high-a : a ≤ 6) (low-b : 2 ≤ b) (high-b : b ≤ 6) where
  -- what holds of the first column, of those of A, of B and of the products holds of all
  by_column : (P : ℕ → Type 0) → P 0 → ((k : ℕ) → k < a - 1 → P (1 + k)) → ((k : ℕ) → k < b - 1 → P (a + k))
      → ((ka kb : ℕ) → ka < a - 1 → kb < b - 1 → P (a + (b - 1) + (ka * (b - 1) + kb))) → (j : ℕ) → j < a * b → P j
  by_column P first of-a of-b of-ab j h = go (ltb j 1) (ltb j a) (ltb j (a + (b - 1))) refl refl refl
    where
      all : a + (b - 1) + (a - 1) * (b - 1) ≡ a * b
      all = (columns a b low-a high-a low-b high-b).2

      go : (s t u : Bool) → ltb j 1 ≡ s → ltb j a ≡ t → ltb j (a + (b - 1)) ≡ u → P j
      go true t u p q r = let e : 0 ≡ j = omega (arith, ltb-true j 1 p) in subst P e first
      go false true u p q r =
          let l = ltb-false j 1 p in
          let m = ltb-true j a q in
          let e : 1 + (j - 1) ≡ j = omega (arith, l) in
          subst P e (of-a (j - 1) (omega (arith, l, m)))
      go false false true p q r =
          let l = ltb-false j a q in
          let m = ltb-true j (a + (b - 1)) r in
          let e : a + (j - a) ≡ j = omega (arith, l) in
          subst P e (of-b (j - a) (omega (arith, l, m)))
      go false false false p q r =
          let l = ltb-false j (a + (b - 1)) r in
          let o = j - (a + (b - 1)) in
          let w : 0 < b - 1 = omega arith in
          let m : o < (a - 1) * (b - 1) = omega (arith, l, all) in
          let d : o / (b - 1) < a - 1 = (div-lt_iff_lt-mul {k = b - 1} {x = o} {y = a - 1} w).1 m in
          let s : o / (b - 1) * (b - 1) + o % (b - 1) ≡ o = div-add-mod' o (b - 1) in
          let e : a + (b - 1) + (o / (b - 1) * (b - 1) + o % (b - 1)) ≡ j = omega (arith, l, s) in
          subst P e (of-ab (o / (b - 1)) (o % (b - 1)) d (mod-lt o w))

  pub small_entry : (u v : ℕ) (y : Float) (j : ℕ) → j < a * b → Small (at (design_row a b u v y) j)
  small_entry u v y =
      by_column (λ j. Small (at (design_row a b u v y) j))
      (subst Small (sym (row_first a b u v y low-a high-a low-b high-b)) small_one)
      (λ k h. subst Small (sym (row_a a b u v y low-a high-a low-b high-b k h)) (small_code a u k))
      (λ k h. subst Small (sym (row_b a b u v y low-a high-a low-b high-b k h)) (small_code b v k))
      (λ ka kb h k. subst Small (sym (row_ab a b u v y low-a high-a low-b high-b ka kb h k)) (small_product (effect_code a u ka) (effect_code b v kb) (small_code a u ka) (small_code b v kb)))

  -- codes beyond the levels, and the value behind the codes, change no code
  level_entry : (u v : ℕ) (y z : Float) (j : ℕ) → j < a * b → at (design_row a b u v y) j ≡ at (design_row a b (min u a) (min v b) z) j
  level_entry u v y z =
      by_column (λ j. at (design_row a b u v y) j ≡ at (design_row a b (min u a) (min v b) z) j)
      (row_first a b u v y low-a high-a low-b high-b ∙ sym (row_first a b (min u a) (min v b) z low-a high-a low-b high-b))
      (λ k h. row_a a b u v y low-a high-a low-b high-b k h ∙ level_code a u k h ∙ sym (row_a a b (min u a) (min v b) z low-a high-a low-b high-b k h))
      (λ k h. row_b a b u v y low-a high-a low-b high-b k h ∙ level_code b v k h ∙ sym (row_b a b (min u a) (min v b) z low-a high-a low-b high-b k h))
      (λ ka kb h k.
      row_ab a b u v y low-a high-a low-b high-b ka kb h k
      ∙ ap (λ (x : Float). x ⊗ effect_code b v kb) (level_code a u ka h)
      ∙ ap (λ (x : Float). effect_code a (min u a) ka ⊗ x) (level_code b v kb k)
      ∙ sym (row_ab a b (min u a) (min v b) z low-a high-a low-b high-b ka kb h k))

  -- so a reading's codes are those of its cell
  pub cell_entry : (u v : ℕ) (y : Float) (j : ℕ) → j < a * b → at (design_row a b u v y) j ≡ at (cell_row a b (cell_of a b u v)) j
  unfolding cell_row
  cell_entry u v y j h =
      let l : min v b < b + 1 = omega arith in
      rw (row_of_lem (min u a) (b + 1) (min v b) l, column_of_lem (min u a) (b + 1) (min v b) l) (level_entry u v y plus_zero j h)

  pub small_cell : (c j : ℕ) → j < a * b → Small (at (cell_row a b c) j)
  unfolding cell_row
  small_cell c j h = small_entry (c / (b + 1)) (c % (b + 1)) plus_zero j h

-- the cell's number
pub cell_below : (a b u v : ℕ) → cell_of a b u v < cells_of a b
cell_below a b u v = omega (arith, row_end (min u a) (a + 1) (b + 1) {len = (a + 1) * (b + 1)} (omega arith) (omega arith))

pub cells_few : (a b : ℕ) → a ≤ most_levels → b ≤ most_levels → cells_of a b ≤ most_counts
cells_few a b h k = product_le (most_levels + 1) (most_levels + 1) {x = a + 1} {y = b + 1} (omega arith) (omega arith)

-- so a cell's number is one of the places of the counts
pub place_below : (a b u v : ℕ) → a ≤ most_levels → b ≤ most_levels → {c : ℕ} → c ≡ cell_of a b u v → c < most_counts
place_below a b u v h k e = omega (arith, e, cell_below a b u v, cells_few a b h k)

-- and the row of its cell ends within the rows of all cells
pub row_within : (a b u v : ℕ) {c n : ℕ} → c ≡ cell_of a b u v → n ≡ cells_of a b * (a * b) → c * (a * b) + a * b ≤ n
row_within a b u v {c} e f = row_end c (cells_of a b) (a * b) (omega (arith, e, cell_below a b u v)) (omega (arith, f))
