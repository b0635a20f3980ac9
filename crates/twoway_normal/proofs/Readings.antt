-- X'y is added up reading by reading from the rows that are kept, and comes behind the rows of X'X.
use Prim.Native.Nat.{ℕ, ◌+◌, ◌*◌, ◌/◌, ◌%◌, ◌<◌, ◌≤◌}
use mathlib.Core.Path.{◌≡◌, refl, sym, ap, ◌∙◌}
use mathlib.Core.Bool.{Bool, true, false, cond}
use mathlib.Core.List.{List}
use native.Mathlib.Nat.{suc-mul, zero-mul, mod-lt, div-lt_iff_lt-mul}
use native.Mathlib.Numerals.{add-one}
use native.Mathlib.Omega.{arith}
use borrow.Author.Tests.{eqb-true, eqb-false, eq-eqb, ne_eqb}
use lib.Dec.{eqb}
use lib.ListN.{length, get_or, get_or-replicate}
use lib.Seq.{get_or-take}
use lib.Ieee.{Float, nan}
use Rattle.base.specs.Limits.{most_cells}
use Rattle.base.specs.Loop.{loop}
use Rattle.base.proofs.Bounds.{row_end}
use Rattle.base.proofs.Walks.{walks}
use Rattle.float.specs.Words.{◌⊕◌, ◌⊗◌, plus_zero}
use Rattle.lent.specs.Wiping.{zeros}
use Rattle.matrix_places.specs.Places.{at}
use Rattle.twoway_normal.specs.Counted.{cells_of, cell_row, cell_at, counts_of, counted_at}
use Rattle.twoway_normal.specs.Inner.{Fitting, Kept, value_at, add_value, ValueSums, column_at, put_column, add_cells}
use Rattle.twoway_normal.specs.Normal.{row_of, product_of, normal_at, normal_system}
use Rattle.twoway_normal.specs.Tables.{table}
use Rattle.twoway_normal.proofs.Coded.{cell_entry, cell_below}
use Rattle.twoway_normal.proofs.Columns.{row_value}
use Rattle.twoway_normal.proofs.Counted.{told_counts, counted_entry, cells_walk}
use Rattle.twoway_normal.proofs.Entries.{same_places, length_places}
use Rattle.twoway_normal.proofs.Lent.{part_at}
use Rattle.twoway_normal.proofs.Ways.{changed, changed_at, changed_idle, same_changed, changed_places, change_next, each_once, loop_ways, row_of_lem, column_of_lem}

-- reading i is added
unfoldable pub add_reading : List Float → List ℕ → List ℕ → ℕ → ℕ → List Float → ℕ → List Float → List Float
add_reading values us vs a b rows i sums = add_value (cell_at us vs a b i * (a * b)) (a * b) rows (get_or values i nan) sums

module _ (values : List Float) (us vs : List ℕ) (a b : ℕ) (f : Fitting values us vs a b) (rows : List Float) (kept : Kept a b (counts_of us vs a b) 0 (cells_of a b) rows) where
  -- its codes are those that are kept for its cell, which has a reading
  kept_code : (i : ℕ) → i < length values → (j : ℕ) → j < a * b → at rows (cell_at us vs a b i * (a * b) + j) ≡ at (row_of values us vs a b i) j
  unfolding row_of
  kept_code i h j l =
      let c = cell_at us vs a b i in
      let z : 0 + c * (a * b) + j ≡ c * (a * b) + j = omega arith in
      let k = kept c (cell_below a b (get_or us i 0) (get_or vs i 0)) ((told_counts values us vs a b f).some i h) in
      ap (at rows) (sym z)
      ∙ sym (part_at (0 + c * (a * b)) (a * b) rows nan j l)
      ∙ ap (λ (s : List Float). at s j) k
      ∙ get_or-take (a * b) (cell_row a b c) j nan l
      ∙ sym (cell_entry a b f.least_a f.most_a f.least_b f.most_b (get_or us i 0) (get_or vs i 0) (get_or values i nan) j l)

  own_value : (i : ℕ) → at (row_of values us vs a b i) (a * b) ≡ get_or values i nan
  unfolding row_of
  own_value i = row_value a b (get_or us i 0) (get_or vs i 0) (get_or values i nan) f.least_a f.most_a f.least_b f.most_b

  reading_ways : (i : ℕ) (s : List Float) → i < length values → length s ≡ most_cells → a * b ≤ most_cells → add_reading values us vs a b rows i s ≡ changed (λ j t. product_of values us vs a b j (a * b) i t) 0 (a * b) s
  unfolding add_reading add_value
  reading_ways i s h e m =
      each_once nan (a * b) s (omega arith) (λ j t. t ⊕ at rows (cell_at us vs a b i * (a * b) + j) ⊗ get_or values i nan) (value_at (cell_at us vs a b i * (a * b)) rows (get_or values i nan)) (λ j s. refl)
      ∙ same_changed (λ j t. t ⊕ at rows (cell_at us vs a b i * (a * b) + j) ⊗ get_or values i nan) (λ j t. product_of values us vs a b j (a * b) i t) 0 (a * b) s
      (λ j t l. rw (kept_code i h j (omega arith), own_value i))

  -- each sum gets its own products in the order of the readings
  pub values_walk : a * b ≤ most_cells → (j : ℕ) → j < a * b → at (loop 0 (length values) (add_reading values us vs a b rows) (zeros most_cells)) j ≡ normal_at values us vs a b j (a * b)
  unfolding normal_at zeros
  values_walk m j l =
      ap (λ (s : List Float). at s j) (loop_ways (a * b) most_cells (length values) (add_reading values us vs a b rows) (λ i j. product_of values us vs a b j (a * b) i) (λ i s h e. reading_ways i s h e m) (zeros most_cells) refl)
      ∙ changed_at (λ j t. loop 0 (length values) (product_of values us vs a b j (a * b)) t) nan 0 (a * b) (zeros most_cells) j l (omega arith)
      ∙ ap (λ (i : ℕ). loop 0 (length values) (product_of values us vs a b i (a * b)) (at (zeros most_cells) j)) (first j)
      ∙ ap (λ (t : Float). loop 0 (length values) (product_of values us vs a b j (a * b)) t) (zero_at_lem j (omega arith))
    where
      first : (j : ℕ) → 0 + j ≡ j
      first j = omega arith

      zero_at_lem : (j : ℕ) → j < most_cells → at (zeros most_cells) j ≡ plus_zero
      zero_at_lem j h = get_or-replicate most_cells j plus_zero nan h

-- ---- the column behind X'X

-- place q: the sum of its row in the last column, else as it was
abbrev put : ℕ → List Float → ℕ → Float → Float
put p sums q t = cond (eqb (q % (p + 1)) p) (at sums (q / (p + 1))) t

module _ (p : ℕ) (sums m : List Float) (room : p * (p + 1) ≤ length m) where
  column_ways : put_column p sums m ≡ changed (put p sums) 0 (p * (p + 1)) m
  unfolding put_column changed
  column_ways =
      walks (column_at p sums) (λ j s. s ≡ changed (put p sums) 0 (j * (p + 1)) m) p
      (λ j s l e.
      let r = row_end j p (p + 1) l room in
      let n : (j + 1) * (p + 1) ≡ j * (p + 1) + p + 1 = rw (add-one, suc-mul j (p + 1)) (omega arith) in
      let i : s ≡ changed (put p sums) 0 (j * (p + 1) + p) m = e ∙ changed_idle (put p sums) nan (j * (p + 1)) p m (omega (arith, r)) (λ k t h. rw (column_of_lem j (p + 1) k (omega arith), ne_eqb k p (λ q. omega arith))) in
      let y : at sums j ≡ put p sums (j * (p + 1) + p) (at s (j * (p + 1) + p)) = rw (column_of_lem j (p + 1) p (omega arith), row_of_lem j (p + 1) p (omega arith), eq-eqb p p refl) in
      rw n (change_next (put p sums) nan (j * (p + 1) + p) m s (at sums j) (omega (arith, r)) i y))
      0 m (omega arith) (rw (zero-mul (p + 1)))

-- the equations: X'X from the counts, X'y behind it
pub system_built : (values : List Float) (us vs : List ℕ) (a b : ℕ) → Fitting values us vs a b → (sums : List Float) → ValueSums values us vs a b sums
    → put_column (a * b) sums (add_cells a b (counts_of us vs a b) (zeros (a * b * (a * b + 1)))) ≡ normal_system values us vs a b
unfolding normal_system table
system_built values us vs a b f sums told =
    ap (put_column p sums) (cells_walk us vs a b)
    ∙ column_ways p sums entries (rw (length_places 0 z (λ q. counted_at us vs a b (q / (p + 1)) (q % (p + 1)))) (omega arith))
    ∙ changed_places (put p sums) (λ q. counted_at us vs a b (q / (p + 1)) (q % (p + 1))) 0 z
    ∙ same_places 0 z (λ q. put p sums q (counted_at us vs a b (q / (p + 1)) (q % (p + 1)))) (λ q. normal_at values us vs a b (q / (p + 1)) (q % (p + 1))) (λ q h. entry q (omega arith) (eqb (q % (p + 1)) p) refl)
  where
    p : ℕ
    p = a * b

    z : ℕ
    z = a * b * (a * b + 1)

    entries : List Float
    entries = table (a * b) (a * b + 1) (counted_at us vs a b)

    entry : (q : ℕ) → q < z → (t : Bool) → eqb (q % (p + 1)) p ≡ t → put p sums q (counted_at us vs a b (q / (p + 1)) (q % (p + 1))) ≡ normal_at values us vs a b (q / (p + 1)) (q % (p + 1))
    entry q h true e =
        let c : q % (p + 1) ≡ p = eqb-true (q % (p + 1)) p e in
        let r : q / (p + 1) < p = (div-lt_iff_lt-mul {k = p + 1} {x = q} {y = p} (omega arith)).1 h in
        rw e (told (q / (p + 1)) r ∙ ap (normal_at values us vs a b (q / (p + 1))) (sym c))
    entry q h false e =
        let r : q / (p + 1) < p = (div-lt_iff_lt-mul {k = p + 1} {x = q} {y = p} (omega arith)).1 h in
        let l : q % (p + 1) < p + 1 = mod-lt q (omega arith) in
        rw e (sym (counted_entry values us vs a b f (q / (p + 1)) (q % (p + 1)) r (omega (arith, l, eqb-false (q % (p + 1)) p e))))
