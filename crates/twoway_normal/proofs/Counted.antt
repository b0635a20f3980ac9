-- X'X from the counts of the cells is that of the definition, bit for bit; and so are the normal equations that are built from it.
use Prim.Native.Nat.{ℕ, ◌+◌, ◌*◌, ◌/◌, ◌%◌, ◌<◌}
use mathlib.Core.Path.{◌≡◌, refl, ◌∙◌}
use mathlib.Core.Bool.{Bool, true, false}
use mathlib.Core.List.{List}
use native.Mathlib.Omega.{arith}
use lib.Dec.{eqb}
use lib.ListN.{length, get_or}
use lib.Ieee.{Float, nan}
use Rattle.base.proofs.Loops.{loop_map}
use Rattle.float.specs.Words.{◌⊕◌, ◌⊗◌, count, plus_zero}
use Rattle.lent.specs.Wiping.{zeros}
use Rattle.matrix_places.specs.Places.{at}
use Rattle.twoway_normal.specs.Counted.{cells_of, cell_row, cell_at, counts_of, most_counts, cell_adds, counted_at}
use Rattle.twoway_normal.specs.Inner.{Fitting, add_at, add_row, add_products, add_cell, add_cells}
use Rattle.twoway_normal.specs.Normal.{row_of, product_of, normal_at}
use Rattle.twoway_normal.specs.Tables.{table}
use Rattle.twoway_normal.proofs.Coded.{small_cell, cell_entry, cell_below, cells_few}
use Rattle.twoway_normal.proofs.Tallies.{Small, Told, sum_to, hit, told, counted_hits, counts_give}
use Rattle.twoway_normal.proofs.Ways.{changed, changed_same, own_ways, all_ways}

module _ (values : List Float) (us vs : List ℕ) (a b : ℕ) (f : Fitting values us vs a b) where
  pub inside : (i : ℕ) → i < length values → cell_at us vs a b i < cells_of a b
  inside i h = cell_below a b (get_or us i 0) (get_or vs i 0)

  -- what the counts tell
  pub told_counts : Told (cell_at us vs a b) (cells_of a b) most_counts (length values) (cells_few a b f.most_a f.most_b) inside (length values) (counts_of us vs a b)
  unfolding counts_of
  told_counts = rw f.codes_a (told (cell_at us vs a b) (cells_of a b) most_counts (length values) (cells_few a b f.most_a f.most_b) inside)

  pub counts_tell : (c : ℕ) → c < cells_of a b → get_or (counts_of us vs a b) c 0 ≡ sum_to (λ r. hit c (cell_at us vs a b r)) (length values)
  unfolding counts_of
  counts_tell c h = rw f.codes_a (counted_hits (cell_at us vs a b) (cells_of a b) most_counts (length values) (cells_few a b f.most_a f.most_b) inside c h)

  -- the theorem: no bit of an entry turns on whether readings or cells are added up
  pub counted_entry : (j k : ℕ) → j < a * b → k < a * b → normal_at values us vs a b j k ≡ counted_at us vs a b j k
  unfolding normal_at counted_at counts_of row_of
  counted_entry j k hj hk =
      loop_map (λ (t : Float). t) (λ (t : Float). t ≡ t) (length values) (product_of values us vs a b j k) (λ i t. t ⊕ x (cell_at us vs a b i) ⊗ y (cell_at us vs a b i))
      (λ i t l e. (rw (same j hj i, same k hk i), refl)) 0 plus_zero (omega arith) refl
      ∙ counts_give (cell_at us vs a b) (cells_of a b) most_counts (length values) (cells_few a b f.most_a f.most_b) inside x y (λ c. small c j hj) (λ c. small c k hk) f.few
      ∙ rw (← f.codes_a)
    where
      x : ℕ → Float
      x c = at (cell_row a b c) j

      y : ℕ → Float
      y c = at (cell_row a b c) k

      small : (c j : ℕ) → j < a * b → Small (at (cell_row a b c) j)
      small = small_cell a b f.least_a f.most_a f.least_b f.most_b

      same : (j : ℕ) → j < a * b → (i : ℕ) → at (row_of values us vs a b i) j ≡ at (cell_row a b (cell_at us vs a b i)) j
      same j h i = cell_entry a b f.least_a f.most_a f.least_b f.most_b (get_or us i 0) (get_or vs i 0) (get_or values i nan) j h

-- one cell changes place q by the product of its own row and column
products_ways : (p w : ℕ) (n : Float) (x m : List Float) → length m ≡ p * w → add_products p w n x m ≡ changed (λ q t. t ⊕ n ⊗ at x (q / w) ⊗ at x (q % w)) 0 (p * w) m
unfolding add_products add_row
products_ways p w n x m e = all_ways nan p w m (omega arith) (λ j k t. t ⊕ n ⊗ at x j ⊗ at x k) (add_at w n x) (λ j k s. refl)

-- so each place goes its own way over the cells
module _ (us vs : List ℕ) (a b : ℕ) where
  cell_ways : (c : ℕ) (m : List Float) → length m ≡ a * b * (a * b + 1)
      → add_cell a b c (get_or (counts_of us vs a b) c 0) m ≡ changed (λ q t. cell_adds us vs a b (q / (a * b + 1)) (q % (a * b + 1)) c t) 0 (a * b * (a * b + 1)) m
  unfolding add_cell
  cell_ways c m e = go (eqb (get_or (counts_of us vs a b) c 0) 0) refl
    where
      go : (t : Bool) → eqb (get_or (counts_of us vs a b) c 0) 0 ≡ t → add_cell a b c (get_or (counts_of us vs a b) c 0) m ≡ changed (λ q t. cell_adds us vs a b (q / (a * b + 1)) (q % (a * b + 1)) c t) 0 (a * b * (a * b + 1)) m
      go true p = rw p (changed_same 0 (a * b * (a * b + 1)) m)
      go false p = rw p (products_ways (a * b) (a * b + 1) (count (get_or (counts_of us vs a b) c 0)) (cell_row a b c) m e)

  pub cells_walk : add_cells a b (counts_of us vs a b) (zeros (a * b * (a * b + 1))) ≡ table (a * b) (a * b + 1) (counted_at us vs a b)
  unfolding add_cells counted_at table zeros
  cells_walk = own_ways (a * b * (a * b + 1)) (cells_of a b) (λ c. add_cell a b c (get_or (counts_of us vs a b) c 0)) (λ c q. cell_adds us vs a b (q / (a * b + 1)) (q % (a * b + 1)) c) (λ c m l e. cell_ways c m e) plus_zero
