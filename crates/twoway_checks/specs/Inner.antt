-- What the code keeps between its steps. It counts and sorts by the number of each reading's cell, its key; `proofs/Keys.antt` shows that the keys give the cells.
-- No public contract cites these words.
use Rattle.std.specs.Prelude.{ℕ, ◌<◌, ◌≤◌, ◌≡◌, Float, length, cond, eqb}
use mathlib.Core.List.{List, [], ◌∷◌, foldl, map}
use Rattle.base.specs.Limits.{most_readings, most_levels}
pub use Rattle.base.specs.Lists.{bump}
use Rattle.twoway_checks.specs.Checks.{largest, levels}
use Rattle.twoway_checks.specs.Cells.{cell_number, numbers}
use Rattle.twoway_checks.specs.Data.{no_counts}

-- codes that can be counted: as many of A as of B, each below 6, and those of B below b
pub record Coded (us vs : List ℕ) (b : ℕ) : Type 0 where
  pub same : length us ≡ length vs
  pub few : length us ≤ most_readings
  pub below : largest us < most_levels
  pub within : largest vs < b
  pub most : b ≤ most_levels

-- what the checks before the counting leave known: a and b are the levels
pub record Leveled (xs : List Float) (us vs : List ℕ) (a b : ℕ) : Type 0 where
  pub readings : length xs ≤ most_readings
  pub same_a : length us ≡ length xs
  pub same_b : length vs ≡ length xs
  pub levels_a : a ≡ levels us
  pub levels_b : b ≡ levels vs
  pub low_a : 2 ≤ a
  pub low_b : 2 ≤ b
  pub high_a : a ≤ most_levels
  pub high_b : b ≤ most_levels

-- the number of each reading's cell, where factor B has b levels
unfoldable pub keys : ℕ → List ℕ → List ℕ → List ℕ
keys b [] vs = []
keys b (u ∷ us) [] = []
keys b (u ∷ us) (v ∷ vs) = cell_number b u v ∷ keys b us vs

-- the readings whose key is c
unfoldable pub keyed : ℕ → List ℕ → List Float → List Float
keyed c [] xs = []
keyed c (k ∷ ks) [] = []
keyed c (k ∷ ks) (x ∷ xs) = cond (eqb k c) (x ∷ keyed c ks xs) (keyed c ks xs)

-- the readings of each of 36 keys
unfoldable pub sorted : List ℕ → List Float → List (List Float)
sorted ks xs = map (λ (c : ℕ). keyed c ks xs) (numbers 0 36)

-- how many readings each key has: one more in its place for each
unfoldable pub tally : List ℕ → List ℕ
tally ks = foldl bump no_counts ks
