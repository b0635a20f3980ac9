-- How much room the inverse and the blocks take.
use Prim.Native.Nat.{ℕ, ◌+◌, ◌*◌, ◌<◌, ◌≤◌}
use native.Mathlib.Omega.{arith}
use native.Mathlib.Nat.{add-mul, mul-le-mul}
use Rattle.base.specs.Limits.{most_cells, most_levels}
use Rattle.base.proofs.Bounds.{row_end, product_le}
use Rattle.twoway_type3.specs.Inner.{inverse_from, most_columns}
use Rattle.twoway_normal.proofs.Sizes.{cells_most, system_most}

pub inverse_most : (p : ℕ) → p ≤ most_cells → p * (2 * p) ≤ most_cells * (2 * most_cells)
inverse_most p h = product_le most_cells (2 * most_cells) {x = p} {y = 2 * p} h (omega arith)

pub block_most : (n : ℕ) → n ≤ most_columns → n * (2 * n) ≤ most_columns * (2 * most_columns)
block_most n h = product_le most_columns (2 * most_columns) {x = n} {y = 2 * n} h (omega arith)

-- the rows of X'X end within the system
pub system_rows : (p : ℕ) (i : ℕ) → i < p → 0 + (i * (p + 1) + p) ≤ p * (p + 1)
system_rows p i h = omega (arith, row_end i p (p + 1) {len = p * (p + 1)} h (omega arith))

-- those of an effect's block within the inverse
pub block_rows : (p s n : ℕ) → s + n ≤ p → (i : ℕ) → i < n → s * (2 * p) + (p + s) + (i * (2 * p) + n) ≤ p * (2 * p)
block_rows p s n h i l =
    let r : (s + i) * (2 * p) + 2 * p ≤ p * (2 * p) = row_end (s + i) p (2 * p) (omega arith) (omega arith) in
    omega (arith, r, add-mul s i (2 * p))

-- where it begins
pub block_start : (p s n : ℕ) → 0 < n → s + n ≤ p → s * (2 * p) + (p + s) ≤ p * (2 * p)
block_start p s n z h = let r = block_rows p s n h 0 z in omega (arith, r)

pub cells_some : (a b : ℕ) → 2 ≤ a → 2 ≤ b → 0 < a * b
cells_some a b h k = let e : 1 * 1 ≤ a * b = mul-le-mul {n₁ = 1} {m₁ = 1} {n₂ = a} {m₂ = b} (omega arith) (omega arith) in omega (arith, e)

-- what the system and its inverse take, where each factor has two to six levels
pub solve_room : (a b : ℕ) → (2 ≤ a) × (a ≤ most_levels) × (2 ≤ b) × (b ≤ most_levels) → (0 < a * b) × (a * b ≤ most_cells) × (a * b * (a * b + 1) ≤ inverse_from) × (a * b * (2 * (a * b)) ≤ most_cells * (2 * most_cells))
solve_room a b h =
    let p = cells_most a b h.1 h.3 in
    (cells_some a b h.0 h.2, p, system_most (a * b) p, inverse_most (a * b) p)
